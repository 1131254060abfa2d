use Rattle.std.proofs.Common.{◌∙◌, sym}
use Rattle.seata_types.specs.declared.messages.Input.TheVariants as input
use Rattle.seata_types.specs.declared.messages.Message.TheVariants as message
use Rattle.coordinator_rules.specs.Knowledge.{knows}
use Rattle.coordinator_rules.proofs.AnswerLaws.{as_value}
use Rattle.coordinator_rules.proofs.Takes.{knows_it, begins_it}
use Rattle.coordinator_rules.proofs.deciding.begin.Goals as goal

pub returns-in-Some : goal.returns-in-Some
returns-in-Some c = λ times m from.
    knows_it (knows times c.args.memory.now m) c.args.now from c.args.manager c.args.timeout c.in-Some.xid (sym c.in-Some.ensures)
    (as_value (input.Message from (message.Begin c.args.manager c.args.timeout)) _ _ c.begun.ensures.value
    (λ managers resources. record { framable = λ f. c.begun.ensures.framable; named = λ n. c.begun.ensures.named managers resources tt n.1 }))
    c.begun.result c.begun.ensures.value

pub returns : goal.returns
returns c = λ times m from.
    begins_it (knows times c.args.memory.now m) c.args.now from c.args.manager c.args.timeout c.next_xid-xid.result (sym c.manager_xid.ensures ∙ c.in_default.is) c.next_xid-xid.ensures c.ranges.now.fits
    (as_value (input.Message from (message.Begin c.args.manager c.args.timeout)) _ _ c.begun-2.ensures.value
    (λ managers resources. record { framable = λ f. c.begun-2.ensures.framable; named = λ n. c.begun-2.ensures.named managers resources tt n.1 }))
    c.begun-2.result c.begun-2.ensures.value
