use Rattle.std.proofs.Common.{◌∙◌, sym, ap}
use Rattle.seata_types.specs.declared.messages.Input.TheVariants as input
use Rattle.session_memory.specs.Changes.{is_begin}
use Rattle.coordinator_rules.specs.Choices.{has_passed_in}
use Rattle.coordinator_rules.specs.Knowledge.{knows}
use Rattle.coordinator_rules.specs.Registering.{registers}
use Rattle.coordinator_rules.proofs.AnswerLaws.{as_value}
use Rattle.coordinator_rules.proofs.TakesRows.{closes, comes_late, regrants, to_asker}
use Rattle.coordinator_rules.proofs.registering.before_rows.Goals as goal

pub returns-in-Some-clause-answered : goal.returns-in-Some-clause-answered
returns-in-Some-clause-answered g c = λ hold check times m from.
    regrants (knows times c.args.memory.now m) c.args.now from c.args.xid c.args.place hold check c.in-Some.leg (sym c.in-Some.ensures.leg)
    (as_value (input.Message from (registers c.args.xid c.args.place hold check)) c.regranted.result _ c.regranted.ensures.value
    (to_asker from c.args.xid c.args.place hold check c.regranted.result.step c.regranted.ensures.framable c.regranted.ensures.named))
    c.regranted.result c.regranted.ensures.value

pub returns-then-not-is_begin-clause-answered : goal.returns-then-not-is_begin-clause-answered
returns-then-not-is_begin-clause-answered g c = λ hold check times m from.
    closes (knows times c.args.memory.now m) c.args.now from c.args.xid c.args.place hold check (sym c.leg.ensures.leg ∙ c.in_default.is) c.status-status.result c.status-status.ensures
    (ap is_begin (sym c.status-status.ensures) ∙ sym c.is_begin.ensures ∙ c.if-not-is_begin.true)
    (as_value (input.Message from (registers c.args.xid c.args.place hold check)) c.closed.result _ c.closed.ensures.value
    (to_asker from c.args.xid c.args.place hold check c.closed.result.step c.closed.ensures.framable c.closed.ensures.named))
    c.closed.result c.closed.ensures.value

pub returns-then-has_passed_in-clause-answered : goal.returns-then-has_passed_in-clause-answered
returns-then-has_passed_in-clause-answered g c = λ hold check times m from.
    comes_late (knows times c.args.memory.now m) c.args.now from c.args.xid c.args.place hold check (sym c.leg.ensures.leg ∙ c.in_default.is)
    (ap is_begin (sym c.status-status.ensures) ∙ sym c.is_begin.ensures ∙ c.if-not-is_begin.false) c.ranges.now.fits (ap (λ o. has_passed_in o c.args.now) (sym c.find.ensures) ∙ sym c.has_passed_in.ensures ∙ c.if-has_passed_in.true)
    (as_value (input.Message from (registers c.args.xid c.args.place hold check)) c.late.result _ c.late.ensures.value
    (to_asker from c.args.xid c.args.place hold check c.late.result.step c.late.ensures.framable c.late.ensures.named))
    c.late.result c.late.ensures.value
