use Rattle.std.proofs.Common.{◌∙◌, is_some, sym, ap, subst}
use Rattle.byte_fields.specs.Layout.{FitsTicket}
use Rattle.resource_rules.proofs.CallAnswers.{is_again, is_new_ok, is_waiting, of_none}
use Rattle.resource_rules.proofs.calls.call.Goals as goal

pub returns-then-is_nobody : goal.returns-then-is_nobody
returns-then-is_nobody c = λ resource from.
    of_none c.args.setup.now c.args.memory.now c.args.txns.now c.args.caller c.args.work.now resource from (sym c.is_nobody.ensures ∙ c.if-is_nobody.true) _ c.ignored.ensures

pub returns-in-Some : goal.returns-in-Some
returns-in-Some c = λ resource from.
    is_again c.args.setup.now c.args.memory.now c.args.txns.now c.args.caller c.args.work.now resource from (sym c.is_nobody.ensures ∙ c.if-is_nobody.false) c.requires.counted
    c.in-Some.branch c.in_range.ensures.branch (sym c.done_for.ensures ∙ c.in-Some.is) _ c.told.ensures

pub returns-then-is_some : goal.returns-then-is_some
returns-then-is_some c = λ resource from.
    is_waiting c.args.setup.now c.args.memory.now c.args.txns.now c.args.caller c.args.work.now resource from (sym c.is_nobody.ensures ∙ c.if-is_nobody.false) c.requires.counted
    (sym c.done_for.ensures ∙ c.in_default.is) (ap is_some (sym c.find_call.ensures) ∙ sym c.is_some.ensures ∙ c.if-is_some.true) _ c.rests.ensures

pub returns : goal.returns
returns c =
    is_new_ok c.args.setup.now c.args.memory.now c.args.txns.now c.args.caller c.args.work.now c.tables.result.now (sym c.is_nobody.ensures ∙ c.if-is_nobody.false) c.requires.counted
    (sym c.done_for.ensures ∙ c.in_default.is) (ap is_some (sym c.find_call.ensures) ∙ sym c.is_some.ensures ∙ c.if-is_some.false) (subst FitsTicket c.next-ticket.ensures (record { boot = c.in_ticket.ensures.boot; seq = c.in_ticket.ensures.seq })) c.tables.ensures c.new_call.result c.new_call.ensures

pub new_call-requires-clause-one : goal.new_call-requires-clause-one
new_call-requires-clause-one c = sym c.is_nobody.ensures ∙ c.if-is_nobody.false
