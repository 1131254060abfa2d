use Rattle.std.proofs.Common.{◌∙◌, Option, is_some, sym, ap, subst}
use Rattle.std.specs.Option.{option_copied}
use Rattle.byte_fields.specs.Layout.{FitsTicket}
use Rattle.resource_rules.proofs.LocalAnswers.{local_ok, local_unknown, local_waits}
use Rattle.resource_rules.proofs.TccEnds.{none_found}
use Rattle.resource_rules.proofs.locals.local.Goals as goal

pub returns-in_default : goal.returns-in_default
returns-in_default c =
    local_unknown c.args.setup.now c.args.memory.now c.args.txns.now c.args.number
    (sym c.local_of.ensures ∙ ap (λ (o : Option _). option_copied o) (none_found c.local_of.result c.in_default.not-Some)) _ c.ignored.ensures

pub returns-then-is_some : goal.returns-then-is_some
returns-then-is_some c =
    local_waits c.args.setup.now c.args.memory.now c.args.txns.now c.args.number c.in-Some.stmts.now (sym c.local_of.ensures ∙ ap (λ (o : Option _). option_copied o) c.in-Some.is)
    (ap is_some (sym c.find_call.ensures) ∙ sym c.is_some.ensures ∙ c.if-is_some.true) _ c.rests.ensures

pub new_local-requires-clause-statements : goal.new_local-requires-clause-statements
new_local-requires-clause-statements c = c.requires.counted.locals c.args.number c.in-Some.stmts.now (sym c.local_of.ensures ∙ ap (λ (o : Option _). option_copied o) c.in-Some.is)

pub returns : goal.returns
returns c =
    local_ok c.args.setup.now c.args.memory.now c.args.txns.now c.args.number c.in-Some.stmts.now c.tables.result.now (sym c.local_of.ensures ∙ ap (λ (o : Option _). option_copied o) c.in-Some.is)
    (ap is_some (sym c.find_call.ensures) ∙ sym c.is_some.ensures ∙ c.if-is_some.false) (subst FitsTicket c.next-ticket.ensures (record { boot = c.in_ticket.ensures.boot; seq = c.in_ticket.ensures.seq })) c.tables.ensures c.new_local.result c.new_local.ensures
