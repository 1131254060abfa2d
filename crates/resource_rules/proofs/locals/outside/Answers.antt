use Rattle.std.proofs.Common.{◌∙◌, ◌≤◌, List, Option, Some, length, ap, sym, subst, refl}
use Rattle.std.specs.Option.{option_copied}
use Rattle.seata_types.specs.declared.limits.TheConstants.{FIELD_ITEMS}
use Rattle.seata_types.specs.declared.statements.Stmt.{Stmt}
use Rattle.resource_rules.proofs.LocalAnswers.{outside_unknown}
use Rattle.resource_rules.proofs.RulingLaws.{ok_as}
use Rattle.resource_rules.proofs.TccEnds.{none_found}
use Rattle.resource_rules.proofs.locals.outside.Goals as goal

pub returns-in_default : goal.returns-in_default
returns-in_default c =
    outside_unknown c.args.setup.now c.args.memory.now c.args.txns.now c.args.number
    (sym c.local_of.ensures ∙ ap (λ (o : Option _). option_copied o) (none_found c.local_of.result c.in_default.not-Some)) _ c.ignored.ensures

pub outside_for-requires : goal.outside_for-requires
outside_for-requires c =
    subst (λ (ss : List Stmt). length ss ≤ FIELD_ITEMS) (sym (c.as_slice.ensures ∙ c.get.ensures))
    (c.requires.locals c.args.number c.in-Some.stmts.now (sym c.local_of.ensures ∙ ap (λ (o : Option _). option_copied o) c.in-Some.is))

pub returns : goal.returns
returns c =
    ok_as c.outside_for.result
    (λ a all. all c.args.setup.now c.args.txns.now (sym c.local_of.ensures ∙ ap (λ (o : Option _). option_copied o) c.in-Some.is ∙ ap Some (sym (c.as_slice.ensures ∙ c.get.ensures))) refl)
    c.outside_for.ensures.rules
