use Rattle.std.proofs.Common.{◌∙◌, ◌≤◌, List, Option, length, ap, sym, subst}
use Rattle.std.specs.Option.{option_copied}
use Rattle.seata_types.specs.declared.limits.TheConstants.{FIELD_ITEMS}
use Rattle.seata_types.specs.declared.statements.Stmt.{Stmt}
use Rattle.resource_rules.proofs.RulingLaws.{ok_as}
use Rattle.resource_rules.proofs.TccEnds.{no_rollback, none_found}
use Rattle.resource_rules.proofs.tcc_ends.cancel.Goals as goal

pub returns-in_default : goal.returns-in_default
returns-in_default c = λ ts from.
    no_rollback c.args.setup.now c.args.memory.now ts c.args.leg c.args.manager c.args.call from
    (sym c.action_of.ensures ∙ ap (λ (o : Option _). option_copied o) (none_found c.action_of.result c.in_default.not-Some)) _ c.ignored.ensures

pub cancel_for-requires : goal.cancel_for-requires
cancel_for-requires c =
    subst (λ (ss : List Stmt). length ss ≤ FIELD_ITEMS) (sym c.as_slice.ensures)
    (c.requires.actions c.args.manager c.args.call c.in-Some.action.now (sym c.action_of.ensures ∙ ap (λ (o : Option _). option_copied o) c.in-Some.is)).cancels

pub returns : goal.returns
returns c =
    ok_as c.cancel_for.result
    (λ a all. λ ts. all c.args.setup.now ts c.args.manager c.args.call c.in-Some.action.now (sym c.action_of.ensures ∙ ap (λ (o : Option _). option_copied o) c.in-Some.is) c.as_slice.ensures)
    c.cancel_for.ensures.rules
