use Rattle.std.proofs.Common.{◌∙◌, ◌≤◌, sym, subst}
use Rattle.seata_types.specs.declared.limits.TheConstants.{FIELD_ITEMS}
use Rattle.resource_rules.proofs.CountedEffects.{counted_effect}
use Rattle.resource_rules.proofs.grants.run_try.Goals as goal

pub tried-requires : goal.tried-requires
tried-requires c =
    subst (λ n. n ≤ FIELD_ITEMS) (sym (counted_effect c.args.tables.now c.args.stmts.now c.in-Ok.effect (sym c.in_ok-effect.ensures ∙ c.in-Ok.is)).counts) c.requires
