use Rattle.std.proofs.Common.{◌≤◌, length, ap, sym, subst}
use Rattle.seata_types.specs.declared.limits.TheConstants.{FIELD_ITEMS}
use Rattle.resource_rules.proofs.grants.tried.Goals as goal

pub untouched-requires : goal.untouched-requires
untouched-requires c = subst (λ n. n ≤ FIELD_ITEMS) (sym (ap length c.as_slice.ensures)) c.requires
