use Rattle.std.proofs.Common.{rules, ◌≡◌, ◌∙◌, ap, sym, Some, None, arith}
use Rattle.std.proofs.lemmas.Grind.{common_steps}
use Rattle.std.specs.BTreeMap.Range.{entries_between}
use Rattle.std.specs.declared.ops.Bound.TheVariants.{Included, Unbounded}
use Rattle.seata_types.specs.declared.ids.Leg.{Leg}
use Rattle.lock_table.specs.Locks.{Holds, leg_cmp}
use Rattle.lock_table.proofs.Own.{own_leg, own_leg_is}
use Rattle.lock_table.proofs.holding.leg_of.Goals as goal

pub returns-in-Some : goal.returns-in-Some
returns-in-Some c =
    let range : c.range.result ≡ entries_between leg_cmp (Included c.least_leg.result) Unbounded c.args.legs.now.entries = search rules in
    let first : own_leg c.range.result c.args.xid ≡ Some c.in-Some.leg.now = grind (arith, common_steps) in
    sym first ∙ ap (λ (hs : Holds). own_leg hs c.args.xid) (range ∙ ap (λ (leg : Leg). entries_between leg_cmp (Included leg) Unbounded c.args.legs.now.entries) c.least_leg.ensures) ∙
    own_leg_is c.args.xid c.args.legs.now.entries c.range.ensures.ordered

pub returns-in_default : goal.returns-in_default
returns-in_default c =
    let range : c.range.result ≡ entries_between leg_cmp (Included c.least_leg.result) Unbounded c.args.legs.now.entries = search rules in
    let first : own_leg c.range.result c.args.xid ≡ None = grind (arith, common_steps) in
    sym first ∙ ap (λ (hs : Holds). own_leg hs c.args.xid) (range ∙ ap (λ (leg : Leg). entries_between leg_cmp (Included leg) Unbounded c.args.legs.now.entries) c.least_leg.ensures) ∙
    own_leg_is c.args.xid c.args.legs.now.entries c.range.ensures.ordered

pub returns-in_default-2 : goal.returns-in_default-2
returns-in_default-2 c =
    let range : c.range.result ≡ entries_between leg_cmp (Included c.least_leg.result) Unbounded c.args.legs.now.entries = search rules in
    let first : own_leg c.range.result c.args.xid ≡ None = grind (arith, common_steps) in
    sym first ∙ ap (λ (hs : Holds). own_leg hs c.args.xid) (range ∙ ap (λ (leg : Leg). entries_between leg_cmp (Included leg) Unbounded c.args.legs.now.entries) c.least_leg.ensures) ∙
    own_leg_is c.args.xid c.args.legs.now.entries c.range.ensures.ordered
