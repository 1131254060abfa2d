-- The order of branches is total, and branches that compare as equal are one.
use Rattle.std.proofs.Common.{◌≡◌, ℕ, Ordering, Less, Equal, Greater, refl, ap, true≢false}
use Rattle.std.specs.Cmp.{IsTotalOrder}
use Rattle.std.specs.Ordering.{nat_cmp, ordering_then, is_lt, is_gt}
use Rattle.std.proofs.lemmas.Cmp.{nat_cmp_total, on_total, then_total}
use Rattle.std.proofs.lemmas.Map.Lookups.{CmpEqualImpliesEq, exact_unsigned}
use Rattle.seata_types.specs.declared.ids.Leg.{Leg}
use Rattle.durable_records.specs.Fences.{leg_cmp}
use Rattle.undo_log.specs.Entries.{order}
use Rattle.tcc_fence.specs.Meanings.{pair_of}

both_equal : (a b : Ordering) → ordering_then a b ≡ Equal → (a ≡ Equal) × (b ≡ Equal)
both_equal Less b e = absurd (true≢false (ap is_lt e))
both_equal Equal b e = (refl, e)
both_equal Greater b e = absurd (true≢false (ap is_gt e))

pub pair_total : IsTotalOrder leg_cmp
pair_total = then_total (on_total (λ (p : ℕ × ℕ). p.0) nat_cmp_total) (on_total (λ (p : ℕ × ℕ). p.1) nat_cmp_total)

pub pair_exact : CmpEqualImpliesEq leg_cmp
pair_exact a b e =
    let both = both_equal (nat_cmp a.0 b.0) (nat_cmp a.1 b.1) e in
    λ i. (exact_unsigned a.0 b.0 both.0 i, exact_unsigned a.1 b.1 both.1 i)

pub leg_total : IsTotalOrder order
leg_total = on_total (λ (l : Leg). pair_of l) pair_total

pub leg_exact : CmpEqualImpliesEq order
leg_exact a b e =
    let same : pair_of a ≡ pair_of b = pair_exact (pair_of a) (pair_of b) e in
    λ i. record { xid = record { 0 = (same i).0 }; branch = record { 0 = (same i).1 } }
