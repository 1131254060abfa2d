-- The order of entries is total, and an entry's number and place are what it stands by.
use Rattle.std.proofs.Common.{◌≡◌, ◌==◌, ◌&&◌, nat_lt, ℕ, Bool, true, false, cond, Ordering, Less, Equal, Greater, refl, sym, ap, ◌∙◌, arith, true≢false}
use Rattle.std.specs.Cmp.{IsTotalOrder}
use Rattle.std.specs.Ordering.{nat_cmp, ordering_then, is_eq, is_lt, is_gt}
use Rattle.std.proofs.lemmas.Bool.Decides.{nat_tests}
use Rattle.std.proofs.lemmas.Cmp.{nat_cmp_total, on_total, then_total}
use Rattle.std.proofs.lemmas.Map.Lookups.{CmpEqualImpliesEq, exact_unsigned}
use Rattle.seata_types.specs.declared.ids.Place.{Place}
use Rattle.seata_types.specs.declared.ids.Place.TheVariants as place
use Rattle.history_rules.specs.Histories.{rank, same_place}
use Rattle.history_text.specs.declared.entries.Origin.{Origin}
use Rattle.history_text.specs.Origins.{origin_cmp, origin_of}

pub origin_total : IsTotalOrder origin_cmp
origin_total =
    then_total (on_total (λ (o : Origin). o.stamp) nat_cmp_total)
    (then_total (on_total (λ (o : Origin). o.kind) nat_cmp_total) (on_total (λ (o : Origin). o.number) nat_cmp_total))

pub both_equal : (a b : Ordering) → ordering_then a b ≡ Equal → (a ≡ Equal) × (b ≡ Equal)
both_equal Less b e = absurd (true≢false (ap is_lt e))
both_equal Equal b e = (refl, e)
both_equal Greater b e = absurd (true≢false (ap is_gt e))

pub origin_exact : CmpEqualImpliesEq origin_cmp
origin_exact a b e =
    let first = both_equal (nat_cmp a.stamp b.stamp) (ordering_then (nat_cmp a.kind b.kind) (nat_cmp a.number b.number)) e in
    let second = both_equal (nat_cmp a.kind b.kind) (nat_cmp a.number b.number) first.1 in
    λ i. record {
      stamp = exact_unsigned a.stamp b.stamp first.0 i;
      kind = exact_unsigned a.kind b.kind second.0 i;
      number = exact_unsigned a.number b.number second.1 i;
    }

-- ---- whether an entry of this number and place is looked for

equal_then : (a b : Ordering) → is_eq (ordering_then a b) ≡ (is_eq a && is_eq b)
equal_then Less b = refl
equal_then Equal b = refl
equal_then Greater b = refl

equal_by : (low same : Bool) → (low ≡ true → same ≡ false) → is_eq (cond low Less (cond same Equal Greater)) ≡ same
equal_by true true apart = sym (apart refl)
equal_by true false apart = refl
equal_by false true apart = refl
equal_by false false apart = refl

low_differs : (m n : ℕ) → nat_lt m n ≡ true → (m == n) ≡ false
low_differs m n e = grind (arith, nat_tests)

equal_nat : (m n : ℕ) → is_eq (nat_cmp m n) ≡ (m == n)
equal_nat m n = equal_by (nat_lt m n) (m == n) (low_differs m n)

rank_test : (p q : Place) → is_eq (ordering_then (nat_cmp (rank p).0 (rank q).0) (nat_cmp (rank p).1 (rank q).1)) ≡ same_place p q
rank_test place.Net place.Net = refl
rank_test place.Net _ = refl
rank_test place.Tc place.Tc = refl
rank_test place.Tc _ = refl
rank_test (place.Res m) (place.Res n) = equal_nat m n
rank_test (place.Res m) _ = refl
rank_test (place.Man m) (place.Man n) = equal_nat m n
rank_test (place.Man m) _ = refl

pub origin_test : (stamp : ℕ) (from : Place) (wanted : ℕ) (p : Place)
    → is_eq (origin_cmp (origin_of stamp from) (origin_of wanted p)) ≡ ((stamp == wanted) && same_place from p)
origin_test stamp from wanted p =
    equal_then (nat_cmp stamp wanted) (ordering_then (nat_cmp (rank from).0 (rank p).0) (nat_cmp (rank from).1 (rank p).1))
    ∙ ap (λ b. b && is_eq (ordering_then (nat_cmp (rank from).0 (rank p).0) (nat_cmp (rank from).1 (rank p).1))) (equal_nat stamp wanted)
    ∙ ap (λ b. (stamp == wanted) && b) (rank_test from p)
