-- Keys are read back, and what is read as one stands there.
use Rattle.std.proofs.Common.{◌≡◌, ◌≤◌, ℕ, ◌+◌, Bool, true, false, cond, ◌&&◌, nat_le, All, IsTrue, Option, Some, None, List, [], ◌∷◌, ◌++◌, length, Ok, refl, subst, arith}
use Rattle.std.specs.List.{flat_map}
use Rattle.std.specs.Int.{w8}
use Rattle.std.proofs.lemmas.Bool.Decides.{nat_tests}
use Rattle.seata_types.specs.declared.limits.TheConstants.{KEY_PARTS}
use Rattle.seata_types.specs.declared.rows.RowKey.{RowKey}
use Rattle.seata_types.specs.declared.rows.Value.{Value}
use Rattle.byte_fields.specs.declared.errors.FieldError.TheVariants as errors
use Rattle.byte_fields.specs.declared.layouts.KeyLayout.{KeyLayout}
use Rattle.byte_fields.specs.declared.layouts.KeyLayout.TheVariants as layout
use Rattle.byte_fields.specs.KeyOrder.{is_below}
use Rattle.byte_fields.specs.Layout.{FitsValue, may_come, IsInOrder, any_order, HasParts, FitsParts, FitsKeyIn, FitsKey, value_bytes, parts_bytes, key_bytes_in, key_bytes}
use Rattle.byte_fields.specs.Reading.{Position, gives, fails, number_at, any_value, items_at, counted_values, parts_at, key_in, key_at, next_key}
use Rattle.byte_fields.specs.Exactness.{AreBytes, Stands, ReadsExactly}
use Rattle.byte_fields.proofs.Chains.{part, last_part, whole, step_ok, Stands-then, AreBytes-after}
use Rattle.byte_fields.proofs.Numbers.{byte_back, byte_only, two_bytes_exact}
use Rattle.byte_fields.proofs.Texts.{text_exact, passed}
use Rattle.byte_fields.proofs.Values.{value_exact}
use Rattle.byte_fields.proofs.Sequences.{FollowsExactly, FoundItems, items_back, items_only}

pub in_no_order : {X : Type 0} (last : Option X) (xs : List X) → IsInOrder any_order last xs
in_no_order None [] = tt
in_no_order (Some last) [] = tt
in_no_order None (x ∷ xs) = (refl, in_no_order (Some x) xs)
in_no_order (Some last) (x ∷ xs) = (refl, in_no_order (Some x) xs)

any_comes : (last : Option Value) (v : Value) → IsTrue (may_come any_order last v)
any_comes None v = refl
any_comes (Some last) v = refl

pub values_follow : FollowsExactly any_value value_bytes any_order FitsValue
values_follow last = record {
  back = λ v at rest fits. value_exact.back v at rest fits.0;
  only = λ v place after all e.
      let found = value_exact.only v place after all e in
      ((found.0, any_comes last v), found.1);
}

-- ---- the values of a key

values_back : (pk : List Value) (at : ℕ) (rest : List ℕ) → All FitsValue pk →
    items_at any_value None (length pk) (record { at = at; rest = flat_map value_bytes pk ++ rest }) ≡ Ok (pk, record { at = at + length (flat_map value_bytes pk); rest = rest })
values_back pk at rest fits = items_back any_order any_value value_bytes FitsValue values_follow None pk at rest fits (in_no_order None pk)

values_only : (n : ℕ) (pk : List Value) (place after : Position) → AreBytes place.rest → items_at any_value None n place ≡ Ok (pk, after) → FoundItems any_order value_bytes FitsValue None n pk place after
values_only n pk place after all e = items_only any_order any_value value_bytes FitsValue values_follow n None pk place after all e

-- a count that is allowed was tested, and one that was tested is allowed
is_few : (n : ℕ) → 1 ≤ n → n ≤ KEY_PARTS → (nat_le 1 n && nat_le n KEY_PARTS) ≡ true
is_few n least most = grind (arith, nat_tests)

few_is : (n : ℕ) → (nat_le 1 n && nat_le n KEY_PARTS) ≡ true → HasParts layout.Counted n
few_is n few = (grind (arith, nat_tests), grind (arith, nat_tests))

few_read : (place n : ℕ) (p : Position) → 1 ≤ n → n ≤ KEY_PARTS → counted_values place n p ≡ items_at any_value None n p
few_read place n p least most = rw (is_few n least most) refl

single_exact : ReadsExactly (parts_at layout.Single) (parts_bytes layout.Single) (FitsParts layout.Single)
unfolding parts_at parts_bytes
single_exact = record {
  back = λ pk at rest fits. rw (← fits.count) (values_back pk at rest fits.each);
  only = λ pk place after all e.
      let found = values_only 1 pk place after all e in
      (record { count = found.count; each = found.each }, found.stands);
}

tested : (place n : ℕ) (p after : Position) (pk : List Value) (b : Bool) → cond b (items_at any_value None n) (fails (errors.BadTag place)) p ≡ Ok (pk, after) → (b ≡ true) × (items_at any_value None n p ≡ Ok (pk, after))
tested place n p after pk true e = (refl, e)
tested place n p after pk false e = absurd cc

counted_back : (pk : List Value) (at : ℕ) (rest : List ℕ) → FitsParts layout.Counted pk → parts_at layout.Counted (record { at = at; rest = parts_bytes layout.Counted pk ++ rest }) ≡ Ok (pk, record { at = at + length (parts_bytes layout.Counted pk); rest = rest })
unfolding parts_at parts_bytes
counted_back pk at rest fits =
    let one = byte_back (length pk) at (flat_map value_bytes pk ++ rest) in
    let two = values_back pk (at + 1) rest fits.each in
    let few = few_read at (length pk) (record { at = at + 1; rest = flat_map value_bytes pk ++ rest }) fits.count.0 fits.count.1 in
    let place : at + 1 + length (flat_map value_bytes pk) ≡ at + length (length pk ∷ flat_map value_bytes pk) = omega arith in
    rw (one, few, two, place) refl

counted_only : (pk : List Value) (place after : Position) → AreBytes place.rest → parts_at layout.Counted place ≡ Ok (pk, after) → FitsParts layout.Counted pk × Stands place (parts_bytes layout.Counted pk) after
unfolding parts_at parts_bytes
counted_only pk place after all e =
    let a = step_ok (number_at w8 place) (counted_values place.at) (pk, after) e in
    let count = byte_only a.0.0 place a.0.1 a.1 in
    let few = tested place.at a.0.0 a.0.1 after pk (nat_le 1 a.0.0 && nat_le a.0.0 KEY_PARTS) a.2 in
    let found = values_only a.0.0 pk a.0.1 after (AreBytes-after (a.0.0 ∷ []) place a.0.1 all count) few.1 in
    let both = Stands-then place a.0.1 after (a.0.0 ∷ []) (flat_map value_bytes pk) count found.stands in
    (record { count = rw found.count (few_is a.0.0 few.0); each = found.each }, rw found.count both)

parts_exact : (how : KeyLayout) → ReadsExactly (parts_at how) (parts_bytes how) (FitsParts how)
parts_exact layout.Single = single_exact
parts_exact layout.Counted = record { back = counted_back; only = counted_only }

-- ---- keys

pub key_exact : (how : KeyLayout) → ReadsExactly (key_in how) (key_bytes_in how) (FitsKeyIn how)
unfolding key_in key_bytes_in
key_exact how = whole (key_bytes_in how) (FitsKeyIn how) (λ (k : RowKey). (k.resource, (k.table, k.pk)))
    (part two_bytes_exact (λ resource. part text_exact (λ table. last_part (λ pk. record { resource = resource; table = table; pk = pk }) (parts_exact how))))
    (λ k. refl) (λ k. refl) (λ t. refl)
    (λ k fits. (fits.resource, (fits.table, fits.pk)))
    (λ t fits. record { resource = fits.0; table = fits.1.0; pk = fits.1.1 })

pub next_key_exact : (how : KeyLayout) → FollowsExactly (next_key how) (key_bytes_in how) is_below (FitsKeyIn how)
unfolding next_key
next_key_exact how last = record {
  back = λ k at rest fits. rw ((key_exact how).back k at rest fits.0, fits.1) refl;
  only = λ k place after all e.
      let a = step_ok (key_in how place) (λ key. cond (may_come is_below last key) (gives key) (fails (errors.BadTag place.at))) (k, after) e in
      let found = (key_exact how).only a.0.0 place a.0.1 all a.1 in
      let comes = passed (may_come is_below last a.0.0) (errors.BadTag place.at) a.0.0 a.0.1 (k, after) a.2 in
      subst (λ (r : RowKey × Position). (FitsKeyIn how r.0 × IsTrue (may_come is_below last r.0)) × Stands place (key_bytes_in how r.0) r.1) comes.1 ((found.0, comes.0), found.1);
}

pub written_key_exact : ReadsExactly key_at key_bytes FitsKey
written_key_exact = key_exact layout.Counted
