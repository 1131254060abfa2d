-- A search by halves among rows in rising order.
use Rattle.std.proofs.Common.{◌≡◌, ℕ, zero, suc, ◌+◌, ◌-◌, ◌/◌, ◌^◌, ◌<◌, ◌≤◌, [], ◌∷◌, length, Some, Less, Equal, Greater, sym, ap, ◌∙◌, arith, inl, inr}
use Rattle.std.specs.Prelude.{slice_get}
use Rattle.std.specs.Ordering.{ordering_reverse}
use Rattle.seata_types.specs.Orders.{key_cmp}
use Rattle.seata_types.specs.declared.rows.RowKey.{RowKey}
use Rattle.local_tables.specs.Lookups.{IsRising}
use Rattle.local_tables.proofs.KeyLaws.{key_cmp_total, key_exact}
use Rattle.local_tables.proofs.MapLaws.{IsBelow, rising_head, rising_tail}
use Rattle.std.proofs.lemmas.Bool.{cases_lt}
use Rattle.lock_table.specs.declared.holder.Holder.{Holder}
use Rattle.lock_table.specs.Counts.{Index}
use Rattle.lock_table.specs.Searches.{IsPlace, IsGap}

pub greater_from : (a b : RowKey) → key_cmp a b ≡ Less → key_cmp b a ≡ Greater
greater_from a b e = key_cmp_total.antisymm b a ∙ ap ordering_reverse e

less_from : (a b : RowKey) → key_cmp a b ≡ Greater → key_cmp b a ≡ Less
less_from a b e = key_cmp_total.antisymm b a ∙ ap ordering_reverse e

below_each : (k : RowKey) (es : Index) → IsBelow k es → (j : ℕ) (e : RowKey × Holder) → slice_get es j ≡ Some e → key_cmp k e.0 ≡ Less
below_each k [] b j e s = absurd cc
below_each k (x ∷ xs) b zero e s = let same : x ≡ e = cc in ap (λ (y : RowKey × Holder). key_cmp k y.0) (sym same) ∙ b.0
below_each k (x ∷ xs) b (suc j) e s = below_each k xs b.1 j e s

pub rises : (es : Index) → IsRising es → (i j : ℕ) (a b : RowKey × Holder) → i < j → slice_get es i ≡ Some a → slice_get es j ≡ Some b → key_cmp a.0 b.0 ≡ Less
rises [] s i j a b lt p q = absurd cc
rises (x ∷ xs) s i zero a b lt p q = absurd (omega arith)
rises (x ∷ xs) s zero (suc j) a b lt p q =
    let same : x ≡ a = cc in
    ap (λ (y : RowKey × Holder). key_cmp y.0 b.0) (sym same) ∙ below_each x.0 xs (rising_head x xs s) j b q
rises (x ∷ xs) s (suc i) (suc j) a b lt p q = rises xs (rising_tail x xs s) i j a b (omega arith) p q

past : (ls : Index) (j : ℕ) (e : RowKey × Holder) → length ls ≤ j → slice_get ls j ≡ Some e → ⊥
past [] j e le at = cc
past (x ∷ xs) zero e le at = omega arith
past (x ∷ xs) (suc j) e le at = past xs j e (omega arith) at

-- what is known after some comparisons: the key belongs between two places, and each comparison halved their distance
pub record Searching (ls : Index) (key : RowKey) (low high first now : ℕ) : Type 0 where
  pub order : low ≤ high
  pub within : high ≤ length ls
  pub below : (j : ℕ) (e : RowKey × Holder) → j < low → slice_get ls j ≡ Some e → key_cmp key e.0 ≡ Greater
  pub above : (j : ℕ) (e : RowKey × Holder) → high ≤ j → slice_get ls j ≡ Some e → key_cmp key e.0 ≡ Less
  pub cost : (d : ℕ) → length ls < 2 ^ d → (e : ℕ) × (high - low < 2 ^ e) × (now + e ≤ first + d)

halved : (n e : ℕ) → 0 < n → n < 2 ^ e → (f : ℕ) × (e ≡ f + 1) × (n / 2 < 2 ^ f) × (n - (n / 2 + 1) < 2 ^ f)
halved n zero some small = absurd (omega arith)
halved n (suc f) some small = (f, omega arith, omega arith, omega arith)

at_or_above : (ls : Index) (key : RowKey) (middle : ℕ) (e : RowKey × Holder) → IsRising ls → slice_get ls middle ≡ Some e → key_cmp key e.0 ≡ Less →
    (j : ℕ) (f : RowKey × Holder) → middle ≤ j → slice_get ls j ≡ Some f → key_cmp key f.0 ≡ Less
at_or_above ls key middle e rising there less j f le at =
    elim (cases_lt middle j) [
      | inl more ↦ key_cmp_total.trans key e.0 f.0 less (rises ls rising middle j e f more there at)
      | inr least ↦
          let place : j ≡ middle = omega arith in
          let both : Some f ≡ Some e = sym at ∙ ap (λ (i : ℕ). slice_get ls i) place ∙ there in
          let same : e ≡ f = cc in
          ap (λ (y : RowKey × Holder). key_cmp key y.0) (sym same) ∙ less
    ]

at_or_below : (ls : Index) (key : RowKey) (middle : ℕ) (e : RowKey × Holder) → IsRising ls → slice_get ls middle ≡ Some e → key_cmp key e.0 ≡ Greater →
    (j : ℕ) (f : RowKey × Holder) → j ≤ middle → slice_get ls j ≡ Some f → key_cmp key f.0 ≡ Greater
at_or_below ls key middle e rising there greater j f le at =
    elim (cases_lt j middle) [
      | inl less ↦ greater_from f.0 key (key_cmp_total.trans f.0 e.0 key (rises ls rising j middle f e less at there) (less_from key e.0 greater))
      | inr most ↦
          let place : j ≡ middle = omega arith in
          let both : Some f ≡ Some e = sym at ∙ ap (λ (i : ℕ). slice_get ls i) place ∙ there in
          let same : e ≡ f = cc in
          ap (λ (y : RowKey × Holder). key_cmp key y.0) (sym same) ∙ greater
    ]

pub goes_left : (ls : Index) (key : RowKey) (low high first now later middle : ℕ) (e : RowKey × Holder) → IsRising ls → Searching ls key low high first now → low < high →
    middle ≡ low + (high - low) / 2 → slice_get ls middle ≡ Some e → key_cmp key e.0 ≡ Less → later ≤ now + 1 → Searching ls key low middle first later
goes_left ls key low high first now later middle e rising s lt is there less ticked = record {
  order = omega arith;
  within = omega (arith, s.within);
  below = s.below;
  above = at_or_above ls key middle e rising there less;
  cost = λ d small.
      let old = s.cost d small in
      let half = halved (high - low) old.0 (omega arith) old.1 in
      (half.0, omega (arith, half.2, is), omega (arith, half.1, old.2));
}

pub goes_right : (ls : Index) (key : RowKey) (low high first now later middle : ℕ) (e : RowKey × Holder) → IsRising ls → Searching ls key low high first now → low < high →
    middle ≡ low + (high - low) / 2 → slice_get ls middle ≡ Some e → key_cmp key e.0 ≡ Greater → later ≤ now + 1 → Searching ls key (middle + 1) high first later
goes_right ls key low high first now later middle e rising s lt is there greater ticked = record {
  order = omega arith;
  within = s.within;
  below = λ j f less at. at_or_below ls key middle e rising there greater j f (omega arith) at;
  above = s.above;
  cost = λ d small.
      let old = s.cost d small in
      let half = halved (high - low) old.0 (omega arith) old.1 in
      (half.0, omega (arith, half.3, is), omega (arith, half.1, old.2));
}

pub starts : (ls : Index) (key : RowKey) (first : ℕ) → Searching ls key 0 (length ls) first first
starts ls key first = record {
  order = omega arith;
  within = omega arith;
  below = λ j e lt at. absurd (omega arith);
  above = λ j e le at. absurd (past ls j e le at);
  cost = λ d small. (d, omega arith, omega arith);
}

-- the search is over
pub gap : (ls : Index) (key : RowKey) (low high first now : ℕ) → Searching ls key low high first now → high ≤ low → IsGap ls key low
gap ls key low high first now s le = record { within = omega (arith, s.within, s.order); below = s.below; above = λ e at. s.above low e le at }

pub found_cost : (ls : Index) (key : RowKey) (low high first now later : ℕ) → Searching ls key low high first now → low < high → later ≤ now + 1 → (d : ℕ) → length ls < 2 ^ d → later ≤ first + d
found_cost ls key low high first now later s lt ticked d small =
    let old = s.cost d small in
    let half = halved (high - low) old.0 (omega arith) old.1 in
    omega (arith, half.1, old.2)

pub missed_cost : (ls : Index) (key : RowKey) (low high first now : ℕ) → Searching ls key low high first now → (d : ℕ) → length ls < 2 ^ d → now ≤ first + d
missed_cost ls key low high first now s d small = let old = s.cost d small in omega (arith, old.2)

pub is_place : (ls : Index) (key : RowKey) (i : ℕ) (e : RowKey × Holder) → slice_get ls i ≡ Some e → key_cmp key e.0 ≡ Equal → IsPlace ls key i
is_place ls key i e there same = record { holder = e.1; there = there ∙ ap (λ (k : RowKey). Some (k, e.1)) (sym (key_exact key e.0 same)) }
