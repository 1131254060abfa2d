-- A search by halves among entries in rising order of keys.
use Rattle.std.proofs.Common.{◌≡◌, ℕ, zero, suc, ◌+◌, ◌-◌, ◌/◌, ◌<◌, ◌≤◌, [], ◌∷◌, length, Some, Less, Equal, Greater, sym, ap, ◌∙◌, arith, inl, inr}
use Rattle.std.specs.Prelude.{slice_get}
use Rattle.std.specs.Ordering.{ordering_reverse}
use Rattle.std.proofs.lemmas.Bool.{cases_lt}
use Rattle.seata_types.specs.Orders.{key_cmp}
use Rattle.seata_types.specs.declared.rows.RowKey.{RowKey}
use Rattle.local_tables.specs.Lookups.{IsRising}
use Rattle.local_tables.specs.Places.{Entries, IsPlace, IsGap}
use Rattle.local_tables.proofs.KeyLaws.{key_cmp_total, key_exact}
use Rattle.local_tables.proofs.MapLaws.{IsBelow, rising_head, rising_tail}

pub greater_from : (a b : RowKey) → key_cmp a b ≡ Less → key_cmp b a ≡ Greater
greater_from a b e = key_cmp_total.antisymm b a ∙ ap ordering_reverse e

less_from : (a b : RowKey) → key_cmp a b ≡ Greater → key_cmp b a ≡ Less
less_from a b e = key_cmp_total.antisymm b a ∙ ap ordering_reverse e

module _ {X : Type 0} where
  below_each : (k : RowKey) (es : Entries X) → IsBelow k es → (j : ℕ) (e : RowKey × X) → slice_get es j ≡ Some e → key_cmp k e.0 ≡ Less
  below_each k [] b j e s = absurd cc
  below_each k (x ∷ xs) b zero e s = let same : x ≡ e = cc in ap (λ (y : RowKey × X). key_cmp k y.0) (sym same) ∙ b.0
  below_each k (x ∷ xs) b (suc j) e s = below_each k xs b.1 j e s

  pub rises : (es : Entries X) → IsRising es → (i j : ℕ) (a b : RowKey × X) → i < j → slice_get es i ≡ Some a → slice_get es j ≡ Some b → key_cmp a.0 b.0 ≡ Less
  rises [] s i j a b lt p q = absurd cc
  rises (x ∷ xs) s i zero a b lt p q = absurd (omega arith)
  rises (x ∷ xs) s zero (suc j) a b lt p q =
      let same : x ≡ a = cc in
      ap (λ (y : RowKey × X). key_cmp y.0 b.0) (sym same) ∙ below_each x.0 xs (rising_head x xs s) j b q
  rises (x ∷ xs) s (suc i) (suc j) a b lt p q = rises xs (rising_tail x xs s) i j a b (omega arith) p q

  past : (es : Entries X) (j : ℕ) (e : RowKey × X) → length es ≤ j → slice_get es j ≡ Some e → ⊥
  past [] j e le at = cc
  past (x ∷ xs) zero e le at = omega arith
  past (x ∷ xs) (suc j) e le at = past xs j e (omega arith) at

  -- what is known after some comparisons: the key belongs between two places
  pub record Searching (es : Entries X) (key : RowKey) (low high : ℕ) : Type 0 where
    pub order : low ≤ high
    pub within : high ≤ length es
    pub below : (j : ℕ) (e : RowKey × X) → j < low → slice_get es j ≡ Some e → key_cmp key e.0 ≡ Greater
    pub above : (j : ℕ) (e : RowKey × X) → high ≤ j → slice_get es j ≡ Some e → key_cmp key e.0 ≡ Less

  at_or_above : (es : Entries X) (key : RowKey) (middle : ℕ) (e : RowKey × X) → IsRising es → slice_get es middle ≡ Some e → key_cmp key e.0 ≡ Less →
      (j : ℕ) (f : RowKey × X) → middle ≤ j → slice_get es j ≡ Some f → key_cmp key f.0 ≡ Less
  at_or_above es key middle e rising there less j f le at =
      elim (cases_lt middle j) [
        | inl more ↦ key_cmp_total.trans key e.0 f.0 less (rises es rising middle j e f more there at)
        | inr least ↦
            let place : j ≡ middle = omega arith in
            let both : Some f ≡ Some e = sym at ∙ ap (λ (i : ℕ). slice_get es i) place ∙ there in
            let same : e ≡ f = cc in
            ap (λ (y : RowKey × X). key_cmp key y.0) (sym same) ∙ less
      ]

  at_or_below : (es : Entries X) (key : RowKey) (middle : ℕ) (e : RowKey × X) → IsRising es → slice_get es middle ≡ Some e → key_cmp key e.0 ≡ Greater →
      (j : ℕ) (f : RowKey × X) → j ≤ middle → slice_get es j ≡ Some f → key_cmp key f.0 ≡ Greater
  at_or_below es key middle e rising there greater j f le at =
      elim (cases_lt j middle) [
        | inl less ↦ greater_from f.0 key (key_cmp_total.trans f.0 e.0 key (rises es rising j middle f e less at there) (less_from key e.0 greater))
        | inr most ↦
            let place : j ≡ middle = omega arith in
            let both : Some f ≡ Some e = sym at ∙ ap (λ (i : ℕ). slice_get es i) place ∙ there in
            let same : e ≡ f = cc in
            ap (λ (y : RowKey × X). key_cmp key y.0) (sym same) ∙ greater
      ]

  pub goes_left : (es : Entries X) (key : RowKey) (low high middle : ℕ) (e : RowKey × X) → IsRising es → Searching es key low high → low < high →
      middle ≡ low + (high - low) / 2 → slice_get es middle ≡ Some e → key_cmp key e.0 ≡ Less → Searching es key low middle
  goes_left es key low high middle e rising s lt is there less =
      record { order = omega arith; within = omega (arith, s.within); below = s.below; above = at_or_above es key middle e rising there less }

  pub goes_right : (es : Entries X) (key : RowKey) (low high middle : ℕ) (e : RowKey × X) → IsRising es → Searching es key low high → low < high →
      middle ≡ low + (high - low) / 2 → slice_get es middle ≡ Some e → key_cmp key e.0 ≡ Greater → Searching es key (middle + 1) high
  goes_right es key low high middle e rising s lt is there greater = record {
    order = omega arith;
    within = s.within;
    below = λ j f less at. at_or_below es key middle e rising there greater j f (omega arith) at;
    above = s.above;
  }

  pub starts : (es : Entries X) (key : RowKey) → Searching es key 0 (length es)
  starts es key =
      record { order = omega arith; within = omega arith; below = λ j e lt at. absurd (omega arith); above = λ j e le at. absurd (past es j e le at) }

  -- the search is over
  pub gap : (es : Entries X) (key : RowKey) (low high : ℕ) → Searching es key low high → high ≤ low → IsGap es key low
  gap es key low high s le = record { within = omega (arith, s.within, s.order); below = s.below; above = λ e at. s.above low e le at }

  pub is_place : (es : Entries X) (key : RowKey) (i : ℕ) (e : RowKey × X) → slice_get es i ≡ Some e → key_cmp key e.0 ≡ Equal → IsPlace es key i
  is_place es key i e there same = record { value = e.1; there = there ∙ ap (λ (k : RowKey). Some (k, e.1)) (sym (key_exact key e.0 same)) }
