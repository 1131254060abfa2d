-- A search among transactions, or branches, whose numbers rise.
use Rattle.std.proofs.Common.{◌≡◌, ◌==◌, ◌<◌, ◌≤◌, ℕ, zero, suc, Bool, true, false, cond, List, [], ◌∷◌, length, Some, None, option_map, Less, Equal, Greater, refl, sym, ap, ◌∙◌, arith}
use Rattle.std.specs.Prelude.{find, nat_lt}
use Rattle.std.proofs.Math.ListN.{get_or}
use Rattle.std.specs.List.{position, position_or_len, HoldsAt}
use Rattle.std.specs.List.Sorted.{IsNonDecreasingBy, IsPartitionPoint}
use Rattle.std.specs.Ordering.{nat_cmp, ordering_index}
use Rattle.std.proofs.lemmas.List.Sums.{position_or_len_is}
use Rattle.std.proofs.lemmas.Bool.Decides.{nat_tests}
use Rattle.session_log.specs.declared.sessions.SessionEntry.{SessionEntry}
use Rattle.session_memory.specs.Lookups.{has_xid, session_of}
use Rattle.session_memory.specs.Order.{AreAbove, AreRising, Each}
use Rattle.session_memory.proofs.Small.{nat_differs, nat_same, cmp_is}
use Rattle.session_memory.proofs.PlaceLaws.{IsFirst, first_place, no_place}

-- ---- numbers that rise

module _ {X : Type 0} (number : X → ℕ) where
  abbrev pub has : ℕ → X → Bool
  has x e = number e == x

  above_at : (n : ℕ) (es : List X) → AreAbove number n es → (k : ℕ) (d : X) → k < length es → n < number (get_or es k d)
  above_at n [] a k d lt = absurd (omega (arith, lt))
  above_at n (e ∷ es) a zero d lt = a.0
  above_at n (e ∷ es) a (suc k) d lt = above_at n es a.1 k d (omega (arith, lt))

  rises : (es : List X) → AreRising number es → (i j : ℕ) (d : X) → i < j → j < length es → number (get_or es i d) < number (get_or es j d)
  rises [] r i j d lt in_range = absurd (omega (arith, in_range))
  rises (e ∷ es) r i zero d lt in_range = absurd (omega (arith, lt))
  rises (e ∷ es) r zero (suc j) d lt in_range = above_at (number e) es r.0 j d (omega (arith, in_range))
  rises (e ∷ es) r (suc i) (suc j) d lt in_range = rises es r.1 i j d (omega (arith, lt)) (omega (arith, in_range))

-- ---- a place

placed : (n at len : ℕ) → n ≡ at → at < len → Some at ≡ cond (nat_lt n len) (Some n) None
placed n at len e lt = let t : nat_lt n len ≡ true = grind (arith, nat_tests) in ap Some (sym e) ∙ sym (ap (λ b. cond b (Some n) None) t)

missing : (n len : ℕ) → n ≡ len → None ≡ cond (nat_lt n len) (Some n) None
missing n len e = let t : nat_lt n len ≡ false = grind (arith, nat_tests) in sym (ap (λ b. cond b (Some n) None) t)

module _ {X : Type 0} (number : X → ℕ) (es : List X) (x : ℕ) (rising : AreRising number es) where
  rises_to : (i j : ℕ) (d : X) → i ≤ j → j < length es → number (get_or es i d) ≤ number (get_or es j d)
  rises_to i j d le in_range = grind (arith, rises number es rising i j d, λ (same : i ≡ j). ap (λ n. number (get_or es n d)) same)

  comparisons_rise : IsNonDecreasingBy (λ e. ordering_index (nat_cmp (number e) x)) es
  comparisons_rise i j d le in_range = let up = rises_to i j d le in_range in grind (arith, nat_tests)

  found_at : (at : ℕ) (d : X) → at < length es → nat_cmp (number (get_or es at d)) x ≡ Equal → Some at ≡ position (has number x) es
  found_at at d lt equal =
      let here : number (get_or es at d) ≡ x = cmp_is (number (get_or es at d)) x Equal equal in
      placed (position_or_len (has number x) es) at (length es)
      (position_or_len_is (has number x) es at d (omega (arith, lt))
      (λ k below. nat_differs (number (get_or es k d)) x (λ same. let up = rises number es rising k at d below lt in omega (arith, up, here, same)))
      (λ within. nat_same (number (get_or es at d)) x here)) lt

  nowhere : (at : ℕ) (d : X) → (IsNonDecreasingBy (λ e. ordering_index (nat_cmp (number e) x)) es
      → IsPartitionPoint (λ e. nat_cmp (number e) x ≡ Less) (λ e. nat_cmp (number e) x ≡ Greater) es at) → None ≡ position (has number x) es
  nowhere at d parted =
      missing (position_or_len (has number x) es) (length es)
      (position_or_len_is (has number x) es (length es) d (omega arith) (λ k lt. differs k lt (nat_lt k at) refl) (λ lt. absurd (omega (arith, lt))))
    where
      differs : (k : ℕ) → k < length es → (b : Bool) → nat_lt k at ≡ b → has number x (get_or es k d) ≡ false
      differs k lt true e =
          let below : number (get_or es k d) < x = cmp_is (number (get_or es k d)) x Less ((parted comparisons_rise).0 k d (omega arith) (grind (arith, nat_tests))) in
          nat_differs (number (get_or es k d)) x (λ same. omega (arith, below, same))
      differs k lt false e =
          let above : x < number (get_or es k d) = cmp_is (number (get_or es k d)) x Greater ((parted comparisons_rise).1 k d (grind (arith, nat_tests)) lt) in
          nat_differs (number (get_or es k d)) x (λ same. omega (arith, above, same))

-- what the search answers is the place
module _ {X : Type 0} (number : X → ℕ) where
  pub found_in : (es : List X) (x : ℕ) → AreRising number es → (at : ℕ) → at < length es → HoldsAt (λ e. nat_cmp (number e) x ≡ Equal) es at → Some at ≡ position (has number x) es
  found_in [] x rising at lt equal = absurd (omega (arith, lt))
  found_in (e ∷ es) x rising at lt equal = found_at number (e ∷ es) x rising at e lt (equal e)

  -- and it answers none where there is none
  pub nowhere_in : (es : List X) (x : ℕ) → AreRising number es → (at : ℕ)
      → (IsNonDecreasingBy (λ e. ordering_index (nat_cmp (number e) x)) es → IsPartitionPoint (λ e. nat_cmp (number e) x ≡ Less) (λ e. nat_cmp (number e) x ≡ Greater) es at) → None ≡ position (has number x) es
  nowhere_in [] x rising at parted = missing 0 0 refl
  nowhere_in (e ∷ es) x rising at parted = nowhere number (e ∷ es) x rising at e parted

-- ---- the transaction at a place

first_found : (p : SessionEntry → Bool) (es : List SessionEntry) (at : ℕ) (d : SessionEntry) → IsFirst p es at → Some (get_or es at d) ≡ find p es
first_found p [] at d f = absurd f
first_found p (e ∷ es) zero d f = sym (ap (λ b. cond b (Some e) (find p es)) f)
first_found p (e ∷ es) (suc at) d f = first_found p es at d f.1 ∙ sym (ap (λ b. cond b (Some e) (find p es)) f.0)

none_found : (p : SessionEntry → Bool) (es : List SessionEntry) → Each (λ e. p e ≡ false) es → None ≡ find p es
none_found p [] f = refl
none_found p (e ∷ es) f = none_found p es f.1 ∙ sym (ap (λ b. cond b (Some e) (find p es)) f.0)

pub session_at : (x : ℕ) (es : List SessionEntry) (at : ℕ) (d : SessionEntry) → Some at ≡ position (has_xid x) es
    → Some (get_or es at d).session ≡ option_map session_of (find (has_xid x) es)
session_at x es at d e = ap (option_map session_of) (first_found (has_xid x) es at d (first_place (has_xid x) es at (sym e)))

pub session_nowhere : (x : ℕ) (es : List SessionEntry) → None ≡ position (has_xid x) es → None ≡ option_map session_of (find (has_xid x) es)
session_nowhere x es e = ap (option_map session_of) (none_found (has_xid x) es (no_place (has_xid x) es (sym e)))
