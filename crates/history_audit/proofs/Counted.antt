-- Members of lists that are counted from 1.
use Rattle.std.proofs.Common.{◌≡◌, ◌≢◌, ◌⊎◌, inl, inr, ◌-◌, ◌≤◌, ◌<◌, ℕ, zero, suc, List, [], ◌∷◌, length, set, slice_get, Some, None, refl, ap, sym, ◌∙◌, arith}
use Rattle.std.proofs.lemmas.Option.{slice_get_past, slice_get_within}
use Rattle.history_rules.specs.Nodes.{counted_at}

module _ {A : Type 0} where
  pub counted_pos : (xs : List A) (n : ℕ) → 1 ≤ n → counted_at xs n ≡ slice_get xs (n - 1)
  counted_pos xs zero low = absurd (omega (arith, low))
  counted_pos xs (suc k) low = ap (slice_get xs) (omega arith)

  set_same : (xs : List A) (k : ℕ) (x y : A) → slice_get xs k ≡ Some y → slice_get (set xs k x) k ≡ Some x
  set_same [] k x y e = absurd (let no : None ≡ Some y = e in cc)
  set_same (z ∷ xs) zero x y e = refl
  set_same (z ∷ xs) (suc k) x y e = set_same xs k x y e

  set_other : (xs : List A) (k j : ℕ) (x : A) → j ≢ k → slice_get (set xs k x) j ≡ slice_get xs j
  set_other [] k j x other = refl
  set_other (z ∷ xs) zero zero x other = absurd (other refl)
  set_other (z ∷ xs) zero (suc j) x other = refl
  set_other (z ∷ xs) (suc k) zero x other = refl
  set_other (z ∷ xs) (suc k) (suc j) x other = set_other xs k j x (λ e. other (ap suc e))

  pub counted_is : (xs : List A) (n : ℕ) (x : A) → 1 ≤ n → slice_get xs (n - 1) ≡ Some x → counted_at xs n ≡ Some x
  counted_is xs n x low at = counted_pos xs n low ∙ at

  -- there is none at 0, and none beyond the last
  pub counted_none : (xs : List A) (n : ℕ) → (n ≡ 0) ⊎ (length xs < n) → counted_at xs n ≡ None
  counted_none xs zero past = refl
  counted_none xs (suc k) (inl none) = absurd (omega (arith, none))
  counted_none xs (suc k) (inr past) = slice_get_past xs k (omega (arith, past))

  pub counted_low : (xs : List A) (n : ℕ) (x : A) → counted_at xs n ≡ Some x → 1 ≤ n
  counted_low xs zero x e = absurd (let no : None ≡ Some x = e in cc)
  counted_low xs (suc n) x e = omega arith

  -- no more than there are members
  pub counted_high : (xs : List A) (n : ℕ) (x : A) → counted_at xs n ≡ Some x → n ≤ length xs
  counted_high xs n x e =
      let low = counted_low xs n x e in
      let below = slice_get_within xs (n - 1) x (sym (counted_pos xs n low) ∙ e) in
      omega (arith, low, below)

  member_at : (xs : List A) (k : ℕ) → k < length xs → (x : A) × (slice_get xs k ≡ Some x)
  member_at [] k below = absurd (omega (arith, below))
  member_at (x ∷ xs) zero below = (x, refl)
  member_at (x ∷ xs) (suc k) below = member_at xs k (omega (arith, below))

  -- there is one for each number
  pub counted_there : (xs : List A) (n : ℕ) → 1 ≤ n → n ≤ length xs → (x : A) × (counted_at xs n ≡ Some x)
  counted_there xs n low high = let (x, at) = member_at xs (n - 1) (omega (arith, low, high)) in (x, counted_pos xs n low ∙ at)

  -- one that is put in place of another, and all others
  pub counted_set : (xs : List A) (n : ℕ) (x y : A) → counted_at xs n ≡ Some y → counted_at (set xs (n - 1) x) n ≡ Some x
  counted_set xs n x y e =
      let low = counted_low xs n y e in
      counted_pos (set xs (n - 1) x) n low ∙ set_same xs (n - 1) x y (sym (counted_pos xs n low) ∙ e)

  pub counted_elsewhere : (xs : List A) (n k : ℕ) (x : A) → 1 ≤ n → k ≢ n → counted_at (set xs (n - 1) x) k ≡ counted_at xs k
  counted_elsewhere xs n zero x low apart = refl
  counted_elsewhere xs n (suc k) x low apart = set_other xs (n - 1) k x (λ e. apart (omega (arith, e, low)))
