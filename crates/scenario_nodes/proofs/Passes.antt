-- What holds of each item of a list, as far as a loop has come.
use Rattle.std.proofs.Common.{◌≡◌, ◌+◌, ◌<◌, ℕ, nat_lt, Bool, true, false, List, All, get_or, length, slice_get, Some, refl, ap, sym, subst, ◌∙◌, arith}
use Rattle.std.proofs.lemmas.Bool.Decides.{nat_tests}
use Rattle.std.proofs.lemmas.Option.{get_or_from_slice_get, same_Some, slice_get-get_or, slice_get_within}

-- it holds of the items before the k-th
abbrev pub AllBefore : {A : Type 0} → (A → Type 0) → List A → ℕ → Type 0
AllBefore {A} P xs k = (i : ℕ) (x : A) → i < k → slice_get xs i ≡ Some x → P x

pub before_more : {A : Type 0} (P : A → Type 0) (xs : List A) (k : ℕ) (x : A) → slice_get xs k ≡ Some x → P x → AllBefore P xs k → AllBefore P xs (k + 1)
before_more {A} P xs k x at here before = λ i y below there. by i y there (nat_lt i k) refl below
  where
    by : (i : ℕ) (y : A) → slice_get xs i ≡ Some y → (b : Bool) → nat_lt i k ≡ b → i < k + 1 → P y
    by i y there true e below = before i y (grind (arith, nat_tests)) there
    by i y there false e below =
        let same : i ≡ k = grind (arith, nat_tests) in
        subst P (same_Some x y (sym at ∙ ap (slice_get xs) (sym same) ∙ there)) here

pub before_all : {A : Type 0} (P : A → Type 0) (xs : List A) (k : ℕ) → length xs ≡ k → AllBefore P xs k → All P xs
before_all P xs k end before = λ i d below. before i (get_or xs i d) (omega (arith, below, end)) (slice_get-get_or xs i d below)

-- an item of a list has what all of them have
pub placed : {A : Type 0} (P : A → Type 0) (xs : List A) (k : ℕ) (x : A) → slice_get xs k ≡ Some x → All P xs → P x
placed P xs k x at all = subst P (get_or_from_slice_get xs k x x at) (all k x (slice_get_within xs k x at))
