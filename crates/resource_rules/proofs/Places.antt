-- The first place at which a test passes.
use Rattle.std.proofs.Common.{◌≡◌, ◌<◌, ◌+◌, ℕ, zero, suc, Bool, true, false, cond, not, List, [], ◌∷◌, length, Option, Some, None, refl, sym, ◌∙◌, arith}
use Rattle.std.specs.Prelude.{nat_lt}
use Rattle.std.proofs.Math.ListN.{get_or}
use Rattle.std.specs.List.{position, position_or_len}
use Rattle.std.proofs.lemmas.List.Quantifiers.{position-Some}
use Rattle.std.proofs.lemmas.Bool.Decides.{nat_tests}
use Rattle.std.proofs.lemmas.Option.{none-some}

-- the first place at which p passes
abbrev pub IsFirst : {X : Type 0} → (X → Bool) → List X → ℕ → Type 0
IsFirst p [] i = ⊥
IsFirst p (x ∷ xs) zero = p x ≡ true
IsFirst p (x ∷ xs) (suc i) = (p x ≡ false) × IsFirst p xs i

-- p passes at none of them
abbrev pub PassesNone : {X : Type 0} → (X → Bool) → List X → Type 0
PassesNone p [] = Unit {0}
PassesNone p (x ∷ xs) = (p x ≡ false) × PassesNone p xs

first_is : {X : Type 0} (p : X → Bool) (xs : List X) (i : ℕ) (d : X) → i < length xs → p (get_or xs i d) ≡ true → ((k : ℕ) → k < i → p (get_or xs k d) ≡ false) → IsFirst p xs i
first_is p [] i d lt at before = absurd (omega (arith, lt))
first_is p (x ∷ xs) zero d lt at before = at
first_is p (x ∷ xs) (suc i) d lt at before = (before 0 (omega arith), first_is p xs i d (omega (arith, lt)) at (λ k le. before (suc k) (omega (arith, le))))

some_place : {X : Type 0} (p : X → Bool) (xs : List X) (i : ℕ) → position p xs ≡ Some i → (d : X) → IsFirst p xs i
some_place p xs i e d = let k = position-Some p xs i d e in first_is p xs i d k.0 k.1 k.2

pub first_place : {X : Type 0} (p : X → Bool) (xs : List X) (i : ℕ) → position p xs ≡ Some i → IsFirst p xs i
first_place p [] i e = absurd (none-some i e)
first_place p (x ∷ xs) i e = some_place p (x ∷ xs) i e x

first_fits : (n : ℕ) → cond {A = Option ℕ} (nat_lt 0 (suc n)) (Some 0) None ≡ Some 0
first_fits n = let lt : nat_lt 0 (suc n) ≡ true = grind (arith, nat_tests) in rw lt refl

no_place_by : {X : Type 0} (p : X → Bool) (x : X) (xs : List X) (b : Bool) → p x ≡ b →
    cond (nat_lt (cond (not b) (1 + position_or_len p xs) 0) (length (x ∷ xs))) (Some (cond (not b) (1 + position_or_len p xs) 0)) None ≡ None →
    (position p xs ≡ None → PassesNone p xs) → PassesNone p (x ∷ xs)
no_place_by p x xs true is e below = absurd (none-some 0 (sym e ∙ first_fits (length xs)))
no_place_by p x xs false is e below = (is, below (fewer (position_or_len p xs) (length xs) e))
  where
    fewer_by : (m n : ℕ) (b : Bool) → nat_lt m n ≡ b → cond (nat_lt (1 + m) (suc n)) (Some (1 + m)) None ≡ None → cond b (Some m) None ≡ None
    fewer_by m n true lt e = absurd (let more : nat_lt (1 + m) (suc n) ≡ true = grind (arith, nat_tests) in cc)
    fewer_by m n false lt e = refl

    fewer : (m n : ℕ) → cond (nat_lt (1 + m) (suc n)) (Some (1 + m)) None ≡ None → cond (nat_lt m n) (Some m) None ≡ None
    fewer m n e = fewer_by m n (nat_lt m n) refl e

pub no_place : {X : Type 0} (p : X → Bool) (xs : List X) → position p xs ≡ None → PassesNone p xs
no_place p [] e = tt
no_place p (x ∷ xs) e = no_place_by p x xs (p x) refl e (no_place p xs)

-- it is one of their places
pub place_within : {X : Type 0} (p : X → Bool) (xs : List X) (i : ℕ) → position p xs ≡ Some i → i < length xs
place_within p [] i e = absurd (none-some i e)
place_within p (x ∷ xs) i e = (position-Some p (x ∷ xs) i x e).0
