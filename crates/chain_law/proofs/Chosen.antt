-- For each item of a list one that has a property with it: together a list.
use Rattle.std.proofs.Common.{◌≡◌, ℕ, zero, suc, List, [], ◌∷◌, slice_get, Some, None, refl, subst, ◌+◌, arith, map}
use Rattle.std.specs.List.{AllByRecursion}
use Rattle.std.proofs.lemmas.Option.{same_Some}
use Rattle.scenario_nodes.specs.Together.{AreEach, numbered}

-- the item at a place, with one for the places behind the end
abbrev pub chosen_at : {A : Type 0} → (other : A) → List A → ℕ → A
chosen_at other [] k = other
chosen_at other (x ∷ xs) zero = x
chosen_at other (x ∷ xs) (suc k) = chosen_at other xs k

-- the item of a number that is counted from 1
abbrev pub of_number : {A : Type 0} → (ℕ → A) → (other : A) → ℕ → A
of_number f other zero = other
of_number f other (suc k) = f k

module _ {A B : Type 0} (other : B) where
  pub choices : (C : ℕ → A → B → Type 0) (xs : List A) → ((k : ℕ) (x : A) → slice_get xs k ≡ Some x → (b : B) × C k x b) → (bs : List B) × ((k : ℕ) (x : A) → slice_get xs k ≡ Some x → C k x (chosen_at other bs k))
  choices C [] some = ([], λ k x at. absurd (let no : None ≡ Some x = at in cc))
  choices C (y ∷ ys) some =
      let (b, c) = some zero y refl in
      let (bs, all) = choices (λ k x d. C (suc k) x d) ys (λ k x at. some (suc k) x at) in
      (b ∷ bs, with_first C y ys b c bs all)
    where
      with_first : (C : ℕ → A → B → Type 0) (y : A) (ys : List A) (b : B) → C zero y b → (bs : List B) → ((k : ℕ) (x : A) → slice_get ys k ≡ Some x → C (suc k) x (chosen_at other bs k))
          → (k : ℕ) (x : A) → slice_get (y ∷ ys) k ≡ Some x → C k x (chosen_at other (b ∷ bs) k)
      with_first C y ys b c bs all zero x at = subst (λ z. C zero z b) (same_Some y x at) c
      with_first C y ys b c bs all (suc k) x at = all k x at

-- the one that has a property with the item at a place
pub each_at : {A B : Type 0} (P : A → B → Type 0) (xs : List A) (ys : List B) (k : ℕ) (x : A) → AreEach P xs ys → slice_get xs k ≡ Some x → (y : B) × (slice_get ys k ≡ Some y) × P x y
each_at P [] ys k x each at = absurd (let no : None ≡ Some x = at in cc)
each_at P (u ∷ xs) [] k x each at = absurd each
each_at P (u ∷ xs) (y ∷ ys) zero x each at = (y, refl, subst (λ a. P a y) (same_Some u x at) each.0)
each_at P (u ∷ xs) (y ∷ ys) (suc k) x each at = each_at P xs ys k x each.1 at

-- ---- items behind their numbers

module _ {A B : Type 0} (P : B → Type 0) (f : ℕ × A → B) where
  pub numbered_all : (n : ℕ) (xs : List A) → ((k : ℕ) (x : A) → slice_get xs k ≡ Some x → P (f (n + k, x))) → AllByRecursion P (map f (numbered n xs))
  numbered_all n [] each = tt
  numbered_all n (x ∷ xs) each = (
    subst (λ (j : ℕ). P (f (j, x))) (let same : n + 0 ≡ n = omega arith in same) (each zero x refl),
    numbered_all (n + 1) xs (λ k y at. subst (λ (j : ℕ). P (f (j, y))) (let same : n + suc k ≡ n + 1 + k = omega arith in same) (each (suc k) y at)),
  )

  pub numbered_at : (n : ℕ) (xs : List A) → AllByRecursion P (map f (numbered n xs)) → (k : ℕ) (x : A) → slice_get xs k ≡ Some x → P (f (n + k, x))
  numbered_at n [] all k x at = absurd (let no : None ≡ Some x = at in cc)
  numbered_at n (y ∷ xs) all zero x at = subst (λ (j : ℕ). P (f (j, x))) (let same : n ≡ n + 0 = omega arith in same) (subst (λ z. P (f (n, z))) (same_Some y x at) all.0)
  numbered_at n (y ∷ xs) all (suc k) x at = subst (λ (j : ℕ). P (f (j, x))) (let same : n + 1 + k ≡ n + suc k = omega arith in same) (numbered_at (n + 1) xs all.1 k x at)
