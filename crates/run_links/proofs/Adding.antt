-- Lists with one more item behind them.
use Rattle.std.proofs.Common.{◌≡◌, ◌≢◌, ◌⊎◌, inl, inr, ◌+◌, ◌&&◌, ◌||◌, ◌++◌, ℕ, zero, suc, Bool, true, false, List, [], ◌∷◌, drop, set, length, slice_get, Some, None, refl, ap, sym, subst, ◌∙◌, arith, append-nil}
use Rattle.std.specs.List.{list_any}
use Rattle.std.proofs.lemmas.List.Folds.{list_any-append}
use Rattle.std.proofs.lemmas.Option.{same_Some}

-- ---- tests

pub or_false : (b : Bool) → (b || false) ≡ b
or_false true = refl
or_false false = refl

pub or_assoc : (a b c : Bool) → ((a || b) || c) ≡ (a || (b || c))
or_assoc true b c = refl
or_assoc false b c = refl

pub or_swap : (a b : Bool) → (a || (b || false)) ≡ (b || (a || false))
or_swap true true = refl
or_swap true false = refl
or_swap false true = refl
or_swap false false = refl

pub and_swap : (a b : Bool) → (a && b) ≡ (b && a)
and_swap true true = refl
and_swap true false = refl
and_swap false true = refl
and_swap false false = refl

-- ---- one more item, if a test passes

abbrev pub one_if : {A : Type 0} → Bool → A → List A
one_if true x = x ∷ []
one_if false x = []

any_one : {A : Type 0} (test : A → Bool) (b : Bool) (x : A) → list_any test (one_if b x) ≡ (b && test x)
any_one test true x = or_false (test x)
any_one test false x = refl

pub any_more : {A : Type 0} (test : A → Bool) (xs : List A) (b : Bool) (x : A) → list_any test (xs ++ one_if b x) ≡ (list_any test xs || (b && test x))
any_more test xs b x = list_any-append test xs (one_if b x) ∙ ap (λ c. list_any test xs || c) (any_one test b x)

-- what stands there is one of the first, or the one behind them
abbrev pub StandsIn : {A : Type 0} → List A → Bool → A → ℕ → A → Type 0
StandsIn xs b x k y = (slice_get xs k ≡ Some y) ⊎ ((b ≡ true) × (k ≡ length xs) × (x ≡ y))

stands_next : {A : Type 0} (z : A) (xs : List A) (b : Bool) (x : A) (k : ℕ) (y : A) → StandsIn xs b x k y → StandsIn (z ∷ xs) b x (suc k) y
stands_next z xs b x k y (inl e) = inl e
stands_next z xs b x k y (inr (t, at, is)) = inr (t, ap suc at, is)

pub stands_in : {A : Type 0} (xs : List A) (b : Bool) (x : A) (k : ℕ) (y : A) → slice_get (xs ++ one_if b x) k ≡ Some y → StandsIn xs b x k y
stands_in [] true x zero y e = inr (refl, refl, same_Some x y e)
stands_in [] true x (suc k) y e = absurd (let no : None ≡ Some y = e in cc)
stands_in [] false x k y e = absurd (let no : None ≡ Some y = e in cc)
stands_in (z ∷ xs) b x zero y e = inl e
stands_in (z ∷ xs) b x (suc k) y e = stands_next z xs b x k y (stands_in xs b x k y e)

-- each item has it
pub each_more : {A : Type 0} (P : A → Type 0) (xs : List A) (b : Bool) (x : A) → ((k : ℕ) (y : A) → slice_get xs k ≡ Some y → P y) → (b ≡ true → P x)
    → (k : ℕ) (y : A) → slice_get (xs ++ one_if b x) k ≡ Some y → P y
each_more {A} P xs b x each here k y e = by (stands_in xs b x k y e)
  where
    by : StandsIn xs b x k y → P y
    by (inl there) = each k y there
    by (inr (t, at, is)) = subst P is (here t)

-- no two items have one place
abbrev pub AreDifferent : {A B : Type 0} → (A → B) → List A → Type 0
AreDifferent {A} f xs = (j k : ℕ) (x y : A) → slice_get xs j ≡ Some x → slice_get xs k ≡ Some y → f x ≡ f y → j ≡ k

pub different_more : {A B : Type 0} (f : A → B) (xs : List A) (b : Bool) (x : A) → AreDifferent f xs → (b ≡ true → (k : ℕ) (y : A) → slice_get xs k ≡ Some y → f y ≢ f x)
    → AreDifferent f (xs ++ one_if b x)
different_more {A} {B} f xs b x apart other j k y z at there same = by (stands_in xs b x j y at) (stands_in xs b x k z there)
  where
    by : StandsIn xs b x j y → StandsIn xs b x k z → j ≡ k
    by (inl p) (inl q) = apart j k y z p q same
    by (inl p) (inr (t, q, is)) = absurd (other t j y p (same ∙ ap f (sym is)))
    by (inr (t, p, is)) (inl q) = absurd (other t k z q (sym same ∙ ap f (sym is)))
    by (inr (t, p, is)) (inr (u, q, are)) = p ∙ sym q

-- ---- one more at one place or at another

module _ {P A : Type 0} (F F' : P → List A) (at_a at_b : P → Bool) (x y : A)
    (here : (p : P) → at_a p ≡ true → at_b p ≡ false → F' p ≡ F p ++ x ∷ []) (there : (p : P) → at_a p ≡ false → at_b p ≡ true → F' p ≡ F p ++ y ∷ [])
    (else : (p : P) → at_a p ≡ false → at_b p ≡ false → F' p ≡ F p) (apart : (p : P) → at_a p ≡ true → at_b p ≡ true → ⊥) where
  pub both_more : (p : P) → F' p ≡ (F p ++ one_if (at_a p) x) ++ one_if (at_b p) y
  both_more p = by (at_a p) (at_b p) refl refl
    where
      by : (c d : Bool) → at_a p ≡ c → at_b p ≡ d → F' p ≡ (F p ++ one_if c x) ++ one_if d y
      by true true e f = absurd (apart p e f)
      by true false e f = here p e f ∙ sym (append-nil (F p ++ x ∷ []))
      by false true e f = there p e f ∙ ap (λ (l : List A). l ++ y ∷ []) (sym (append-nil (F p)))
      by false false e f = else p e f ∙ sym (append-nil (F p)) ∙ sym (append-nil (F p ++ []))

-- ---- items by their places

pub drop_at : {A : Type 0} (xs : List A) (k : ℕ) (x : A) → slice_get xs k ≡ Some x → drop k xs ≡ x ∷ drop (k + 1) xs
drop_at [] k x e = absurd (let no : None ≡ Some x = e in cc)
drop_at (y ∷ ys) zero x e = ap (λ z. z ∷ ys) (same_Some y x e)
drop_at (y ∷ ys) (suc k) x e = drop_at ys k x e ∙ ap (λ n. x ∷ drop n (y ∷ ys)) (let next : suc (k + 1) ≡ suc k + 1 = omega arith in next)

pub slice_get-set_same : {A : Type 0} (xs : List A) (k : ℕ) (x y : A) → slice_get xs k ≡ Some y → slice_get (set xs k x) k ≡ Some x
slice_get-set_same [] k x y e = absurd (let no : None ≡ Some y = e in cc)
slice_get-set_same (z ∷ xs) zero x y e = refl
slice_get-set_same (z ∷ xs) (suc k) x y e = slice_get-set_same xs k x y e

pub slice_get-set_other : {A : Type 0} (xs : List A) (k j : ℕ) (x : A) → j ≢ k → slice_get (set xs k x) j ≡ slice_get xs j
slice_get-set_other [] k j x other = refl
slice_get-set_other (z ∷ xs) zero zero x other = absurd (other refl)
slice_get-set_other (z ∷ xs) zero (suc j) x other = refl
slice_get-set_other (z ∷ xs) (suc k) zero x other = refl
slice_get-set_other (z ∷ xs) (suc k) (suc j) x other = slice_get-set_other xs k j x (λ e. other (ap (λ n. suc n) e))
