-- Lists with one more member, with one changed, and what is left of one.
use Rattle.std.proofs.Common.{◌≡◌, ◌≢◌, ◌+◌, ◌<◌, ◌≤◌, ℕ, zero, suc, List, [], ◌∷◌, ◌++◌, drop, length, set, slice_get, Some, None, refl, ap, sym, ◌∙◌, arith}
use Rattle.std.proofs.lemmas.Option.{same_Some}

-- ---- none

pub emptied : {A : Type 0} (xs : List A) (n : ℕ) → n ≡ length xs → n ≡ 0 → xs ≡ []
emptied [] n size none = refl
emptied (x ∷ xs) n size none = absurd (omega (arith, size, none))

-- ---- one more

pub snoc_below : {A : Type 0} (xs : List A) (x : A) (k : ℕ) → k < length xs → slice_get (xs ++ x ∷ []) k ≡ slice_get xs k
snoc_below [] x k below = absurd (omega arith)
snoc_below (y ∷ xs) x zero below = refl
snoc_below (y ∷ xs) x (suc k) below = snoc_below xs x k (omega arith)

pub snoc_end : {A : Type 0} (xs : List A) (x : A) → slice_get (xs ++ x ∷ []) (length xs) ≡ Some x
snoc_end [] x = refl
snoc_end (y ∷ xs) x = snoc_end xs x

pub snoc_past : {A : Type 0} (xs : List A) (x : A) (k : ℕ) → length xs < k → slice_get (xs ++ x ∷ []) k ≡ None
snoc_past [] x zero past = absurd (omega arith)
snoc_past [] x (suc k) past = refl
snoc_past (y ∷ xs) x zero past = absurd (omega arith)
snoc_past (y ∷ xs) x (suc k) past = snoc_past xs x k (omega arith)

pub get_past : {A : Type 0} (xs : List A) (k : ℕ) → length xs ≤ k → slice_get xs k ≡ None
get_past [] k past = refl
get_past (x ∷ xs) zero past = absurd (omega (arith, past))
get_past (x ∷ xs) (suc k) past = get_past xs k (omega (arith, past))

-- there is a member for each number below the count
pub member_at : {A : Type 0} (xs : List A) (k : ℕ) → k < length xs → (x : A) × (slice_get xs k ≡ Some x)
member_at [] k below = absurd (omega (arith, below))
member_at (x ∷ xs) zero below = (x, refl)
member_at (x ∷ xs) (suc k) below = member_at xs k (omega (arith, below))

-- ---- one changed

pub slice_get-set_same : {A : Type 0} (xs : List A) (k : ℕ) (x y : A) → slice_get xs k ≡ Some y → slice_get (set xs k x) k ≡ Some x
slice_get-set_same [] k x y e = absurd (let no : None ≡ Some y = e in cc)
slice_get-set_same (z ∷ xs) zero x y e = refl
slice_get-set_same (z ∷ xs) (suc k) x y e = slice_get-set_same xs k x y e

pub slice_get-set_other : {A : Type 0} (xs : List A) (k j : ℕ) (x : A) → j ≢ k → slice_get (set xs k x) j ≡ slice_get xs j
slice_get-set_other [] k j x other = refl
slice_get-set_other (z ∷ xs) zero zero x other = absurd (other refl)
slice_get-set_other (z ∷ xs) zero (suc j) x other = refl
slice_get-set_other (z ∷ xs) (suc k) zero x other = refl
slice_get-set_other (z ∷ xs) (suc k) (suc j) x other = slice_get-set_other xs k j x (λ e. other (ap (λ n. suc n) e))

-- ---- what is left

none_left : {A : Type 0} (x : A) (xs : List A) → [] ≡ x ∷ xs → ⊥
none_left x xs e = cc

pub drop_first : {A : Type 0} (xs : List A) (n : ℕ) (x : A) (rest : List A) → drop n xs ≡ x ∷ rest → slice_get xs n ≡ Some x
drop_first [] n x rest e = absurd (none_left x rest (sym (drop_nil n) ∙ e))
  where
    drop_nil : {A : Type 0} (n : ℕ) → drop {A = A} n [] ≡ []
    drop_nil zero = refl
    drop_nil (suc n) = refl
drop_first (y ∷ xs) zero x rest e = cc
drop_first (y ∷ xs) (suc n) x rest e = drop_first xs n x rest e

pub drop_next : {A : Type 0} (xs : List A) (n : ℕ) (x : A) (rest : List A) → drop n xs ≡ x ∷ rest → drop (n + 1) xs ≡ rest
drop_next [] zero x rest e = absurd (none_left x rest e)
drop_next [] (suc n) x rest e = absurd (none_left x rest e)
drop_next (y ∷ xs) zero x rest e = cc
drop_next (y ∷ xs) (suc n) x rest e = ap (λ k. drop k (y ∷ xs)) (let one : suc n + 1 ≡ suc (n + 1) = omega arith in one) ∙ drop_next xs n x rest e

pub drop_below : {A : Type 0} (xs : List A) (n : ℕ) (x : A) (rest : List A) → drop n xs ≡ x ∷ rest → n < length xs
drop_below [] zero x rest e = absurd (none_left x rest e)
drop_below [] (suc n) x rest e = absurd (none_left x rest e)
drop_below (y ∷ xs) zero x rest e = omega arith
drop_below (y ∷ xs) (suc n) x rest e = let below = drop_below xs n x rest e in omega (arith, below)

pub drop_all : {A : Type 0} (xs : List A) (n : ℕ) → drop n xs ≡ [] → length xs ≤ n
drop_all [] n e = omega arith
drop_all (y ∷ xs) zero e = absurd (none_left y xs (sym e))
drop_all (y ∷ xs) (suc n) e = let within = drop_all xs n e in omega (arith, within)

pub drop_past : {A : Type 0} (xs : List A) (n : ℕ) → length xs ≤ n → drop n xs ≡ []
drop_past [] zero past = refl
drop_past [] (suc n) past = refl
drop_past (y ∷ xs) zero past = absurd (omega (arith, past))
drop_past (y ∷ xs) (suc n) past = drop_past xs n (omega (arith, past))

-- the first of what is left
pub drop_get : {A : Type 0} (xs : List A) (n : ℕ) (x : A) → slice_get xs n ≡ Some x → drop n xs ≡ x ∷ drop (n + 1) xs
drop_get [] n x e = absurd (let no : None ≡ Some x = e in cc)
drop_get (y ∷ xs) zero x e = ap (λ z. z ∷ xs) (same_Some y x e)
drop_get (y ∷ xs) (suc n) x e = drop_get xs n x e ∙ ap (λ k. x ∷ drop k (y ∷ xs)) (let one : suc (n + 1) ≡ suc n + 1 = omega arith in one)
