-- What holds of each item of a list, as far as a loop has come.
use Rattle.std.proofs.Common.{◌≡◌, ◌+◌, ◌<◌, ℕ, zero, suc, nat_lt, true, false, Bool, List, [], ◌∷◌, ◌++◌, map, take, length, slice_get, Some, None, refl, ap, sym, subst, ◌∙◌, arith}
use Rattle.std.proofs.lemmas.Bool.Decides.{nat_tests}
use Rattle.std.proofs.lemmas.List.{map-append}
use Rattle.std.proofs.lemmas.Option.{same_Some, slice_get_within}

-- it holds of the items before the k-th, each with its place
abbrev pub AllBefore : {A : Type 0} → (ℕ → A → Type 0) → List A → ℕ → Type 0
AllBefore {A} P xs k = (i : ℕ) (x : A) → i < k → slice_get xs i ≡ Some x → P i x

pub before_more : {A : Type 0} (P : ℕ → A → Type 0) (xs : List A) (k : ℕ) (x : A) → slice_get xs k ≡ Some x → P k x → AllBefore P xs k → AllBefore P xs (k + 1)
before_more {A} P xs k x at here before = λ i y below there. by i y there (nat_lt i k) refl below
  where
    by : (i : ℕ) (y : A) → slice_get xs i ≡ Some y → (b : Bool) → nat_lt i k ≡ b → i < k + 1 → P i y
    by i y there true e below = before i y (grind (arith, nat_tests)) there
    by i y there false e below =
        let same : i ≡ k = grind (arith, nat_tests) in
        subst (λ j. P j y) (sym same) (subst (P k) (same_Some x y (sym at ∙ ap (slice_get xs) (sym same) ∙ there)) here)

pub before_all : {A : Type 0} (P : ℕ → A → Type 0) (xs : List A) (k : ℕ) → length xs ≡ k → AllBefore P xs k → (i : ℕ) (x : A) → slice_get xs i ≡ Some x → P i x
before_all P xs k end before = λ i x at. let within = slice_get_within xs i x at in before i x (omega (arith, within, end)) at

-- two lists of one length whose items have one image each
pub same_images : {A B C : Type 0} (f : A → C) (g : B → C) (xs : List A) (ys : List B) → length xs ≡ length ys
    → ((i : ℕ) (x : A) → slice_get xs i ≡ Some x → (y : B) → slice_get ys i ≡ Some y → f x ≡ g y) → map f xs ≡ map g ys
same_images f g [] [] e each = refl
same_images f g [] (y ∷ ys) e each = absurd (omega (arith, e))
same_images f g (x ∷ xs) [] e each = absurd (omega (arith, e))
same_images f g (x ∷ xs) (y ∷ ys) e each =
    ap (λ z. z ∷ map f xs) (each zero x refl y refl) ∙ ap (λ zs. g y ∷ zs) (same_images f g xs ys (omega (arith, e)) (λ i a at b there. each (suc i) a at b there))

take_snoc : {A : Type 0} (xs : List A) (k : ℕ) (x : A) → slice_get xs k ≡ Some x → take (suc k) xs ≡ take k xs ++ x ∷ []
take_snoc [] k x e = absurd (let no : None ≡ Some x = e in cc)
take_snoc (y ∷ xs) zero x e = ap (λ z. z ∷ []) (same_Some y x e)
take_snoc (y ∷ xs) (suc k) x e = ap (λ ys. y ∷ ys) (take_snoc xs k x e)

-- one image more, of the k-th item, at the end
pub images_more : {A B C : Type 0} (f : A → C) (g : B → C) (xs : List A) (k : ℕ) (x : A) (ys : List B) (y : B) → slice_get xs k ≡ Some x → f x ≡ g y
    → map f (take k xs) ≡ map g ys → map f (take (k + 1) xs) ≡ map g (ys ++ y ∷ [])
images_more f g xs k x ys y at one before =
    ap (map f) (ap (λ n. take n xs) (let next : k + 1 ≡ suc k = omega arith in next) ∙ take_snoc xs k x at) ∙ map-append f (take k xs) (x ∷ [])
    ∙ ap (λ zs. zs ++ f x ∷ []) before ∙ ap (λ z. map g ys ++ z ∷ []) one ∙ sym (map-append g ys (y ∷ []))
