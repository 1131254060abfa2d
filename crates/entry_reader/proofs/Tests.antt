-- Tests of texts and lists.
use Rattle.std.proofs.Common.{◌≡◌, ℕ, zero, suc, ◌<◌, Bool, true, false, List, [], ◌∷◌, ◌++◌, length, Some, refl, ap, sym, ◌∙◌, nat_eq, arith}
use Rattle.std.specs.Prelude.{◌&&◌, ◌||◌, not, slice_get}
use Rattle.std.specs.List.{list_all, list_any}
use Rattle.std.proofs.lemmas.Bool.Decides.{nat_tests}
use Rattle.seata_types.specs.Orders.{same_text}
use Rattle.entry_reader.proofs.Ascii.{both_left, both_right}

pub both : (a b : Bool) → a ≡ true → b ≡ true → (a && b) ≡ true
both true true p q = refl
both true false p q = q
both false b p q = p

pub not_true : (b : Bool) → not b ≡ true → b ≡ false
not_true true h = cc
not_true false h = refl

pub neither_left : (a b : Bool) → (a || b) ≡ false → a ≡ false
neither_left true b h = cc
neither_left false b h = refl

pub neither_right : (a b : Bool) → (a || b) ≡ false → b ≡ false
neither_right true b h = cc
neither_right false b h = h

same_number : (c : ℕ) → nat_eq c c ≡ true
same_number c = grind (arith, nat_tests)

equal_numbers : (c d : ℕ) → nat_eq c d ≡ true → c ≡ d
equal_numbers c d h = grind (arith, nat_tests)

pub same_self : (t : List ℕ) → same_text t t ≡ true
same_self [] = refl
same_self (c ∷ cs) = both (nat_eq c c) (same_text cs cs) (same_number c) (same_self cs)

pub equal_texts : (a b : List ℕ) → same_text a b ≡ true → a ≡ b
equal_texts [] [] h = refl
equal_texts [] (d ∷ ds) h = cc
equal_texts (c ∷ cs) [] h = cc
equal_texts (c ∷ cs) (d ∷ ds) h =
    let one : c ≡ d = equal_numbers c d (both_left (nat_eq c d) (same_text cs ds) h) in
    let others : cs ≡ ds = equal_texts cs ds (both_right (nat_eq c d) (same_text cs ds) h) in
    cc

pub all-more : (p q : ℕ → Bool) (t : List ℕ) → ((c : ℕ) → p c ≡ true → q c ≡ true) → list_all p t ≡ true → list_all q t ≡ true
all-more p q [] more h = refl
all-more p q (c ∷ cs) more h =
    both (q c) (list_all q cs) (more c (both_left (p c) (list_all p cs) h)) (all-more p q cs more (both_right (p c) (list_all p cs) h))

-- what stands in a list meets what all of it meet
pub all-at : {A : Type 0} (p : A → Bool) (xs : List A) (k : ℕ) (x : A) → list_all p xs ≡ true → slice_get xs k ≡ Some x → p x ≡ true
all-at p [] k x h at_k = cc
all-at p (y ∷ ys) zero x h at_k =
    let same : y ≡ x = cc in ap p (sym same) ∙ both_left (p y) (list_all p ys) h
all-at p (y ∷ ys) (suc k) x h at_k = all-at p ys k x (both_right (p y) (list_all p ys) h) at_k

pub any-at : {A : Type 0} (p : A → Bool) (xs : List A) (k : ℕ) (x : A) → list_any p xs ≡ false → slice_get xs k ≡ Some x → p x ≡ false
any-at p [] k x h at_k = cc
any-at p (y ∷ ys) zero x h at_k =
    let same : y ≡ x = cc in ap p (sym same) ∙ neither_left (p y) (list_any p ys) h
any-at p (y ∷ ys) (suc k) x h at_k = any-at p ys k x (neither_right (p y) (list_any p ys) h) at_k

pub any-left : {A : Type 0} (p : A → Bool) (xs ys : List A) → list_any p (xs ++ ys) ≡ false → list_any p xs ≡ false
any-left p [] ys h = refl
any-left p (x ∷ xs) ys h =
    let one : p x ≡ false = neither_left (p x) (list_any p (xs ++ ys)) h in
    let others : list_any p xs ≡ false = any-left p xs ys (neither_right (p x) (list_any p (xs ++ ys)) h) in
    ap (λ b. b || list_any p xs) one ∙ others

pub any-right : {A : Type 0} (p : A → Bool) (xs ys : List A) → list_any p (xs ++ ys) ≡ false → list_any p ys ≡ false
any-right p [] ys h = h
any-right p (x ∷ xs) ys h = any-right p xs ys (neither_right (p x) (list_any p (xs ++ ys)) h)

pub all-left : {A : Type 0} (p : A → Bool) (xs ys : List A) → list_all p (xs ++ ys) ≡ true → list_all p xs ≡ true
all-left p [] ys h = refl
all-left p (x ∷ xs) ys h =
    both (p x) (list_all p xs) (both_left (p x) (list_all p (xs ++ ys)) h) (all-left p xs ys (both_right (p x) (list_all p (xs ++ ys)) h))

pub all-right : {A : Type 0} (p : A → Bool) (xs ys : List A) → list_all p (xs ++ ys) ≡ true → list_all p ys ≡ true
all-right p [] ys h = h
all-right p (x ∷ xs) ys h = all-right p xs ys (both_right (p x) (list_all p (xs ++ ys)) h)

pub get-within : {A : Type 0} (xs : List A) (k : ℕ) → k < length xs → (x : A) × (slice_get xs k ≡ Some x)
get-within [] k h = absurd (omega (arith, h))
get-within (x ∷ xs) zero h = (x, refl)
get-within (x ∷ xs) (suc k) h = get-within xs k (omega arith)
