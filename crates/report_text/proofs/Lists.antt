-- Lists with one more at the end, and numbers counted from 1.
use Rattle.std.proofs.Common.{◌≡◌, inl, inr, ℕ, zero, suc, ◌+◌, ◌-◌, ◌<◌, ◌≤◌, List, [], ◌∷◌, ◌++◌, length, map, take, slice_get, Some, None, option_map, refl, ap, sym, ◌∙◌, arith}
use Rattle.std.proofs.lemmas.Option.{same_Some, slice_get-map}
use Rattle.durable_records.specs.Members.{In}
use Rattle.durable_records.proofs.MemberFacts.{AreCounted, counted_in}
use Rattle.session_log.specs.SnapshotOf.{in_order}
use Rattle.history_rules.specs.Nodes.{counted_at}

pub snoc_below : {A : Type 0} (xs : List A) (x : A) (k : ℕ) → k < length xs → slice_get (xs ++ x ∷ []) k ≡ slice_get xs k
snoc_below [] x k below = absurd (omega arith)
snoc_below (y ∷ xs) x zero below = refl
snoc_below (y ∷ xs) x (suc k) below = snoc_below xs x k (omega arith)

pub snoc_end : {A : Type 0} (xs : List A) (x : A) → slice_get (xs ++ x ∷ []) (length xs) ≡ Some x
snoc_end [] x = refl
snoc_end (y ∷ xs) x = snoc_end xs x

pub length-snoc : {A : Type 0} (xs : List A) (x : A) → length (xs ++ x ∷ []) ≡ length xs + 1
length-snoc [] x = refl
length-snoc (y ∷ xs) x = let below = length-snoc xs x in omega (arith, below)

-- equal lists with one more at the end have equal ends and equal fronts
pub record SameEnds {A : Type 0} (xs ys : List A) (x y : A) : Type 0 where
  pub front : xs ≡ ys
  pub end : x ≡ y

pub snoc_not_nil : {A : Type 0} (xs : List A) (x : A) → xs ++ x ∷ [] ≡ [] → ⊥
snoc_not_nil [] x e = cc
snoc_not_nil (y ∷ xs) x e = cc

pub same_ends : {A : Type 0} (xs ys : List A) (x y : A) → xs ++ x ∷ [] ≡ ys ++ y ∷ [] → SameEnds xs ys x y
same_ends [] [] x y e = record { front = refl; end = cc }
same_ends [] (z ∷ ys) x y e = absurd (snoc_not_nil ys y (sym (let rest : [] ≡ ys ++ y ∷ [] = cc in rest)))
same_ends (w ∷ xs) [] x y e = absurd (snoc_not_nil xs x (let rest : xs ++ x ∷ [] ≡ [] = cc in rest))
same_ends (w ∷ xs) (z ∷ ys) x y e =
    let rest : xs ++ x ∷ [] ≡ ys ++ y ∷ [] = cc in
    let below = same_ends xs ys x y rest in
    let first : w ≡ z = cc in
    record { front = ap (λ v. v ∷ xs) first ∙ ap (λ vs. z ∷ vs) below.front; end = below.end }

-- one more is taken
pub take_snoc : {A : Type 0} (xs : List A) (k : ℕ) (x : A) → slice_get xs k ≡ Some x → take (suc k) xs ≡ take k xs ++ x ∷ []
take_snoc [] k x e = absurd (let no : None ≡ Some x = e in cc)
take_snoc (y ∷ xs) zero x e = ap (λ z. z ∷ []) (same_Some y x e)
take_snoc (y ∷ xs) (suc k) x e = ap (λ ys. y ∷ ys) (take_snoc xs k x e)

-- ---- the first ones first

pub length-in_order : {A : Type 0} (xs : List A) → length (in_order xs) ≡ length xs
length-in_order [] = refl
length-in_order (x ∷ xs) = length-snoc (in_order xs) x ∙ (let below = length-in_order xs in omega (arith, below))

-- the newest one stands at the end
pub in_order-last : {A : Type 0} (x : A) (xs : List A) → slice_get (in_order (x ∷ xs)) (length xs) ≡ Some x
in_order-last x xs = ap (slice_get (in_order xs ++ x ∷ [])) (sym (length-in_order xs)) ∙ snoc_end (in_order xs) x

pub in_order-below : {A : Type 0} (x : A) (xs : List A) (k : ℕ) → k < length xs → slice_get (in_order (x ∷ xs)) k ≡ slice_get (in_order xs) k
in_order-below x xs k below = snoc_below (in_order xs) x k (let same = length-in_order xs in omega (arith, below, same))

-- ---- counted from 1

pub counted_pos : {A : Type 0} (list : List A) (n : ℕ) → 1 ≤ n → counted_at list n ≡ slice_get list (n - 1)
counted_pos list zero least = absurd (omega arith)
counted_pos list (suc k) least = ap (slice_get list) (omega arith)

-- of numbered things, newest first, each stands at its number among the first ones
pub counted_there : {A B : Type 0} (number : A → ℕ) (f : A → B) (xs : List A) (a : A) → AreCounted number xs → In a xs → counted_at (map f (in_order xs)) (number a) ≡ Some (f a)
counted_there {A = A} number f xs a counted i =
    let within = counted_in number xs counted a i in
    counted_pos (map f (in_order xs)) (number a) within.0 ∙ slice_get-map f (in_order xs) (number a - 1) ∙ ap (option_map f) (there xs counted i)
  where
    there : (ys : List A) → AreCounted number ys → In a ys → slice_get (in_order ys) (number a - 1) ≡ Some a
    there [] counted i = absurd i
    there (y ∷ ys) counted (inl is) =
        let place : number a - 1 ≡ length ys = let n : number a ≡ length ys + 1 = ap number is ∙ counted.0 in omega (arith, n) in
        ap (slice_get (in_order (y ∷ ys))) place ∙ in_order-last y ys ∙ ap (λ z. Some z) (sym is)
    there (y ∷ ys) counted (inr i) =
        let within = counted_in number ys counted.1 a i in
        in_order-below y ys (number a - 1) (let low = within.0 in let high = within.1 in omega (arith, low, high)) ∙ there ys counted.1 i
