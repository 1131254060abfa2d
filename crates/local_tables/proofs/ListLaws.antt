-- Counts and tests over mapped lists.
use Rattle.std.proofs.Common.{◌≡◌, ℕ, suc, ◌+◌, ◌<◌, Bool, true, false, ◌&&◌, cond, List, [], ◌∷◌, length, get_or, map, fold, find, Option, Some, count_by, drop, drop-cons, refl, sym, ap, ◌∙◌}
use Rattle.std.specs.List.{list_all}

fold_map : {A B C : Type 0} (g : C → B → C) (f : A → B) (start : C) (xs : List A) → fold g start (map f xs) ≡ fold (λ c x. g c (f x)) start xs
fold_map g f start [] = refl
fold_map g f start (x ∷ xs) = fold_map g f (g start (f x)) xs

pub count_by_map : {A B : Type 0} (p : B → Bool) (f : A → B) (xs : List A) → count_by p (map f xs) ≡ count_by (λ x. p (f x)) xs
count_by_map p f xs = fold_map (λ n x. n + cond (p x) 1 0) f 0 xs

-- a loop over a test of all that meets one which fails
pub list_all_fails : {A B : Type 0} (p : B → Bool) (f : A → B) (xs : List A) (i : ℕ) (x : A) (all : Bool) → i < length xs → x ≡ get_or xs i x → list_all p (map f (drop i xs)) ≡ all → false ≡ p (f x) → false ≡ all
list_all_fails p f xs i x all within is so_far fails =
    let rest = drop-cons xs i x within in
    ap (λ b. b && list_all p (map f (drop (suc i) xs))) fails ∙ ap (λ y. p (f y) && list_all p (map f (drop (suc i) xs))) is ∙ sym (ap (λ l. list_all p (map f l)) rest) ∙ so_far

-- a search that meets one which passes
pub find_hits : {A B : Type 0} (p : B → Bool) (f : A → B) (xs : List A) (i : ℕ) (x : A) (all : Option B) → i < length xs → x ≡ get_or xs i x → find p (map f (drop i xs)) ≡ all → true ≡ p (f x) → Some (f x) ≡ all
find_hits p f xs i x all within is so_far passes =
    let rest = drop-cons xs i x within in
    let l = drop (suc i) xs in
    ap (λ b. cond b (Some (f x)) (find p (map f l))) passes ∙ ap (λ y. cond (p (f y)) (Some (f y)) (find p (map f l))) is ∙ sym (ap (λ r. find p (map f r)) rest) ∙ so_far
