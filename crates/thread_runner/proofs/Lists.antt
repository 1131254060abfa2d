-- Members of lists, and seats that are there.
use Rattle.std.proofs.Common.{◌≡◌, ◌⊎◌, ⊎_elim, inl, inr, ◌+◌, ◌<◌, ℕ, zero, suc, List, [], ◌∷◌, ◌++◌, length, map, slice_get, Option, Some, None, option_map, refl, ap, sym, subst, ◌∙◌, arith}
use Rattle.std.proofs.lemmas.Option.{same_Some}
use Rattle.std.specs.List.{AllByRecursion}
use Rattle.durable_records.specs.Members.{In}
use Rattle.node_seat.specs.Seating.{Seated}
use Rattle.thread_runner.specs.Ending.{all_here}

-- ---- members

-- an item at a place of a list
pub record StandsIn {A : Type 0} (xs : List A) (a : A) : Type 0 where
  pub k : ℕ
  pub at : slice_get xs k ≡ Some a

pub in_map : {A B : Type 0} (f : A → B) (xs : List A) (b : B) → In b (map f xs) → (a : A) × StandsIn xs a × (b ≡ f a)
in_map f [] b h = absurd h
in_map f (x ∷ xs) b (inl is) = (x, record { k = 0; at = refl }, is)
in_map f (x ∷ xs) b (inr h) = let (a, i, is) = in_map f xs b h in (a, record { k = suc i.k; at = i.at }, is)

pub map_in : {A B : Type 0} (f : A → B) (xs : List A) (k : ℕ) (a : A) → slice_get xs k ≡ Some a → In (f a) (map f xs)
map_in f [] k a e = absurd (let no : None ≡ Some a = e in cc)
map_in f (x ∷ xs) zero a e = inl (ap f (sym (same_Some x a e)))
map_in f (x ∷ xs) (suc k) a e = inr (map_in f xs k a e)

pub in_front : {A : Type 0} (xs ys : List A) (a : A) → In a xs → In a (xs ++ ys)
in_front [] ys a h = absurd h
in_front (x ∷ xs) ys a (inl is) = inl is
in_front (x ∷ xs) ys a (inr h) = inr (in_front xs ys a h)

pub in_back : {A : Type 0} (xs ys : List A) (a : A) → In a ys → In a (xs ++ ys)
in_back [] ys a h = h
in_back (x ∷ xs) ys a h = inr (in_back xs ys a h)

pub in_either : {A : Type 0} (xs ys : List A) (a : A) → In a (xs ++ ys) → In a xs ⊎ In a ys
in_either [] ys a h = inr h
in_either (x ∷ xs) ys a (inl is) = inl (inl is)
in_either (x ∷ xs) ys a (inr h) = ⊎_elim (λ front. inl (inr front)) (λ back. inr back) (in_either xs ys a h)

pub all_at : {A : Type 0} (P : A → Type 0) (xs : List A) (k : ℕ) (a : A) → AllByRecursion P xs → slice_get xs k ≡ Some a → P a
all_at P [] k a all e = absurd (let no : None ≡ Some a = e in cc)
all_at P (x ∷ xs) zero a all e = subst P (same_Some x a e) all.0
all_at P (x ∷ xs) (suc k) a all e = all_at P xs k a all.1 e

pub all_each : {A : Type 0} (P Q : A → Type 0) (xs : List A) → ((a : A) → P a → Q a) → AllByRecursion P xs → AllByRecursion Q xs
all_each P Q [] to all = tt
all_each P Q (x ∷ xs) to all = (to x all.0, all_each P Q xs to all.1)

pub snoc_all : {A : Type 0} (P : A → Type 0) (xs : List A) (a : A) → AllByRecursion P xs → P a → AllByRecursion P (xs ++ a ∷ [])
snoc_all P [] a all last = (last, tt)
snoc_all P (x ∷ xs) a all last = (all.0, snoc_all P xs a all.1 last)

pub map_snoc : {A B : Type 0} (f : A → B) (xs : List A) (a : A) → map f (xs ++ a ∷ []) ≡ map f xs ++ f a ∷ []
map_snoc f [] a = refl
map_snoc f (x ∷ xs) a = ap (λ (ys : List _). f x ∷ ys) (map_snoc f xs a)

-- ---- seats that are there

module _ {N : Type 0} where
  -- each of these is there
  abbrev pub AllThere : List (Option (Seated N)) → Type 0
  AllThere seats = (k : ℕ) (seat : Option (Seated N)) → slice_get seats k ≡ Some seat → (s : Seated N) × (seat ≡ Some s)

  first_there : (seat : Option (Seated N)) (seats : List (Option (Seated N))) → AllThere (seat ∷ seats) → (s : Seated N) × (seat ≡ Some s)
  first_there seat seats there = there 0 seat refl

  rest_there : (seat : Option (Seated N)) (seats : List (Option (Seated N))) → AllThere (seat ∷ seats) → AllThere seats
  rest_there seat seats there k s e = there (suc k) s e

  pub length_here : (seats : List (Option (Seated N))) → AllThere seats → length (all_here seats) ≡ length seats
  length_here [] there = refl
  length_here (None ∷ seats) there = absurd (let (s, e) = there 0 None refl in let no : None ≡ Some s = e in cc)
  length_here (Some s ∷ seats) there = let rest = length_here seats (rest_there (Some s) seats there) in omega (arith, rest)

  pub here_at : (seats : List (Option (Seated N))) → AllThere seats → (k : ℕ) (s : Seated N) → slice_get (all_here seats) k ≡ Some s → slice_get seats k ≡ Some (Some s)
  here_at [] there k s e = absurd (let no : None ≡ Some s = e in cc)
  here_at (None ∷ seats) there k s e = absurd (let (x, is) = there 0 None refl in let no : None ≡ Some x = is in cc)
  here_at (Some x ∷ seats) there zero s e = ap (λ (y : Seated N). Some (Some y)) (same_Some x s e)
  here_at (Some x ∷ seats) there (suc k) s e = here_at seats (rest_there (Some x) seats there) k s e

  pub at_here : (seats : List (Option (Seated N))) → AllThere seats → (k : ℕ) (s : Seated N) → slice_get seats k ≡ Some (Some s) → slice_get (all_here seats) k ≡ Some s
  at_here [] there k s e = absurd (let no : None ≡ Some (Some s) = e in cc)
  at_here (None ∷ seats) there k s e = absurd (let (x, is) = there 0 None refl in let no : None ≡ Some x = is in cc)
  at_here (Some x ∷ seats) there zero s e = same_Some (Some x) (Some s) e
  at_here (Some x ∷ seats) there (suc k) s e = at_here seats (rest_there (Some x) seats there) k s e

  pub length_most : (seats : List (Option (Seated N))) → length (all_here seats) < length seats + 1
  length_most [] = omega arith
  length_most (None ∷ seats) = let rest = length_most seats in omega (arith, rest)
  length_most (Some s ∷ seats) = let rest = length_most seats in omega (arith, rest)
