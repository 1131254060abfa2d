-- Lists that stand newest first and are counted, and the same lists in order.
use Rattle.std.proofs.Common.{◌≡◌, ◌==◌, ◌&&◌, ◌<◌, ◌≤◌, ◌+◌, ℕ, Bool, true, false, cond, List, [], ◌∷◌, ◌++◌, length, map, Option, Some, None, refl, sym, ap, ◌∙◌, arith}
use Rattle.std.specs.Prelude.{find, filter, option_map}
use Rattle.std.specs.List.{list_all}
use Rattle.session_log.specs.SnapshotOf.{in_order}
use Rattle.session_memory.specs.Lookups.{or_else}
use Rattle.session_memory.specs.Order.{Each, AreAbove, AreRising}
use Rattle.session_memory.proofs.Small.{same_nat, nat_differs}
pub use Rattle.durable_records.proofs.MemberFacts.{AreCounted}

-- ---- each

module _ {X : Type 0} where
  pub each_all : (P : X → Type 0) → ((x : X) → P x) → (xs : List X) → Each P xs
  each_all P p [] = tt
  each_all P p (x ∷ xs) = (p x, each_all P p xs)

  pub each_same : (P Q : X → Type 0) → ((x : X) → P x → Q x) → (xs : List X) → Each P xs → Each Q xs
  each_same P Q f [] e = tt
  each_same P Q f (x ∷ xs) e = (f x e.0, each_same P Q f xs e.1)

  pub each_pair : (P Q : X → Type 0) → (xs : List X) → Each P xs → Each Q xs → Each (λ x. P x × Q x) xs
  each_pair P Q [] e f = tt
  each_pair P Q (x ∷ xs) e f = ((e.0, f.0), each_pair P Q xs e.1 f.1)

  pub each_both : (P : X → Type 0) → (xs ys : List X) → Each P xs → Each P ys → Each P (xs ++ ys)
  each_both P [] ys e f = f
  each_both P (x ∷ xs) ys e f = (e.0, each_both P xs ys e.1 f)

  pub each_in_order : (P : X → Type 0) → (xs : List X) → Each P xs → Each P (in_order xs)
  each_in_order P [] e = tt
  each_in_order P (x ∷ xs) e = each_both P (in_order xs) (x ∷ []) (each_in_order P xs e.1) (e.0, tt)

  module _ (p : X → Bool) (P : X → Type 0) where
    filtered_by : (b : Bool) (x : X) (xs : List X) → p x ≡ b → P x → Each (λ y. P y × (p y ≡ true)) xs → Each (λ y. P y × (p y ≡ true)) (cond b (x ∷ xs) xs)
    filtered_by true x xs is here rest = ((here, is), rest)
    filtered_by false x xs is here rest = rest

    pub each_filtered : (xs : List X) → Each P xs → Each (λ y. P y × (p y ≡ true)) (filter p xs)
    each_filtered [] e = tt
    each_filtered (x ∷ xs) e = filtered_by (p x) x (filter p xs) refl e.0 (each_filtered xs e.1)

-- ---- maps and tests

pub map_both : {X Y : Type 0} (f : X → Y) (xs ys : List X) → map f (xs ++ ys) ≡ map f xs ++ map f ys
map_both f [] ys = refl
map_both f (x ∷ xs) ys = ap (λ r. f x ∷ r) (map_both f xs ys)

pub map_same : {X Y : Type 0} (f g : X → Y) (xs : List X) → Each (λ x. f x ≡ g x) xs → map f xs ≡ map g xs
map_same f g [] e = refl
map_same f g (x ∷ xs) e = ap (λ y. y ∷ map f xs) e.0 ∙ ap (λ r. g x ∷ r) (map_same f g xs e.1)

pub filter_same : {X : Type 0} (p q : X → Bool) (xs : List X) → Each (λ x. p x ≡ q x) xs → filter p xs ≡ filter q xs
filter_same p q [] e = refl
filter_same p q (x ∷ xs) e = ap (λ b. cond b (x ∷ filter p xs) (filter p xs)) e.0 ∙ ap (λ r. cond (q x) (x ∷ r) r) (filter_same p q xs e.1)

pub and_assoc : (a b c : Bool) → (a && (b && c)) ≡ ((a && b) && c)
and_assoc true b c = refl
and_assoc false b c = refl

pub and_swap : (a b : Bool) → (a && b) ≡ (b && a)
and_swap true true = refl
and_swap true false = refl
and_swap false true = refl
and_swap false false = refl

pub and_true : (a : Bool) → (a && true) ≡ a
and_true true = refl
and_true false = refl

pub and_false : (a b : Bool) → b ≡ false → (a && b) ≡ false
and_false true b e = e
and_false false b e = refl

pub all_behind : {X : Type 0} (p : X → Bool) (xs : List X) (y : X) → list_all p (xs ++ y ∷ []) ≡ (p y && list_all p xs)
all_behind p [] y = refl
all_behind p (x ∷ xs) y =
    ap (λ b. p x && b) (all_behind p xs y) ∙ and_assoc (p x) (p y) (list_all p xs) ∙ ap (λ b. b && list_all p xs) (and_swap (p x) (p y)) ∙ sym (and_assoc (p y) (p x) (list_all p xs))

-- ---- numbers

module _ {X : Type 0} (number : X → ℕ) where
  pub above_less : (m n : ℕ) → m ≤ n → (xs : List X) → AreAbove number n xs → AreAbove number m xs
  above_less m n le [] a = tt
  above_less m n le (x ∷ xs) a = (omega (arith, le, a.0), above_less m n le xs a.1)

  above_behind : (m : ℕ) (xs : List X) (y : X) → AreAbove number m xs → m < number y → AreAbove number m (xs ++ y ∷ [])
  above_behind m [] y a lt = (lt, tt)
  above_behind m (x ∷ xs) y a lt = (a.0, above_behind m xs y a.1 lt)

  pub rising_behind : (n : ℕ) (xs : List X) (y : X) → AreRising number xs → Each (λ x. number x ≤ n) xs → n < number y → AreRising number (xs ++ y ∷ [])
  rising_behind n [] y r e lt = (tt, tt)
  rising_behind n (x ∷ xs) y r e lt = (above_behind (number x) xs y r.0 (omega (arith, lt, e.0)), rising_behind n xs y r.1 e.1 lt)

  pub up_to : (xs : List X) → AreCounted number xs → Each (λ x. number x ≤ length xs) xs
  up_to [] c = tt
  up_to (x ∷ xs) c =
      (omega (arith, c.0), each_same (λ y. number y ≤ length xs) (λ y. number y ≤ length (x ∷ xs)) (λ y le. omega (arith, le)) xs (up_to xs c.1))

  module _ (p : X → Bool) where
    pub up_to_in_order : (xs : List X) → AreCounted number xs → Each (λ x. number x ≤ length xs) (in_order (filter p xs))
    up_to_in_order xs c =
        each_in_order (λ x. number x ≤ length xs) (filter p xs)
        (each_same (λ y. (number y ≤ length xs) × (p y ≡ true)) (λ y. number y ≤ length xs) (λ y both. both.0) (filter p xs) (each_filtered p (λ y. number y ≤ length xs) xs (up_to xs c)))

    rising_by : (b : Bool) (x : X) (xs : List X) → number x ≡ length xs + 1 → AreRising number (in_order (filter p xs)) → Each (λ y. number y ≤ length xs) (in_order (filter p xs)) →
        AreRising number (in_order (cond b (x ∷ filter p xs) (filter p xs)))
    rising_by true x xs is r e = rising_behind (length xs) (in_order (filter p xs)) x r e (omega (arith, is))
    rising_by false x xs is r e = r

    pub rising_in_order : (xs : List X) → AreCounted number xs → AreRising number (in_order (filter p xs))
    rising_in_order [] c = tt
    rising_in_order (x ∷ xs) c = rising_by (p x) x xs c.0 (rising_in_order xs c.1) (up_to_in_order xs c.1)

-- ---- searches

find_by : {X : Type 0} (test : X → Bool) (b : Bool) (x : X) (xs ys : List X) → find test (xs ++ ys) ≡ or_else (find test xs) (find test ys) → cond b (Some x) (find test (xs ++ ys)) ≡ or_else (cond b (Some x) (find test xs)) (find test ys)
find_by test true x xs ys e = refl
find_by test false x xs ys e = e

pub find_both : {X : Type 0} (test : X → Bool) (xs ys : List X) → find test (xs ++ ys) ≡ or_else (find test xs) (find test ys)
find_both test [] ys = refl
find_both test (x ∷ xs) ys = find_by test (test x) x xs ys (find_both test xs ys)

pub find_missing : {X : Type 0} (test : X → Bool) (xs : List X) → Each (λ x. test x ≡ false) xs → find test xs ≡ None
find_missing test [] e = refl
find_missing test (x ∷ xs) e = rw e.0 (find_missing test xs e.1)

pub or_none : {X : Type 0} (o : Option X) → or_else o None ≡ o
or_none None = refl
or_none (Some x) = refl

-- what is found and kept
abbrev pub keep : {X : Type 0} → (X → Bool) → Option X → Option X
keep p None = None
keep p (Some x) = cond (p x) (Some x) None

module _ {X : Type 0} (number : X → ℕ) (p : X → Bool) (n : ℕ) where
  abbrev is_n : X → Bool
  is_n x = number x == n

  kept_in : (b c : Bool) (x : X) (xs : List X) → p x ≡ b → is_n x ≡ c → number x ≡ length xs + 1 → AreCounted number xs →
      find is_n (in_order (filter p xs)) ≡ keep p (find is_n xs) →
      find is_n (in_order (cond b (x ∷ filter p xs) (filter p xs))) ≡ keep p (cond c (Some x) (find is_n xs))
  kept_in true true x xs is here at counted below =
      find_both is_n (in_order (filter p xs)) (x ∷ [])
      ∙ ap (λ o. or_else o (find is_n (x ∷ []))) (find_missing is_n (in_order (filter p xs)) (each_same (λ y. number y ≤ length xs) (λ y. is_n y ≡ false)
      (λ y le. nat_differs (number y) n (λ e. let m = same_nat (number x) n here in omega (arith, e, le, at, m))) (in_order (filter p xs)) (up_to_in_order number p xs counted)))
      ∙ rw (here, is) refl
  kept_in true false x xs is here at counted below =
      find_both is_n (in_order (filter p xs)) (x ∷ []) ∙ ap (λ o. or_else o (find is_n (x ∷ []))) below ∙ rw here (or_none (keep p (find is_n xs)))
  kept_in false true x xs is here at counted below =
      find_missing is_n (in_order (filter p xs)) (each_same (λ y. number y ≤ length xs) (λ y. is_n y ≡ false)
      (λ y le. nat_differs (number y) n (λ e. let m = same_nat (number x) n here in omega (arith, e, le, at, m))) (in_order (filter p xs)) (up_to_in_order number p xs counted))
      ∙ rw is refl
  kept_in false false x xs is here at counted below = below

  pub find_in_order : (xs : List X) → AreCounted number xs → find is_n (in_order (filter p xs)) ≡ keep p (find is_n xs)
  find_in_order [] c = refl
  find_in_order (x ∷ xs) c = kept_in (p x) (is_n x) x xs refl refl c.0 c.1 (find_in_order xs c.1)

find_mapped_by : {X Y : Type 0} (f : X → Y) (test : Y → Bool) (b : Bool) (x : X) (xs : List X) → find test (map f xs) ≡ option_map f (find (λ y. test (f y)) xs) →
    cond b (Some (f x)) (find test (map f xs)) ≡ option_map f (cond b (Some x) (find (λ y. test (f y)) xs))
find_mapped_by f test true x xs e = refl
find_mapped_by f test false x xs e = e

pub find_mapped : {X Y : Type 0} (f : X → Y) (test : Y → Bool) (xs : List X) → find test (map f xs) ≡ option_map f (find (λ x. test (f x)) xs)
find_mapped f test [] = refl
find_mapped f test (x ∷ xs) = find_mapped_by f test (test (f x)) x xs (find_mapped f test xs)
