-- Members of lists that pass a test, and what is found among them.
use Rattle.std.proofs.Common.{◌≡◌, inl, inr, ◌&&◌, ◌||◌, ℕ, ◌≤◌, Bool, true, false, cond, List, [], ◌∷◌, ◌++◌, length, map, Option, Some, None, is_some, is_none, refl, sym, ap, ◌∙◌, arith}
use Rattle.std.specs.Prelude.{find, filter, option_map}
use Rattle.std.specs.List.{list_any}
use Rattle.session_log.specs.SnapshotOf.{in_order}
use Rattle.session_log.proofs.Members.{In, of_order, in_order_too, is_found}
use Rattle.session_memory.proofs.Small.{false_true, true_false, none_some}
use Rattle.session_memory.proofs.Lists.{AreCounted, map_both}

pub both_ways : (a b : Bool) → (a ≡ true → b ≡ true) → (b ≡ true → a ≡ true) → a ≡ b
both_ways true b f g = sym (f refl)
both_ways false true f g = g refl
both_ways false false f g = refl

-- ---- tests

module _ {X : Type 0} (p : X → Bool) where
  pub record Passes (xs : List X) : Type 0 where
    pub it : X
    pub member : In it xs
    pub passes : p it ≡ true

  passing_by : (b : Bool) (x : X) (xs : List X) → p x ≡ b → (b || list_any p xs) ≡ true → (list_any p xs ≡ true → Passes xs) → Passes (x ∷ xs)
  passing_by true x xs is e below = record { it = x; member = inl refl; passes = is }
  passing_by false x xs is e below = let k = below e in record { it = k.it; member = inr k.member; passes = k.passes }

  pub passing : (xs : List X) → list_any p xs ≡ true → Passes xs
  passing [] e = false_true e
  passing (x ∷ xs) e = passing_by (p x) x xs refl e (passing xs)

  any_of_by : (b : Bool) (xs : List X) → list_any p xs ≡ true → (b || list_any p xs) ≡ true
  any_of_by true xs e = refl
  any_of_by false xs e = e

  pub any_of : (x : X) (xs : List X) → In x xs → p x ≡ true → list_any p xs ≡ true
  any_of x [] i e = absurd i
  any_of x (y ∷ ys) (inl is) e = ap (λ b. b || list_any p ys) (ap p (sym is) ∙ e)
  any_of x (y ∷ ys) (inr i) e = any_of_by (p y) ys (any_of x ys i e)

  found_by : (b : Bool) (x y : X) (ys : List X) → p y ≡ b → cond b (Some y) (find p ys) ≡ Some x → (find p ys ≡ Some x → In x ys × (p x ≡ true)) → In x (y ∷ ys) × (p x ≡ true)
  found_by true x y ys is e below = let same : y ≡ x = cc in (inl (sym same), ap p (sym same) ∙ is)
  found_by false x y ys is e below = let k = below e in (inr k.0, k.1)

  -- what is found is a member that passes
  pub found_passes : (x : X) (ys : List X) → find p ys ≡ Some x → In x ys × (p x ≡ true)
  found_passes x [] e = none_some e
  found_passes x (y ∷ ys) e = found_by (p y) x y ys refl e (found_passes x ys)

  pub found_in : (x : X) (ys : List X) → find p ys ≡ Some x → In x ys
  found_in x ys e = (found_passes x ys e).0

  -- what alone passes is found
  only_by : (x : X) (xs : List X) → ((y : X) → In y xs → p y ≡ true → x ≡ y) → (o : Option X) → find p xs ≡ o → is_some o ≡ true → find p xs ≡ Some x
  only_by x xs alone None e is = false_true is
  only_by x xs alone (Some y) e is = let k = found_passes y xs e in e ∙ ap (λ z. Some z) (sym (alone y k.0 k.1))

  pub only_found : (x : X) (xs : List X) → In x xs → p x ≡ true → ((y : X) → In y xs → p y ≡ true → x ≡ y) → find p xs ≡ Some x
  only_found x xs i e alone = only_by x xs alone (find p xs) refl (is_found p xs x i e)

  -- where nothing passes, nothing is found
  nothing_by : (xs : List X) → ((y : X) → In y xs → p y ≡ true → ⊥) → (o : Option X) → find p xs ≡ o → find p xs ≡ None
  nothing_by xs none None e = e
  nothing_by xs none (Some y) e = let k = found_passes y xs e in absurd (none y k.0 k.1)

  pub nothing_found : (xs : List X) → ((y : X) → In y xs → p y ≡ true → ⊥) → find p xs ≡ None
  nothing_found xs none = nothing_by xs none (find p xs) refl

  -- one of a list that differs from each other one is found whatever the order
  turned_by : (xs : List X) → ((x y : X) → In x xs → In y xs → p x ≡ true → p y ≡ true → x ≡ y) → (o : Option X) → find p xs ≡ o → find p (in_order xs) ≡ o
  turned_by xs once None e = nothing_found (in_order xs) (λ y i is. found_none y (of_order xs y i) is)
    where
      found_none : (y : X) → In y xs → p y ≡ true → ⊥
      found_none y i is = false_true (sym (ap is_some e) ∙ is_found p xs y i is)
  turned_by xs once (Some x) e =
      let k = found_passes x xs e in
      only_found x (in_order xs) (in_order_too xs x k.0) k.1 (λ y i is. once x y k.0 (of_order xs y i) k.1 is)

  pub find_turned : (xs : List X) → ((x y : X) → In x xs → In y xs → p x ≡ true → p y ≡ true → x ≡ y) → find p (in_order xs) ≡ find p xs
  find_turned xs once = turned_by xs once (find p xs) refl

module _ {X : Type 0} (p q : X → Bool) where
  pub any_same : ((x : X) → p x ≡ q x) → (xs : List X) → list_any p xs ≡ list_any q xs
  any_same same [] = refl
  any_same same (x ∷ xs) = ap (λ b. b || list_any p xs) (same x) ∙ ap (λ b. q x || b) (any_same same xs)

  -- the same, of members alone
  pub any_within : (xs : List X) → ((x : X) → In x xs → p x ≡ q x) → list_any p xs ≡ list_any q xs
  any_within [] same = refl
  any_within (x ∷ xs) same = ap (λ b. b || list_any p xs) (same x (inl refl)) ∙ ap (λ b. q x || b) (any_within xs (λ y i. same y (inr i)))

  filter_any_by : (b : Bool) (x : X) (xs : List X) → list_any q (filter p xs) ≡ list_any (λ y. p y && q y) xs → list_any q (cond b (x ∷ filter p xs) (filter p xs)) ≡ ((b && q x) || list_any (λ y. p y && q y) xs)
  filter_any_by true x xs e = ap (λ b. q x || b) e
  filter_any_by false x xs e = e

  pub filter_any : (xs : List X) → list_any q (filter p xs) ≡ list_any (λ x. p x && q x) xs
  filter_any [] = refl
  filter_any (x ∷ xs) = filter_any_by (p x) x xs (filter_any xs)

  find_filtered_by : (b c : Bool) (x : X) (xs : List X) → q x ≡ c → find q (filter p xs) ≡ find (λ y. q y && p y) xs → find q (cond b (x ∷ filter p xs) (filter p xs)) ≡ cond (c && b) (Some x) (find (λ y. q y && p y) xs)
  find_filtered_by true true x xs is e = rw is refl
  find_filtered_by true false x xs is e = rw is e
  find_filtered_by false true x xs is e = e
  find_filtered_by false false x xs is e = e

  pub find_filtered : (xs : List X) → find q (filter p xs) ≡ find (λ x. q x && p x) xs
  find_filtered [] = refl
  find_filtered (x ∷ xs) = find_filtered_by (p x) (q x) x xs refl (find_filtered xs)

-- a test that is the same for all
pub and_any : {X : Type 0} (c : Bool) (p : X → Bool) (xs : List X) → (c && list_any p xs) ≡ list_any (λ x. c && p x) xs
and_any true p xs = refl
and_any false p [] = refl
and_any false p (x ∷ xs) = and_any false p xs

pub any_both : {X : Type 0} (p : X → Bool) (xs ys : List X) → list_any p (xs ++ ys) ≡ (list_any p xs || list_any p ys)
any_both p [] ys = refl
any_both p (x ∷ xs) ys = ap (λ b. p x || b) (any_both p xs ys) ∙ or_again (p x) (list_any p xs) (list_any p ys)
  where
    or_again : (a b c : Bool) → (a || (b || c)) ≡ ((a || b) || c)
    or_again true b c = refl
    or_again false b c = refl

-- ---- lists that are made of others

filter_both_by : {X : Type 0} (p : X → Bool) (b : Bool) (x : X) (xs ys : List X) → filter p (xs ++ ys) ≡ filter p xs ++ filter p ys → cond b (x ∷ filter p (xs ++ ys)) (filter p (xs ++ ys)) ≡ cond b (x ∷ filter p xs) (filter p xs) ++ filter p ys
filter_both_by p true x xs ys e = ap (λ r. x ∷ r) e
filter_both_by p false x xs ys e = e

filter_both : {X : Type 0} (p : X → Bool) (xs ys : List X) → filter p (xs ++ ys) ≡ filter p xs ++ filter p ys
filter_both p [] ys = refl
filter_both p (x ∷ xs) ys = filter_both_by p (p x) x xs ys (filter_both p xs ys)

module _ {X Y : Type 0} (p : Y → Bool) (f : X → Y) where
  last_by : (b : Bool) (x : X) (xs : List X) → p (f x) ≡ b → map f (in_order (filter (λ y. p (f y)) xs)) ++ filter p (f x ∷ []) ≡ map f (in_order (cond b (x ∷ filter (λ y. p (f y)) xs) (filter (λ y. p (f y)) xs)))
  last_by true x xs is = rw is (sym (map_both f (in_order (filter (λ y. p (f y)) xs)) (x ∷ [])))
  last_by false x xs is = rw is (no_more (map f (in_order (filter (λ y. p (f y)) xs))))
    where
      no_more : (ys : List Y) → ys ++ [] ≡ ys
      no_more [] = refl
      no_more (y ∷ ys) = ap (λ r. y ∷ r) (no_more ys)

  -- those that pass, of a list in order
  pub filter_now : (xs : List X) → filter p (map f (in_order xs)) ≡ map f (in_order (filter (λ x. p (f x)) xs))
  filter_now [] = refl
  filter_now (x ∷ xs) =
      ap (filter p) (map_both f (in_order xs) (x ∷ []))
      ∙ filter_both p (map f (in_order xs)) (f x ∷ [])
      ∙ ap (λ r. r ++ filter p (f x ∷ [])) (filter_now xs)
      ∙ last_by (p (f x)) x xs refl

-- ---- options

pub mapped_some : {X Y : Type 0} (f : X → Y) (o : Option X) (y : Y) → option_map f o ≡ Some y → (x : X) × (o ≡ Some x) × (y ≡ f x)
mapped_some f None y e = none_some e
mapped_some f (Some x) y e = (x, refl, let same : f x ≡ y = cc in sym same)

pub same_option : {X : Type 0} (a b : Option X) → is_none a ≡ is_none b → ((x : X) → a ≡ Some x → b ≡ Some x) → a ≡ b
same_option None None e some = refl
same_option None (Some b) e some = true_false e
same_option (Some a) b e some = sym (some a refl)

-- ---- numbers

module _ {X : Type 0} (number : X → ℕ) where
  low : (xs : List X) → AreCounted number xs → (x : X) → In x xs → number x ≤ length xs
  low [] c x i = absurd i
  low (y ∷ ys) c x (inl is) = let at : number x ≡ number y = ap number is in omega (arith, at, c.0)
  low (y ∷ ys) c x (inr i) = let le = low ys c.1 x i in omega (arith, le)

  -- in a list that is counted a number stands once
  pub counted_once : (xs : List X) → AreCounted number xs → (x y : X) → In x xs → In y xs → number x ≡ number y → x ≡ y
  counted_once [] c x y i j e = absurd i
  counted_once (z ∷ zs) c x y (inl is) (inl too) e = is ∙ sym too
  counted_once (z ∷ zs) c x y (inl is) (inr j) e = let at : number x ≡ number z = ap number is in let le = low zs c.1 y j in absurd (omega (arith, at, le, e, c.0))
  counted_once (z ∷ zs) c x y (inr i) (inl too) e = let at : number y ≡ number z = ap number too in let le = low zs c.1 x i in absurd (omega (arith, at, le, e, c.0))
  counted_once (z ∷ zs) c x y (inr i) (inr j) e = counted_once zs c.1 x y i j e
