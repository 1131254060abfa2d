-- Lists of a snapshot: in order as they are read, and sorted by their keys.
use Rattle.std.proofs.Common.{◌≡◌, Bool, true, List, [], ◌∷◌, map, Option, Some, None, Ordering, Less, Equal, Greater, refl, ap, ◌∙◌}
use Rattle.std.specs.Cmp.{IsTotalOrder}
use Rattle.std.specs.List.{AllByRecursion}
use Rattle.std.specs.List.Sorted.{IsStrictlySortedBy}
use Rattle.std.specs.Ordering.{is_lt}
use Rattle.byte_fields.specs.Layout.{IsInOrder, any_order}

less_is : (r : Ordering) → is_lt r ≡ true → r ≡ Less
less_is Less e = refl
less_is Equal e = cc
less_is Greater e = cc

module _ {X K : Type 0} (R : K → K → Ordering) (total : IsTotalOrder R) (key : X → K) where
  -- each item stands above the one before it
  abbrev rises : X → X → Bool
  rises last x = is_lt (R (key last) (key x))

  below_keys : (j k : K) (ks : List K) → R j k ≡ Less → AllByRecursion (λ y. R k y ≡ Less) ks → AllByRecursion (λ y. R j y ≡ Less) ks
  below_keys j k [] l b = tt
  below_keys j k (y ∷ ks) l b = (total.trans j k y l b.0, below_keys j k ks l b.1)

  sorted_after : (x : X) (xs : List X) → IsInOrder rises (Some x) xs → IsStrictlySortedBy R (key x ∷ map key xs)
  unfolding IsStrictlySortedBy
  sorted_after x [] o = (tt, tt)
  sorted_after x (y ∷ ys) o =
      let rest = sorted_after y ys o.1 in
      let less = less_is (R (key x) (key y)) o.0 in
      ((less, below_keys (key x) (key y) (map key ys) less rest.0), rest)

  pub sorted_in_order : (xs : List X) → IsInOrder rises None xs → IsStrictlySortedBy R (map key xs)
  unfolding IsStrictlySortedBy
  sorted_in_order [] o = tt
  sorted_in_order (x ∷ xs) o = sorted_after x xs o.1

  order_after : (x : X) (xs : List X) → IsStrictlySortedBy R (key x ∷ map key xs) → IsInOrder rises (Some x) xs
  unfolding IsStrictlySortedBy
  order_after x [] s = tt
  order_after x (y ∷ ys) s = (ap is_lt s.0.0, order_after y ys s.1)

  pub order_from_sorted : (xs : List X) → IsStrictlySortedBy R (map key xs) → IsInOrder rises None xs
  order_from_sorted [] s = tt
  order_from_sorted (x ∷ xs) s = (refl, order_after x xs s)

-- items in no order
any_after : {X : Type 0} (last : Option X) (xs : List X) → IsInOrder any_order last xs
any_after last [] = tt
any_after None (x ∷ xs) = (refl, any_after (Some x) xs)
any_after (Some l) (x ∷ xs) = (refl, any_after (Some x) xs)

pub in_any_order : {X : Type 0} (xs : List X) → IsInOrder any_order None xs
in_any_order xs = any_after None xs

-- what holds of each item after a function
pub each_mapped : {X Y : Type 0} (P : Y → Type 0) (f : X → Y) (xs : List X) → AllByRecursion (λ x. P (f x)) xs → AllByRecursion P (map f xs)
each_mapped P f [] all = tt
each_mapped P f (x ∷ xs) all = (all.0, each_mapped P f xs all.1)

pub each_weaker : {X : Type 0} (P Q : X → Type 0) → ((x : X) → P x → Q x) → (xs : List X) → AllByRecursion P xs → AllByRecursion Q xs
each_weaker P Q gives [] all = tt
each_weaker P Q gives (x ∷ xs) all = (gives x all.0, each_weaker P Q gives xs all.1)

pub map_map : {X Y Z : Type 0} (f : X → Y) (g : Y → Z) (h : X → Z) → ((x : X) → g (f x) ≡ h x) → (xs : List X) → map g (map f xs) ≡ map h xs
map_map f g h is [] = refl
map_map f g h is (x ∷ xs) = ap (λ z. z ∷ map g (map f xs)) (is x) ∙ ap (λ zs. h x ∷ zs) (map_map f g h is xs)

pub map_itself : {X : Type 0} (f : X → X) → ((x : X) → f x ≡ x) → (xs : List X) → map f xs ≡ xs
map_itself f is [] = refl
map_itself f is (x ∷ xs) = ap (λ z. z ∷ map f xs) (is x) ∙ ap (λ zs. x ∷ zs) (map_itself f is xs)
