-- Members of lists: what holds of each, and of each two that stand at different places.
use Rattle.std.proofs.Common.{◌≡◌, ◌⊎◌, inl, inr, ◌||◌, not, Bool, true, false, cond, List, [], ◌∷◌, ◌++◌, map, filter, refl, ap, sym, subst, ◌∙◌}
use Rattle.std.specs.List.{list_any, list_all, flat_map}
use Rattle.std.proofs.lemmas.Bool.{and_from}
pub use Rattle.durable_records.specs.Members.{In}
pub use Rattle.durable_records.proofs.Tests.{false_true}
pub use Rattle.durable_records.proofs.MemberFacts.{of_filter, in_filter, member_found as is_found, none_passes, found_member as member}
use Rattle.session_log.specs.Soundness.{differ_after, all_differ}
use Rattle.session_log.specs.SnapshotOf.{in_order}

or_true : (b : Bool) → (b || true) ≡ true
or_true true = refl
or_true false = refl

-- each two of a list are related, the one that stands first with the other
abbrev pub Pairs : {A : Type 0} → (A → A → Type 0) → List A → Type 0
Pairs R [] = Unit {0}
Pairs {A} R (x ∷ xs) = ((y : A) → In y xs → R x y) × Pairs R xs

abbrev pub IsSymmetric : {A : Type 0} → (A → A → Type 0) → Type 0
IsSymmetric {A} R = (x y : A) → R x y → R y x

-- ---- members of lists that are made of others

module _ {A : Type 0} where
  or_behind : (x : A) (xs ys : List A) (a : A) → In a xs ⊎ In a ys → In a (x ∷ xs) ⊎ In a ys
  or_behind x xs ys a (inl i) = inl (inr i)
  or_behind x xs ys a (inr i) = inr i

  pub of_append : (xs ys : List A) (a : A) → In a (xs ++ ys) → In a xs ⊎ In a ys
  of_append [] ys a i = inr i
  of_append (x ∷ xs) ys a (inl e) = inl (inl e)
  of_append (x ∷ xs) ys a (inr i) = or_behind x xs ys a (of_append xs ys a i)

  pub in_first : (xs ys : List A) (a : A) → In a xs → In a (xs ++ ys)
  in_first [] ys a i = absurd i
  in_first (x ∷ xs) ys a (inl e) = inl e
  in_first (x ∷ xs) ys a (inr i) = inr (in_first xs ys a i)

  pub in_second : (xs ys : List A) (a : A) → In a ys → In a (xs ++ ys)
  in_second [] ys a i = i
  in_second (x ∷ xs) ys a i = inr (in_second xs ys a i)

  order_by : (x : A) (xs : List A) (a : A) → (In a (in_order xs) → In a xs) → In a (in_order xs) ⊎ In a (x ∷ []) → In a (x ∷ xs)
  order_by x xs a below (inl i) = inr (below i)
  order_by x xs a below (inr (inl e)) = inl e
  order_by x xs a below (inr (inr i)) = absurd i

  pub of_order : (xs : List A) (a : A) → In a (in_order xs) → In a xs
  of_order [] a i = i
  of_order (x ∷ xs) a i = order_by x xs a (of_order xs a) (of_append (in_order xs) (x ∷ []) a i)

  pub in_order_too : (xs : List A) (a : A) → In a xs → In a (in_order xs)
  in_order_too [] a i = i
  in_order_too (x ∷ xs) a (inl e) = in_second (in_order xs) (x ∷ []) a (inl e)
  in_order_too (x ∷ xs) a (inr i) = in_first (in_order xs) (x ∷ []) a (in_order_too xs a i)

module _ {A : Type 0} (test : A → Bool) where
  pub all_by : (xs : List A) → ((a : A) → In a xs → test a ≡ true) → list_all test xs ≡ true
  all_by [] each = refl
  all_by (x ∷ xs) each = and_from (test x) (list_all test xs) (each x (inl refl)) (all_by xs (λ a i. each a (inr i)))

  pub none_by : (xs : List A) → ((a : A) → In a xs → test a ≡ false) → list_any test xs ≡ false
  none_by [] each = refl
  none_by (x ∷ xs) each = ap (λ (b : Bool). b || list_any test xs) (each x (inl refl)) ∙ none_by xs (λ a i. each a (inr i))

module _ {A B : Type 0} where
  flat_by : (f : A → List B) (x : A) (xs : List A) (b : B) → (In b (flat_map f xs) → (a : A) × In a xs × In b (f a)) → In b (f x) ⊎ In b (flat_map f xs) → (a : A) × In a (x ∷ xs) × In b (f a)
  flat_by f x xs b below (inl j) = (x, inl refl, j)
  flat_by f x xs b below (inr j) = let k = below j in (k.0, inr k.1, k.2)

  pub of_flat : (f : A → List B) (xs : List A) (b : B) → In b (flat_map f xs) → (a : A) × In a xs × In b (f a)
  of_flat f [] b i = absurd i
  of_flat f (x ∷ xs) b i = flat_by f x xs b (of_flat f xs b) (of_append (f x) (flat_map f xs) b i)

  pub of_map : (f : A → B) (xs : List A) (b : B) → In b (map f xs) → (a : A) × In a xs × (b ≡ f a)
  of_map f [] b i = absurd i
  of_map f (x ∷ xs) b (inl e) = (x, inl refl, e)
  of_map f (x ∷ xs) b (inr i) = let k = of_map f xs b i in (k.0, inr k.1, k.2)

  pub all_of_map : (test : B → Bool) (f : A → B) (xs : List A) → ((a : A) → In a xs → test (f a) ≡ true) → list_all test (map f xs) ≡ true
  all_of_map test f [] each = refl
  all_of_map test f (x ∷ xs) each = and_from (test (f x)) (list_all test (map f xs)) (each x (inl refl)) (all_of_map test f xs (λ a i. each a (inr i)))

  pub any_of_map : (test : B → Bool) (f : A → B) (xs : List A) (a : A) → In a xs → test (f a) ≡ true → list_any test (map f xs) ≡ true
  any_of_map test f [] a i passes = absurd i
  any_of_map test f (x ∷ xs) a (inl e) passes = ap (λ (y : A). test (f y) || list_any test (map f xs)) (sym e) ∙ ap (λ (b : Bool). b || list_any test (map f xs)) passes
  any_of_map test f (x ∷ xs) a (inr i) passes = ap (λ (b : Bool). test (f x) || b) (any_of_map test f xs a i passes) ∙ or_true (test (f x))

-- ---- pairs

module _ {A : Type 0} (R : A → A → Type 0) where
  pub pairs_more : (S : A → A → Type 0) (xs : List A) → ((x y : A) → R x y → S x y) → Pairs R xs → Pairs S xs
  pairs_more S [] more pairs = tt
  pairs_more S (x ∷ xs) more pairs = (λ y i. more x y (pairs.0 y i), pairs_more S xs more pairs.1)

  -- the same, where both are members
  pub pairs_within : (S : A → A → Type 0) (xs : List A) → ((x y : A) → In x xs → In y xs → R x y → S x y) → Pairs R xs → Pairs S xs
  pairs_within S [] more pairs = tt
  pairs_within S (x ∷ xs) more pairs = (λ y i. more x y (inl refl) (inr i) (pairs.0 y i), pairs_within S xs (λ y z i j. more y z (inr i) (inr j)) pairs.1)

  pub pairs_append : (xs ys : List A) → Pairs R xs → Pairs R ys → ((x y : A) → In x xs → In y ys → R x y) → Pairs R (xs ++ ys)
  pairs_append [] ys first second cross = second
  pairs_append (x ∷ xs) ys first second cross = (λ y i. by y (of_append xs ys y i), pairs_append xs ys first.1 second (λ z y i j. cross z y (inr i) j))
    where
      by : (y : A) → In y xs ⊎ In y ys → R x y
      by y (inl i) = first.0 y i
      by y (inr j) = cross x y (inl refl) j

  filtered : (test : A → Bool) (x : A) (xs : List A) (b : Bool) → ((y : A) → In y xs → R x y) → Pairs R (filter test xs) → Pairs R (cond b (x ∷ filter test xs) (filter test xs))
  filtered test x xs true here rest = (λ y i. here y (of_filter test xs y i).0, rest)
  filtered test x xs false here rest = rest

  pub pairs_filter : (test : A → Bool) (xs : List A) → Pairs R xs → Pairs R (filter test xs)
  pairs_filter test [] pairs = tt
  pairs_filter test (x ∷ xs) pairs = filtered test x xs (test x) pairs.0 (pairs_filter test xs pairs.1)

  last_one : (symmetric : IsSymmetric R) (x : A) (xs : List A) → ((y : A) → In y xs → R x y) → (z y : A) → In z (in_order xs) → In y (x ∷ []) → R z y
  last_one symmetric x xs here z y i (inl e) = symmetric y z (subst (λ q. R q z) (sym e) (here z (of_order xs z i)))
  last_one symmetric x xs here z y i (inr j) = absurd j

  pub pairs_order : IsSymmetric R → (xs : List A) → Pairs R xs → Pairs R (in_order xs)
  pairs_order symmetric [] pairs = tt
  pairs_order symmetric (x ∷ xs) pairs =
      pairs_append (in_order xs) (x ∷ []) (pairs_order symmetric xs pairs.1) (λ y i. absurd i, tt) (last_one symmetric x xs pairs.0)

  -- two members are one or related
  pub pair_of : IsSymmetric R → (xs : List A) (x y : A) → Pairs R xs → In x xs → In y xs → (x ≡ y) ⊎ R x y
  pair_of symmetric [] x y pairs i j = absurd i
  pair_of symmetric (z ∷ zs) x y pairs (inl e) (inl f) = inl (e ∙ sym f)
  pair_of symmetric (z ∷ zs) x y pairs (inl e) (inr j) = inr (subst (λ q. R q y) (sym e) (pairs.0 y j))
  pair_of symmetric (z ∷ zs) x y pairs (inr i) (inl f) = inr (symmetric y x (subst (λ q. R q x) (sym f) (pairs.0 x i)))
  pair_of symmetric (z ∷ zs) x y pairs (inr i) (inr j) = pair_of symmetric zs x y pairs.1 i j

module _ {A B : Type 0} (R : B → B → Type 0) where
  pub pairs_map : (f : A → B) (xs : List A) → Pairs (λ x y. R (f x) (f y)) xs → Pairs R (map f xs)
  pairs_map f [] pairs = tt
  pairs_map f (x ∷ xs) pairs = (λ b i. let k = of_map f xs b i in subst (λ q. R (f x) q) (sym k.2) (pairs.0 k.0 k.1), pairs_map f xs pairs.1)

-- lists of what members are made to, one after the other
module _ {A B C : Type 0} (h : B → List C) (v : A → B) where
  pub of_flat_map : (xs : List A) (c : C) → In c (flat_map h (map v xs)) → (a : A) × In a xs × In c (h (v a))
  of_flat_map xs c i =
      let k = of_flat h (map v xs) c i in
      let j = of_map v xs k.0 k.1 in
      (j.0, j.1, subst (λ b. In c (h b)) j.2 k.2)

  pub pairs_flat_map : (R : C → C → Type 0) (xs : List A) → ((a : A) → In a xs → Pairs R (h (v a))) → Pairs (λ a d. (b c : C) → In b (h (v a)) → In c (h (v d)) → R b c) xs → Pairs R (flat_map h (map v xs))
  pairs_flat_map R [] each cross = tt
  pairs_flat_map R (x ∷ xs) each cross =
      pairs_append R (h (v x)) (flat_map h (map v xs)) (each x (inl refl)) (pairs_flat_map R xs (λ a i. each a (inr i)) cross.1)
      (λ b c i j. let k = of_flat_map xs c j in cross.0 k.0 k.1 b c i k.2)

-- ---- lists whose members all differ

-- neither is the same as the other
abbrev pub Differ : {A : Type 0} → (A → A → Bool) → A → A → Type 0
Differ same x y = (same x y ≡ false) × (same y x ≡ false)

module _ {A : Type 0} (same : A → A → Bool) where
  not_false : (b : Bool) → b ≡ false → not b ≡ true
  not_false true e = sym e
  not_false false e = refl

  before_it : (x : A) (xs before : List A) → ((y : A) → In y xs → Differ same x y) → ((y b : A) → In y (x ∷ xs) → In b before → same y b ≡ false) → (y b : A) → In y xs → In b (x ∷ before) → same y b ≡ false
  before_it x xs before here cross y b i (inl e) = ap (same y) e ∙ (here y i).1
  before_it x xs before here cross y b i (inr j) = cross y b (inr i) j

  differ_by : (before xs : List A) → Pairs (Differ same) xs → ((x b : A) → In x xs → In b before → same x b ≡ false) → differ_after same before xs ≡ true
  differ_by before [] pairs cross = refl
  differ_by before (x ∷ xs) pairs cross =
      and_from (not (list_any (same x) before)) (differ_after same (x ∷ before) xs)
      (not_false (list_any (same x) before) (none_by (same x) before (λ b j. cross x b (inl refl) j)))
      (differ_by (x ∷ before) xs pairs.1 (before_it x xs before pairs.0 cross))

  pub differ : (xs : List A) → Pairs (Differ same) xs → all_differ same xs ≡ true
  differ xs pairs = differ_by [] xs pairs (λ x b i j. absurd j)
