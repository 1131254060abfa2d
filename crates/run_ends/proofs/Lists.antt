-- Members of lists, and lists that change item by item.
use Rattle.std.proofs.Common.{◌≡◌, ◌≢◌, ◌⊎◌, inl, inr, ◌<◌, ◌==◌, ℕ, zero, suc, Bool, true, false, List, [], ◌∷◌, ◌++◌, map, set, take, drop, remove, length, slice_get, Some, None, refl, ap, sym, subst, ◌∙◌, arith, length-set}
use Rattle.std.proofs.lemmas.Bool.Decides.{nat_tests}
use Rattle.std.proofs.lemmas.Option.{same_Some}
use Rattle.durable_records.specs.Members.{In}
use Rattle.node_seat.specs.Ends.{EachBecomes}

-- ---- members

pub in_map : {A B : Type 0} (f : A → B) (xs : List A) (b : B) → In b (map f xs) → (a : A) × In a xs × (b ≡ f a)
in_map f [] b h = absurd h
in_map f (x ∷ xs) b (inl is) = (x, inl refl, is)
in_map f (x ∷ xs) b (inr h) = let m = in_map f xs b h in (m.0, inr m.1, m.2)

pub map_in : {A B : Type 0} (f : A → B) (xs : List A) (a : A) → In a xs → In (f a) (map f xs)
map_in f [] a h = absurd h
map_in f (x ∷ xs) a (inl is) = inl (ap f is)
map_in f (x ∷ xs) a (inr h) = inr (map_in f xs a h)

pub place_in : {A : Type 0} (xs : List A) (k : ℕ) (x : A) → slice_get xs k ≡ Some x → In x xs
place_in [] k x e = absurd (let no : None ≡ Some x = e in cc)
place_in (y ∷ ys) zero x e = inl (same_Some x y (sym e))
place_in (y ∷ ys) (suc k) x e = inr (place_in ys k x e)

pub in_place : {A : Type 0} (xs : List A) (x : A) → In x xs → (k : ℕ) × (slice_get xs k ≡ Some x)
in_place [] x h = absurd h
in_place (y ∷ ys) x (inl is) = (zero, ap Some (sym is))
in_place (y ∷ ys) x (inr h) = let m = in_place ys x h in (suc m.0, m.1)

pub in_front : {A : Type 0} (xs ys : List A) (x : A) → In x xs → In x (xs ++ ys)
in_front [] ys x h = absurd h
in_front (z ∷ xs) ys x (inl is) = inl is
in_front (z ∷ xs) ys x (inr h) = inr (in_front xs ys x h)

pub in_back : {A : Type 0} (xs ys : List A) (x : A) → In x ys → In x (xs ++ ys)
in_back [] ys x h = h
in_back (z ∷ xs) ys x h = inr (in_back xs ys x h)

in_either : {A : Type 0} (xs ys : List A) (x : A) → In x (xs ++ ys) → In x xs ⊎ In x ys
in_either [] ys x h = inr h
in_either (z ∷ xs) ys x (inl is) = inl (inl is)
in_either {A} (z ∷ xs) ys x (inr h) = by (in_either xs ys x h)
  where
    by : In x xs ⊎ In x ys → In x (z ∷ xs) ⊎ In x ys
    by (inl front) = inl (inr front)
    by (inr back) = inr back

in_take : {A : Type 0} (n : ℕ) (xs : List A) (x : A) → In x (take n xs) → In x xs
in_take zero [] x h = absurd h
in_take zero (y ∷ ys) x h = absurd h
in_take (suc n) [] x h = absurd h
in_take (suc n) (y ∷ ys) x (inl is) = inl is
in_take (suc n) (y ∷ ys) x (inr h) = inr (in_take n ys x h)

in_drop : {A : Type 0} (n : ℕ) (xs : List A) (x : A) → In x (drop n xs) → In x xs
in_drop zero [] x h = h
in_drop zero (y ∷ ys) x h = h
in_drop (suc n) [] x h = absurd h
in_drop (suc n) (y ∷ ys) x h = inr (in_drop n ys x h)

-- what is left once one was removed was there before
pub in_remove : {A : Type 0} (xs : List A) (k : ℕ) (x : A) → In x (remove xs k) → In x xs
in_remove xs k x h = by (in_either (take k xs) (drop (suc k) xs) x h)
  where
    by : In x (take k xs) ⊎ In x (drop (suc k) xs) → In x xs
    by (inl front) = in_take k xs x front
    by (inr back) = in_drop (suc k) xs x back

-- ---- items at places

pub emptied : {A : Type 0} (xs : List A) (n : ℕ) → n ≡ length xs → n ≡ 0 → xs ≡ []
emptied [] n size none = refl
emptied (x ∷ xs) n size none = absurd (omega (arith, size, none))

pub below_length : {A : Type 0} (xs : List A) (k : ℕ) (x : A) → slice_get xs k ≡ Some x → k < length xs
below_length [] k x e = absurd (let no : None ≡ Some x = e in cc)
below_length (y ∷ ys) zero x e = omega arith
below_length (y ∷ ys) (suc k) x e = let on = below_length ys k x e in omega (arith, on)

pub stands_below : {A : Type 0} (xs : List A) (k : ℕ) → k < length xs → (x : A) × (slice_get xs k ≡ Some x)
stands_below [] k below = absurd (omega (arith, below))
stands_below (y ∷ ys) zero below = (y, refl)
stands_below (y ∷ ys) (suc k) below = stands_below ys k (omega (arith, below))

get-set_same : {A : Type 0} (xs : List A) (k : ℕ) (x y : A) → slice_get xs k ≡ Some y → slice_get (set xs k x) k ≡ Some x
get-set_same [] k x y e = absurd (let no : None ≡ Some y = e in cc)
get-set_same (z ∷ xs) zero x y e = refl
get-set_same (z ∷ xs) (suc k) x y e = get-set_same xs k x y e

get-set_other : {A : Type 0} (xs : List A) (k j : ℕ) (x : A) → j ≢ k → slice_get (set xs k x) j ≡ slice_get xs j
get-set_other [] k j x other = refl
get-set_other (z ∷ xs) zero zero x other = absurd (other refl)
get-set_other (z ∷ xs) zero (suc j) x other = refl
get-set_other (z ∷ xs) (suc k) zero x other = refl
get-set_other (z ∷ xs) (suc k) (suc j) x other = get-set_other xs k j x (λ e. other (ap (λ n. suc n) e))

-- what stands at j once the k-th is u
at_set : {A : Type 0} (xs : List A) (k : ℕ) (t u : A) → slice_get xs k ≡ Some t → (j : ℕ) (v : A) → slice_get (set xs k u) j ≡ Some v
    → (b : Bool) → (j == k) ≡ b → ((j ≡ k) × (v ≡ u)) ⊎ ((j ≢ k) × (slice_get xs j ≡ Some v))
at_set xs k t u e j v f true is =
    let same : j ≡ k = grind (arith, nat_tests) in
    inl (same, same_Some v u (sym f ∙ ap (slice_get (set xs k u)) same ∙ get-set_same xs k u t e))
at_set xs k t u e j v f false is =
    let apart : j ≢ k = grind (arith, nat_tests) in
    inr (apart, sym (get-set_other xs k j u apart) ∙ f)

-- ---- each of a list

pub each_same : {A : Type 0} (P : ℕ → A → A → Type 0) (xs : List A) → ((j : ℕ) (x : A) → P j x x) → EachBecomes P xs xs
each_same P xs same = record { count = refl; each = λ j u e. (u, e, same j u) }

-- one item changes
pub each_set : {A : Type 0} (P R : ℕ → A → A → Type 0) (old now : List A) (k : ℕ) (t u : A) → EachBecomes P old now → slice_get now k ≡ Some t
    → ((s : A) → P k s t → R k s u) → ((j : ℕ) (s v : A) → j ≢ k → P j s v → R j s v) → EachBecomes R old (set now k u)
each_set {A} P R old now k t u became here changed others = record {
  count = length-set now k u ∙ became.count;
  each = λ j v e. by j v (at_set now k t u here j v e (j == k) refl);
}
  where
    by : (j : ℕ) (v : A) → ((j ≡ k) × (v ≡ u)) ⊎ ((j ≢ k) × (slice_get now j ≡ Some v)) → (s : A) × (slice_get old j ≡ Some s) × R j s v
    by j v (inl (at, is)) =
        let m = became.each k t here in
        (m.0, ap (slice_get old) at ∙ m.1, subst (λ i. R i m.0 v) (sym at) (subst (R k m.0) (sym is) (changed m.0 m.2)))
    by j v (inr (apart, at)) = let m = became.each j v at in (m.0, m.1, others j m.0 v apart m.2)

-- one change after another
pub each_then : {A : Type 0} (P Q R : ℕ → A → A → Type 0) (a b c : List A) → EachBecomes P a b → EachBecomes Q b c
    → ((j : ℕ) (s t u : A) → slice_get a j ≡ Some s → P j s t → Q j t u → R j s u) → EachBecomes R a c
each_then P Q R a b c first second both = record {
  count = second.count ∙ first.count;
  each = λ j u e. let m = second.each j u e in let o = first.each j m.0 m.1 in (o.0, o.1, both j o.0 m.0 u o.1 o.2 m.2);
}

-- what no item changes
pub map_same : {A B : Type 0} (f : A → B) (old new : List A) → length new ≡ length old
    → ((j : ℕ) (u : A) → slice_get new j ≡ Some u → (t : A) × (slice_get old j ≡ Some t) × (f u ≡ f t)) → map f new ≡ map f old
map_same f [] [] size each = refl
map_same f [] (y ∷ ys) size each = absurd (omega (arith, size))
map_same f (x ∷ xs) [] size each = absurd (omega (arith, size))
map_same f (x ∷ xs) (y ∷ ys) size each =
    let here = each 0 y refl in
    let first : f y ≡ f x = here.2 ∙ ap f (same_Some here.0 x (sym here.1)) in
    let rest : map f ys ≡ map f xs = map_same f xs ys (omega (arith, size)) (λ j u e. each (suc j) u e) in
    λ i. first i ∷ rest i
