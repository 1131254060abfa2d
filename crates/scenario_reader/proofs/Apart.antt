-- Names and places of which no two are the same, and what is looked up by them.
use Rattle.std.proofs.Common.{◌≡◌, ◌<◌, ◌⊎◌, inl, inr, ℕ, zero, suc, Bool, true, false, ◌||◌, nat_lt, List, [], ◌∷◌, ◌++◌, length, map, Some, refl, ap, sym, ◌∙◌, subst, arith}
use Rattle.std.proofs.lemmas.Bool.Decides.{nat_tests}
use Rattle.std.proofs.lemmas.Cmp.{nat_list_eq_equiv}
use Rattle.std.proofs.lemmas.Option.{cond_some}
use Rattle.std.specs.List.{IsDistinct, AllByRecursion, list_any, position, position_or_len, slice_get}
use Rattle.seata_types.specs.Orders.{same_text}

pub same_text_flips : (a b : List ℕ) → same_text a b ≡ same_text b a
same_text_flips a b = nat_list_eq_equiv.symm a b

all_last : {K : Type 0} (P : K → Type 0) (ks : List K) (k : K) → AllByRecursion P ks → P k → AllByRecursion P (ks ++ k ∷ [])
all_last P [] k all last = (last, tt)
all_last P (x ∷ ks) k all last = (all.0, all_last P ks k all.1 last)

either_false : (a b : Bool) → (a || b) ≡ false → (a ≡ false) × (b ≡ false)
either_false true b e = absurd cc
either_false false b e = (refl, e)

none_first : {K : Type 0} (test : K → Bool) (k : K) (ks : List K) → list_any test (k ∷ ks) ≡ false → (test k ≡ false) × (list_any test ks ≡ false)
none_first test k ks e = either_false (test k) (list_any test ks) e

-- one more that none of those before is equal to
pub distinct_push : {K : Type 0} (e : K → K → Bool) (flips : (a b : K) → e a b ≡ e b a) (ks : List K) (k : K)
    → list_any (e k) ks ≡ false → IsDistinct e ks → IsDistinct e (ks ++ k ∷ [])
unfolding IsDistinct
distinct_push e flips [] k new apart = (tt, tt)
distinct_push e flips (x ∷ ks) k new apart =
    let none = none_first (e k) x ks new in
    (all_last (λ y. e x y ≡ false) ks k apart.0 (flips x k ∙ none.0), distinct_push e flips ks k none.1 apart.1)

pub map_push : {X K : Type 0} (f : X → K) (xs : List X) (x : X) → map f (xs ++ x ∷ []) ≡ map f xs ++ f x ∷ []
map_push f [] x = refl
map_push f (y ∷ xs) x = ap (λ zs. f y ∷ zs) (map_push f xs x)

pub any_map : {X K : Type 0} (test : K → Bool) (f : X → K) (xs : List X) → list_any test (map f xs) ≡ list_any (λ x. test (f x)) xs
any_map test f [] = refl
any_map test f (x ∷ xs) = ap (λ rest. test (f x) || rest) (any_map test f xs)

-- one more with a name that none of those before has
pub different_push : {X : Type 0} (f : X → List ℕ) (xs : List X) (x : X)
    → list_any (λ y. same_text (f x) (f y)) xs ≡ false → IsDistinct same_text (map f xs) → IsDistinct same_text (map f (xs ++ x ∷ []))
different_push f xs x new apart =
    subst (IsDistinct same_text) (sym (map_push f xs x)) (distinct_push same_text same_text_flips (map f xs) (f x) (any_map (same_text (f x)) f xs ∙ new) apart)

-- a place that is found is within
pub position_within : {X : Type 0} (test : X → Bool) (xs : List X) (k : ℕ) → position test xs ≡ Some k → k < length xs
position_within test xs k e =
    let found = cond_some (nat_lt (position_or_len test xs) (length xs)) (position_or_len test xs) k e in grind (arith, nat_tests)

-- what stands at a place that is within
pub stands_within : {X : Type 0} (xs : List X) (k : ℕ) → k < length xs → (x : X) × (slice_get xs k ≡ Some x)
stands_within [] k h = absurd (omega arith)
stands_within (x ∷ xs) zero h = (x, refl)
stands_within (x ∷ xs) (suc k) h = stands_within xs k (omega arith)

-- what stands at a place of a list with one more: what stood there, or the last
pub get_push : {X : Type 0} (xs : List X) (x : X) (k : ℕ) (y : X) → slice_get (xs ++ x ∷ []) k ≡ Some y → (slice_get xs k ≡ Some y) ⊎ ((k ≡ length xs) × (x ≡ y))
get_push [] x zero y e = inr (refl, cc)
get_push [] x (suc k) y e = absurd cc
get_push (z ∷ xs) x zero y e = inl e
get_push (z ∷ xs) x (suc k) y e =
    elim (get_push xs x k y e) [ inl before ↦ inl before | inr last ↦ inr (ap suc last.0, last.1) ]
