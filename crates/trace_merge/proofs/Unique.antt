-- A list in strict order is the only list in order with its elements.
use Rattle.std.proofs.Common.{◌≡◌, ◌⊎◌, inl, inr, ◌<◌, ◌≤◌, ℕ, suc, Bool, true, false, true≢false, if◌then◌else◌, List, [], ◌∷◌, ◌++◌, length, get_or, refl, ap, sym, subst, ◌∙◌, arith}
use Rattle.std.specs.Cmp.{IsStrictWeakOrder}
use Rattle.std.specs.List.{AllByRecursion, sum_by}
use Rattle.std.specs.List.Sorted.{IsPermutation, IsSortedBy}
use Rattle.std.proofs.lemmas.List.Elements.{All-from_recursion, recursion_from_All}
use Rattle.std.proofs.lemmas.List.Sorted.{All-permutation, sorted_far, sum_by-IsPermutation}
use Rattle.std.proofs.lemmas.List.Sums.{sum_by-cons}

module _ {X : Type 0} where
  pub each_map : (P Q : X → Type 0) → ((x : X) → P x → Q x) → (xs : List X) → AllByRecursion P xs → AllByRecursion Q xs
  each_map P Q f [] all = tt
  each_map P Q f (x ∷ xs) all = (f x all.0, each_map P Q f xs all.1)

  each_both : (P Q R : X → Type 0) → ((x : X) → P x → Q x → R x) → (xs : List X)
      → AllByRecursion P xs → AllByRecursion Q xs → AllByRecursion R xs
  each_both P Q R f [] p q = tt
  each_both P Q R f (x ∷ xs) p q = (f x p.0 q.0, each_both P Q R f xs p.1 q.1)

  pub each_more : (P : X → Type 0) (xs : List X) (z : X) → AllByRecursion P xs → P z → AllByRecursion P (xs ++ z ∷ [])
  each_more P [] z all last = (last, tt)
  each_more P (x ∷ xs) z all last = (all.0, each_more P xs z all.1 last)

  -- one list has what the other has, as often
  abbrev HasSame : List X → List X → Type 1
  HasSame xs ys = ((f : X → ℕ) → sum_by f ys ≡ sum_by f xs) × ((P : X → Type 0) → AllByRecursion P xs → AllByRecursion P ys)

module _ {X : Type 0} (before : X → X → Bool) where
  -- each comes before all that stand after it
  abbrev pub IsStrict : List X → Type 0
  IsStrict [] = Unit {0}
  IsStrict (x ∷ xs) = IsStrict xs × AllByRecursion (λ z. before x z ≡ true) xs

  pub strict_more : (xs : List X) (z : X) → IsStrict xs → AllByRecursion (λ x. before x z ≡ true) xs → IsStrict (xs ++ z ∷ [])
  strict_more [] z strict all = (tt, tt)
  strict_more (x ∷ xs) z strict all = (strict_more xs z strict.0 all.1, each_more (λ y. before x y ≡ true) xs z strict.1 all.0)

  -- none comes before one that stands in front of it
  abbrev IsRising : List X → Type 0
  IsRising [] = Unit {0}
  IsRising (x ∷ xs) = IsRising xs × AllByRecursion (λ z. before z x ≡ false) xs

  rising : (xs : List X) → ((i j : ℕ) (d : X) → i ≤ j → j < length xs → before (get_or xs j d) (get_or xs i d) ≡ false) → IsRising xs
  rising [] far = tt
  rising (x ∷ xs) far = (
    rising xs (λ i j d le low. far (suc i) (suc j) d (omega (arith, le)) (omega (arith, low))),
    recursion_from_All (λ z. before z x ≡ false) xs (λ k d low. far 0 (suc k) d (omega arith) (omega (arith, low))),
  )

module _ {X : Type 0} (before : X → X → Bool) (o : IsStrictWeakOrder before) where
  abbrev After : X → X → Type 0
  After x z = before x z ≡ true

  not_itself : (x : X) → before x x ≡ false
  not_itself x = by (before x x) refl
    where
      by : (b : Bool) → before x x ≡ b → before x x ≡ false
      by true e = o.one_way x x e
      by false e = e

  -- ---- how many don't come after x

  abbrev late : X → X → ℕ
  late x z = if before x z then 0 else 1

  late_none : (x z : X) → After x z → late x z ≡ 0
  late_none x z e = ap (λ (b : Bool). if b then 0 else 1) e

  late_one : (x z : X) → before x z ≡ false → late x z ≡ 1
  late_one x z e = ap (λ (b : Bool). if b then 0 else 1) e

  none_late : (x : X) (zs : List X) → AllByRecursion (After x) zs → sum_by (late x) zs ≡ 0
  none_late x [] all = refl
  none_late x (z ∷ zs) all =
      let s = sum_by-cons (late x) z zs in let a = late_none x z all.0 in let b = none_late x zs all.1 in omega (arith, s, a, b)

  all_after : (x : X) (zs : List X) → sum_by (late x) zs ≡ 0 → AllByRecursion (After x) zs
  all_after x [] none = tt
  all_after x (z ∷ zs) none =
      let s = sum_by-cons (late x) z zs in (by (before x z) refl (omega (arith, s, none)), all_after x zs (omega (arith, s, none)))
    where
      by : (b : Bool) → before x z ≡ b → late x z ≡ 0 → After x z
      by true e low = e
      by false e low = absurd (let one = late_one x z e in omega (arith, one, low))

  -- among x and those that come after it, this is x alone
  once : (x : X) (xs : List X) → AllByRecursion (After x) xs → sum_by (late x) (x ∷ xs) ≡ 1
  once x xs all =
      let s = sum_by-cons (late x) x xs in let a = late_one x x (not_itself x) in let b = none_late x xs all in omega (arith, s, a, b)

  -- ---- lists with the same elements

  -- what stands behind x is the same
  same_behind : (x : X) (xs ys : List X) → AllByRecursion (After x) xs → HasSame (x ∷ xs) (x ∷ ys) → HasSame xs ys
  same_behind x xs ys after same = (
    (λ f. let e = same.0 f in let a = sum_by-cons f x xs in let b = sum_by-cons f x ys in omega (arith, e, a, b)),
    λ P all.
        let either = (same.1 (λ z. P z ⊎ (before x z ≡ false)) (inr (not_itself x), each_map P (λ z. P z ⊎ (before x z ≡ false)) (λ z p. inl p) xs all)).1 in
        each_both (λ z. P z ⊎ (before x z ≡ false)) (After x) P (pick P) ys either (all_after x ys none),
  )
    where
      none : sum_by (late x) ys ≡ 0
      none =
          let e = same.0 (late x) in
          let a = once x xs after in
          let s = sum_by-cons (late x) x ys in
          let b = late_one x x (not_itself x) in
          omega (arith, e, a, s, b)

      pick : (P : X → Type 0) (z : X) → P z ⊎ (before x z ≡ false) → After x z → P z
      pick P z (inl p) later = p
      pick P z (inr here) later = absurd (true≢false (sym later ∙ here))

  -- what stands first in order is x
  first_is : (x y : X) (xs ys : List X) → AllByRecursion (After x) xs → AllByRecursion (λ z. before z y ≡ false) ys
      → HasSame (x ∷ xs) (y ∷ ys) → y ≡ x
  first_is x y xs ys after up same =
      by (same.1 (λ z. (z ≡ x) ⊎ After x z) (inl refl, each_map (After x) (λ z. (z ≡ x) ⊎ After x z) (λ z later. inr later) xs after)).0
    where
      over : After x y → (z : X) → before z y ≡ false → After x z
      over later z here = test (before x z) refl
        where
          test : (b : Bool) → before x z ≡ b → After x z
          test true e = e
          test false e = absurd (true≢false (sym later ∙ o.chain x z y e here))

      by : (y ≡ x) ⊎ After x y → y ≡ x
      by (inl is) = is
      by (inr later) =
          let none = none_late x (y ∷ ys) (later, each_map (λ z. before z y ≡ false) (After x) (over later) ys up) in
          let one = once x xs after in
          let e = same.0 (late x) in
          absurd (omega (arith, none, one, e))

  only : (xs ys : List X) → IsStrict before xs → IsRising before ys → HasSame xs ys → ys ≡ xs
  only [] [] strict up same = refl
  only [] (y ∷ ys) strict up same = absurd ((same.1 (λ _. ⊥) tt).0)
  only (x ∷ xs) [] strict up same = absurd (let e = same.0 (λ _. 1) in let s = sum_by-cons (λ _. 1) x xs in omega (arith, e, s))
  only (x ∷ xs) (y ∷ ys) strict up same =
      let is = first_is x y xs ys strict.1 up.1 same in
      let rest = only xs ys strict.0 up.0 (same_behind x xs ys strict.1 (subst (λ z. HasSame (x ∷ xs) (z ∷ ys)) is same)) in
      λ i. is i ∷ rest i

  pub unique : (xs ys : List X) → IsStrict before xs → IsSortedBy before ys → IsPermutation xs ys → ys ≡ xs
  unique xs ys strict sorted moved = only xs ys strict (rising before ys (sorted_far before o ys sorted)) (
    (λ f. sum_by-IsPermutation f xs ys moved),
    λ P all. recursion_from_All P ys (All-permutation P xs ys moved (All-from_recursion P xs all)),
  )
