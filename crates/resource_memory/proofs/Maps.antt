-- Finite maps as lists in rising order of keys, for any order in which equal keys are one: what an insertion and a removal
-- leave at each key and of what holds of all entries.
use Rattle.std.proofs.Common.{◌≡◌, Bool, true, false, cond, List, [], ◌∷◌, ◌++◌, Option, Some, None, is_some, unwrap_or, Ordering, Less, Equal, Greater, sym, refl, ap, ◌∙◌, true≢false, subst}
use Rattle.std.specs.BTreeMap.{insert_entry, is_at}
use Rattle.std.specs.Map.{lookup, remove_entry, keys_of}
use Rattle.std.specs.List.{AllByRecursion}
use Rattle.std.specs.List.Sorted.{IsStrictlySortedBy}
use Rattle.std.specs.Ordering.{match_ordering, ordering_reverse, is_eq}
use Rattle.std.specs.Cmp.{IsTotalOrder, IsEquivalence}
use Rattle.std.proofs.lemmas.Cmp.{tied_itself, eq_by_cmp_equiv}
use Rattle.std.proofs.lemmas.Map.{lookup-remove_entry}
use Rattle.std.proofs.lemmas.Map.Keys.{IsDistinct-from_sorted}
use Rattle.std.proofs.lemmas.Map.Lookups.{CmpEqualImpliesEq}

module _ {K : Type 0} (R : K → K → Ordering) (total : IsTotalOrder R) (exact : CmpEqualImpliesEq R) where
  abbrev same : K → K → Bool
  same k q = is_eq (R k q)

  laws : IsEquivalence same
  laws = eq_by_cmp_equiv total

  itself : (k : K) → same k k ≡ true
  itself k = ap is_eq (tied_itself total k)

  equal_is : (r : Ordering) → is_eq r ≡ true → r ≡ Equal
  equal_is Less e = absurd (true≢false (sym e))
  equal_is Equal e = refl
  equal_is Greater e = absurd (true≢false (sym e))

  same_key : (k q : K) → same k q ≡ true → k ≡ q
  same_key k q e = exact k q (equal_is (R k q) e)

  greater_is_less : (j k : K) → R k j ≡ Greater → R j k ≡ Less
  greater_is_less j k e = total.antisymm j k ∙ ap ordering_reverse e

  less_is_greater : (j k : K) → R j k ≡ Less → R k j ≡ Greater
  less_is_greater j k e = total.antisymm k j ∙ ap ordering_reverse e

  module _ {X : Type 0} where
    abbrev at : List (K × X) → K → Option X
    at es q = lookup (is_at (R q)) es

    -- a key below those of all entries
    abbrev IsBelow : K → List (K × X) → Type 0
    IsBelow k es = AllByRecursion (λ y. R k y ≡ Less) (keys_of es)

    abbrev IsRising : List (K × X) → Type 0
    IsRising es = IsStrictlySortedBy R (keys_of es)

    below_all : (j k : K) (es : List (K × X)) → R j k ≡ Less → IsBelow k es → IsBelow j es
    below_all j k [] l b = tt
    below_all j k (e ∷ es) l b = (total.trans j k e.0 l b.0, below_all j k es l b.1)

    -- no entry at a key that is below all
    none_below : (k : K) (es : List (K × X)) → IsBelow k es → at es k ≡ None
    none_below k [] b = refl
    none_below k (e ∷ es) b = ap (λ t. cond (is_eq t) (Some e.1) (at es k)) b.0 ∙ none_below k es b.1

    -- ---- an insertion

    inserted_below : (j k : K) (v : X) (e : K × X) (es fs : List (K × X)) → R j k ≡ Less → IsBelow j (e ∷ es) → IsBelow j fs
        → (r : Ordering) → IsBelow j (match_ordering r ((k, v) ∷ e ∷ es) ((e.0, v) ∷ es) (e ∷ fs))
    inserted_below j k v e es fs l b h Less = (l, b)
    inserted_below j k v e es fs l b h Equal = b
    inserted_below j k v e es fs l b h Greater = (b.0, h)

    below_insert : (j k : K) (v : X) (es : List (K × X)) → R j k ≡ Less → IsBelow j es → IsBelow j (insert_entry R es k v)
    below_insert j k v [] l b = (l, tt)
    below_insert j k v (e ∷ es) l b = inserted_below j k v e es (insert_entry R es k v) l b (below_insert j k v es l b.1) (R k e.0)

    inserted_rising : (k : K) (v : X) (e : K × X) (es : List (K × X)) → IsRising (e ∷ es) → IsRising (insert_entry R es k v)
        → (r : Ordering) → R k e.0 ≡ r → IsRising (match_ordering r ((k, v) ∷ e ∷ es) ((e.0, v) ∷ es) (e ∷ insert_entry R es k v))
    unfolding IsStrictlySortedBy
    inserted_rising k v e es s h Less p = ((p, below_all k e.0 es p s.0), s)
    inserted_rising k v e es s h Equal p = s
    inserted_rising k v e es s h Greater p = (below_insert e.0 k v es (greater_is_less e.0 k p) s.0, h)

    pub rising_insert : (es : List (K × X)) (k : K) (v : X) → IsRising es → IsRising (insert_entry R es k v)
    unfolding IsStrictlySortedBy
    rising_insert [] k v s = (tt, tt)
    rising_insert (e ∷ es) k v s = inserted_rising k v e es s (rising_insert es k v s.1) (R k e.0) refl

    not_both : (q k : K) (e : K × X) → R k e.0 ≡ Greater → same q e.0 ≡ true → same k q ≡ true → true ≡ false
    not_both q k e p x y = sym (laws.congr k q e.0 y ∙ x) ∙ ap is_eq p

    inserted_at : (q k : K) (v : X) (e : K × X) (es fs : List (K × X)) (r : Ordering) → R k e.0 ≡ r → at fs q ≡ cond (same k q) (Some v) (at es q)
        → at (match_ordering r ((k, v) ∷ e ∷ es) ((e.0, v) ∷ es) (e ∷ fs)) q ≡ cond (same k q) (Some v) (at (e ∷ es) q)
    inserted_at q k v e es fs Less p h = ap (λ b. cond b (Some v) (at (e ∷ es) q)) (laws.symm q k)
    inserted_at q k v e es fs Equal p h =
        by (same q e.0) (same k q) refl refl (ap (same q) (sym (exact k e.0 p)) ∙ laws.symm q k)
      where
        by : (a b : Bool) → same q e.0 ≡ a → same k q ≡ b → same q e.0 ≡ same k q → cond a (Some v) (at es q) ≡ cond b (Some v) (cond a (Some e.1) (at es q))
        by true true x y is = refl
        by true false x y is = absurd (true≢false (sym x ∙ is ∙ y))
        by false true x y is = absurd (true≢false (sym y ∙ sym is ∙ x))
        by false false x y is = refl
    inserted_at q k v e es fs Greater p h = by (same q e.0) (same k q) refl refl
      where
        by : (a b : Bool) → same q e.0 ≡ a → same k q ≡ b → cond a (Some e.1) (at fs q) ≡ cond b (Some v) (cond a (Some e.1) (at es q))
        by true true x y = absurd (true≢false (not_both q k e p x y))
        by true false x y = refl
        by false true x y = h ∙ ap (λ t. cond t (Some v) (at es q)) y
        by false false x y = h ∙ ap (λ t. cond t (Some v) (at es q)) y

    pub at_insert : (es : List (K × X)) (k : K) (v : X) (q : K) → at (insert_entry R es k v) q ≡ cond (same k q) (Some v) (at es q)
    at_insert [] k v q = ap (λ b. cond b (Some v) None) (laws.symm q k)
    at_insert (e ∷ es) k v q = inserted_at q k v e es (insert_entry R es k v) (R k e.0) refl (at_insert es k v q)

    -- what holds of each entry
    inserted_all : (P : K × X → Type 0) (k : K) (v : X) (e : K × X) (es fs : List (K × X)) → P (k, v) → P e → AllByRecursion P es → AllByRecursion P fs
        → (r : Ordering) → R k e.0 ≡ r → AllByRecursion P (match_ordering r ((k, v) ∷ e ∷ es) ((e.0, v) ∷ es) (e ∷ fs))
    inserted_all P k v e es fs new one all h Less p = (new, (one, all))
    inserted_all P k v e es fs new one all h Equal p = (subst (λ (q : K). P (q, v)) (exact k e.0 p) new, all)
    inserted_all P k v e es fs new one all h Greater p = (one, h)

    pub all_insert : (P : K × X → Type 0) (es : List (K × X)) (k : K) (v : X) → AllByRecursion P es → P (k, v) → AllByRecursion P (insert_entry R es k v)
    all_insert P [] k v all new = (new, tt)
    all_insert P (e ∷ es) k v all new =
        inserted_all P k v e es (insert_entry R es k v) new all.0 all.1 (all_insert P es k v all.1 new) (R k e.0) refl

    -- ---- a removal

    removed_below : (j : K) (e : K × X) (es fs : List (K × X)) → IsBelow j (e ∷ es) → IsBelow j fs → (t : Bool) → IsBelow j (cond t es (e ∷ fs))
    removed_below j e es fs b h true = b.1
    removed_below j e es fs b h false = (b.0, h)

    below_remove : (j k : K) (es : List (K × X)) → IsBelow j es → IsBelow j (remove_entry (is_at (R k)) es)
    below_remove j k [] b = tt
    below_remove j k (e ∷ es) b = removed_below j e es (remove_entry (is_at (R k)) es) b (below_remove j k es b.1) (same k e.0)

    removed_rising : (e : K × X) (es fs : List (K × X)) → IsRising es → IsRising (e ∷ fs) → (t : Bool) → IsRising (cond t es (e ∷ fs))
    removed_rising e es fs s h true = s
    removed_rising e es fs s h false = h

    pub rising_remove : (es : List (K × X)) (k : K) → IsRising es → IsRising (remove_entry (is_at (R k)) es)
    unfolding IsStrictlySortedBy
    rising_remove [] k s = tt
    rising_remove (e ∷ es) k s =
        removed_rising e es (remove_entry (is_at (R k)) es) s.1 (below_remove e.0 k es s.0, rising_remove es k s.1) (same k e.0)

    pub at_remove : (es : List (K × X)) (k q : K) → IsRising es → at (remove_entry (is_at (R k)) es) q ≡ cond (same k q) None (at es q)
    at_remove es k q s = lookup-remove_entry laws (is_at (R k)) (λ x y e. laws.congr k x y e) q es (IsDistinct-from_sorted R (keys_of es) s)

    removed_all : (P : K × X → Type 0) (e : K × X) (es fs : List (K × X)) → P e → AllByRecursion P es → AllByRecursion P fs → (t : Bool) → AllByRecursion P (cond t es (e ∷ fs))
    removed_all P e es fs one all h true = all
    removed_all P e es fs one all h false = (one, h)

    pub all_remove : (P : K × X → Type 0) (es : List (K × X)) (k : K) → AllByRecursion P es → AllByRecursion P (remove_entry (is_at (R k)) es)
    all_remove P [] k all = tt
    all_remove P (e ∷ es) k all = removed_all P e es (remove_entry (is_at (R k)) es) all.0 all.1 (all_remove P es k all.1) (same k e.0)

    -- ---- a key without an entry: what was put there is taken out again

    none_first : (e : K × X) (es : List (K × X)) (k : K) (b : Bool) → cond b (Some e.1) (at es k) ≡ None → (b ≡ false) × (at es k ≡ None)
    none_first e es k true is = absurd (some_none e.1 is)
      where
        some_none : (v : X) → Some v ≡ None → ⊥
        some_none v f = cc
    none_first e es k false is = (refl, is)

    pub remove_none : (es : List (K × X)) (k : K) → at es k ≡ None → remove_entry (is_at (R k)) es ≡ es
    remove_none [] k is = refl
    remove_none (e ∷ es) k is =
        let both = none_first e es k (same k e.0) is in
        ap (λ t. cond t es (e ∷ remove_entry (is_at (R k)) es)) both.0 ∙ ap (λ fs. e ∷ fs) (remove_none es k both.1)

    taken_out : (k : K) (v : X) (e : K × X) (es fs : List (K × X)) → same k e.0 ≡ false → remove_entry (is_at (R k)) fs ≡ es
        → (r : Ordering) → R k e.0 ≡ r → remove_entry (is_at (R k)) (match_ordering r ((k, v) ∷ e ∷ es) ((e.0, v) ∷ es) (e ∷ fs)) ≡ e ∷ es
    taken_out k v e es fs other h Less p = ap (λ t. cond t (e ∷ es) ((k, v) ∷ remove_entry (is_at (R k)) (e ∷ es))) (itself k)
    taken_out k v e es fs other h Equal p = absurd (true≢false (sym (ap is_eq p) ∙ other))
    taken_out k v e es fs other h Greater p = ap (λ t. cond t fs (e ∷ remove_entry (is_at (R k)) fs)) other ∙ ap (λ gs. e ∷ gs) h

    pub remove_insert : (es : List (K × X)) (k : K) (v : X) → at es k ≡ None → remove_entry (is_at (R k)) (insert_entry R es k v) ≡ es
    remove_insert [] k v is = ap (λ t. cond t [] ((k, v) ∷ [])) (itself k)
    remove_insert (e ∷ es) k v is =
        let both = none_first e es k (same k e.0) is in
        taken_out k v e es (insert_entry R es k v) both.0 (remove_insert es k v both.1) (R k e.0) refl

    -- ---- an entry behind all others

    head_is_below : (e : K × X) (es : List (K × X)) (k : K) (v : X) (rest : List (K × X)) → AllByRecursion (λ y. R e.0 y ≡ Less) (keys_of (es ++ (k, v) ∷ rest)) → R e.0 k ≡ Less
    head_is_below e [] k v rest b = b.0
    head_is_below e (f ∷ es) k v rest b = head_is_below e es k v rest b.1

    pub insert_last : (es : List (K × X)) (k : K) (v : X) (rest : List (K × X)) → IsRising (es ++ (k, v) ∷ rest) → insert_entry R es k v ≡ es ++ (k, v) ∷ []
    unfolding IsStrictlySortedBy
    insert_last [] k v rest s = refl
    insert_last (e ∷ es) k v rest s =
        ap (λ r. match_ordering r ((k, v) ∷ e ∷ es) ((e.0, v) ∷ es) (e ∷ insert_entry R es k v)) (less_is_greater e.0 k (head_is_below e es k v rest s.0))
        ∙ ap (λ fs. e ∷ fs) (insert_last es k v rest s.1)

    append_more : (done : List (K × X)) (e : K × X) (rest : List (K × X)) → (done ++ e ∷ []) ++ rest ≡ done ++ e ∷ rest
    append_more [] e rest = refl
    append_more (d ∷ done) e rest = ap (λ l. d ∷ l) (append_more done e rest)

    -- entries that rise, put one after the other
    pub put_last : (es : List (K × X)) (k : K) (v : X) (rest all new : List (K × X)) → IsRising all → es ++ (k, v) ∷ rest ≡ all → new ≡ insert_entry R es k v → new ++ rest ≡ all
    put_last es k v rest all new s is put =
        ap (λ l. l ++ rest) (put ∙ insert_last es k v rest (subst (λ l. IsRising l) (sym is) s)) ∙ append_more es (k, v) rest ∙ is

    -- ---- equal look-ups give equal lists

    rising_head : (e : K × X) (es : List (K × X)) → IsRising (e ∷ es) → IsBelow e.0 es
    unfolding IsStrictlySortedBy
    rising_head e es s = s.0

    rising_tail : (e : K × X) (es : List (K × X)) → IsRising (e ∷ es) → IsRising es
    unfolding IsStrictlySortedBy
    rising_tail e es s = s.1

    at_head : (e : K × X) (es : List (K × X)) → at (e ∷ es) e.0 ≡ Some e.1
    at_head e es = ap (λ t. cond t (Some e.1) (at es e.0)) (itself e.0)

    module _ (x y : K × X) (xs ys : List (K × X)) (s : IsRising (x ∷ xs)) (t : IsRising (y ∷ ys)) (h : (q : K) → at (x ∷ xs) q ≡ at (y ∷ ys) q) where
      same_heads : (r : Ordering) → R x.0 y.0 ≡ r → x.0 ≡ y.0
      same_heads Less p =
          let none : at (y ∷ ys) x.0 ≡ None = none_below x.0 (y ∷ ys) (p, below_all x.0 y.0 ys p (rising_head y ys t)) in
          let found : at (x ∷ xs) x.0 ≡ Some x.1 = at_head x xs in
          absurd (true≢false (ap is_some (sym found ∙ h x.0 ∙ none)))
      same_heads Equal p = exact x.0 y.0 p
      same_heads Greater p =
          let l : R y.0 x.0 ≡ Less = greater_is_less y.0 x.0 p in
          let none : at (x ∷ xs) y.0 ≡ None = none_below y.0 (x ∷ xs) (l, below_all y.0 x.0 xs l (rising_head x xs s)) in
          let found : at (y ∷ ys) y.0 ≡ Some y.1 = at_head y ys in
          absurd (true≢false (ap is_some (sym found ∙ sym (h y.0) ∙ none)))

      same_first : x.0 ≡ y.0
      same_first = same_heads (R x.0 y.0) refl

      same_value : x.1 ≡ y.1
      same_value = ap (λ o. unwrap_or o x.1) (sym (at_head x xs) ∙ h x.0 ∙ ap (at (y ∷ ys)) same_first ∙ at_head y ys)

      same_rest : (q : K) → at xs q ≡ at ys q
      same_rest q = by (same q x.0) refl
        where
          by : (b : Bool) → same q x.0 ≡ b → at xs q ≡ at ys q
          by true p =
              let is : q ≡ x.0 = same_key q x.0 p in
              let left : at xs q ≡ None = ap (at xs) is ∙ none_below x.0 xs (rising_head x xs s) in
              let right : at ys q ≡ None = ap (at ys) (is ∙ same_first) ∙ none_below y.0 ys (rising_head y ys t) in
              left ∙ sym right
          by false p =
              let other : same q y.0 ≡ false = ap (same q) (sym same_first) ∙ p in
              sym (ap (λ b. cond b (Some x.1) (at xs q)) p) ∙ h q ∙ ap (λ b. cond b (Some y.1) (at ys q)) other

    pub same_entries : (es fs : List (K × X)) → IsRising es → IsRising fs → ((q : K) → at es q ≡ at fs q) → es ≡ fs
    same_entries [] [] s t h = refl
    same_entries [] (y ∷ ys) s t h = absurd (true≢false (sym (ap is_some (h y.0 ∙ at_head y ys))))
    same_entries (x ∷ xs) [] s t h = absurd (true≢false (ap is_some (sym (at_head x xs) ∙ h x.0)))
    same_entries (x ∷ xs) (y ∷ ys) s t h =
        let rest : xs ≡ ys = same_entries xs ys (rising_tail x xs s) (rising_tail y ys t) (same_rest x y xs ys s t h) in
        λ i. (same_first x y xs ys s t h i, same_value x y xs ys s t h i) ∷ rest i
