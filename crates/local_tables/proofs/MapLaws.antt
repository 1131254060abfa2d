-- Finite maps as lists in rising order of keys: what a put, a removal and a filter leave at each key, and that lists
-- with equal look-ups are equal.
use Rattle.std.proofs.Common.{◌≡◌, Bool, true, false, cond, List, [], ◌∷◌, filter, Option, Some, None, is_some, unwrap_or, Ordering, Less, Equal, Greater, sym, refl, ap, ◌∙◌, true≢false}
use Rattle.std.specs.BTreeMap.{insert_entry}
use Rattle.std.specs.Map.{lookup, remove_entry, keys_of}
use Rattle.std.specs.List.{AllByRecursion}
use Rattle.std.specs.List.Sorted.{IsStrictlySortedBy}
use Rattle.std.specs.Ordering.{match_ordering, ordering_reverse, is_eq}
use Rattle.std.proofs.lemmas.Cmp.{tied_itself}
use Rattle.std.proofs.lemmas.Map.{lookup-remove_entry}
use Rattle.std.proofs.lemmas.Map.Keys.{IsDistinct-from_sorted}
use Rattle.std.proofs.lemmas.Map.Entries.{option_filter}
use Rattle.seata_types.specs.Orders.{key_cmp}
use Rattle.seata_types.specs.declared.rows.RowKey.{RowKey}
use Rattle.local_tables.specs.Lookups.{IsRising}
use Rattle.local_tables.specs.Rows.{is_key}
use Rattle.local_tables.proofs.KeyLaws.{key_cmp_total, key_exact, is_key_laws, same_key}

greater_is_less : (j k : RowKey) → key_cmp k j ≡ Greater → key_cmp j k ≡ Less
greater_is_less j k e = key_cmp_total.antisymm j k ∙ ap ordering_reverse e

pub is_key_itself : (k : RowKey) → is_key k k ≡ true
is_key_itself k = ap is_eq (tied_itself key_cmp_total k)

module _ {X : Type 0} where
  abbrev pub at : List (RowKey × X) → RowKey → Option X
  at es q = lookup (is_key q) es

  -- a key below those of all entries
  abbrev pub IsBelow : RowKey → List (RowKey × X) → Type 0
  IsBelow k es = AllByRecursion (λ y. key_cmp k y ≡ Less) (keys_of es)

  pub rising_head : (e : RowKey × X) (es : List (RowKey × X)) → IsRising (e ∷ es) → IsBelow e.0 es
  unfolding IsStrictlySortedBy
  rising_head e es s = s.0

  pub rising_tail : (e : RowKey × X) (es : List (RowKey × X)) → IsRising (e ∷ es) → IsRising es
  unfolding IsStrictlySortedBy
  rising_tail e es s = s.1

  pub rising_cons : (e : RowKey × X) (es : List (RowKey × X)) → IsBelow e.0 es → IsRising es → IsRising (e ∷ es)
  unfolding IsStrictlySortedBy
  rising_cons e es b s = (b, s)

  -- no entry at a key that is below all
  pub none_below : (k : RowKey) (es : List (RowKey × X)) → IsBelow k es → at es k ≡ None
  none_below k [] b = refl
  none_below k (e ∷ es) b = ap (λ t. cond (is_eq t) (Some e.1) (at es k)) b.0 ∙ none_below k es b.1

  pub below_all : (j k : RowKey) (es : List (RowKey × X)) → key_cmp j k ≡ Less → IsBelow k es → IsBelow j es
  below_all j k [] l b = tt
  below_all j k (e ∷ es) l b = (key_cmp_total.trans j k e.0 l b.0, below_all j k es l b.1)

  -- ---- equal look-ups give equal lists

  at_head : (e : RowKey × X) (es : List (RowKey × X)) → at (e ∷ es) e.0 ≡ Some e.1
  at_head e es = ap (λ t. cond t (Some e.1) (at es e.0)) (is_key_itself e.0)

  module _ (x y : RowKey × X) (xs ys : List (RowKey × X)) (s : IsRising (x ∷ xs)) (t : IsRising (y ∷ ys)) (h : (q : RowKey) → at (x ∷ xs) q ≡ at (y ∷ ys) q) where
    same_heads : (r : Ordering) → key_cmp x.0 y.0 ≡ r → x.0 ≡ y.0
    same_heads Less p =
        let none : at (y ∷ ys) x.0 ≡ None = none_below x.0 (y ∷ ys) (p, below_all x.0 y.0 ys p (rising_head y ys t)) in
        let found : at (x ∷ xs) x.0 ≡ Some x.1 = at_head x xs in
        absurd (true≢false (ap is_some (sym found ∙ h x.0 ∙ none)))
    same_heads Equal p = key_exact x.0 y.0 p
    same_heads Greater p =
        let l : key_cmp y.0 x.0 ≡ Less = greater_is_less y.0 x.0 p in
        let none : at (x ∷ xs) y.0 ≡ None = none_below y.0 (x ∷ xs) (l, below_all y.0 x.0 xs l (rising_head x xs s)) in
        let found : at (y ∷ ys) y.0 ≡ Some y.1 = at_head y ys in
        absurd (true≢false (ap is_some (sym found ∙ sym (h y.0) ∙ none)))

    same_first : x.0 ≡ y.0
    same_first = same_heads (key_cmp x.0 y.0) refl

    same_value : x.1 ≡ y.1
    same_value = ap (λ o. unwrap_or o x.1) (sym (at_head x xs) ∙ h x.0 ∙ ap (at (y ∷ ys)) same_first ∙ at_head y ys)

    same_rest : (q : RowKey) → at xs q ≡ at ys q
    same_rest q = by (is_key q x.0) refl
      where
        by : (b : Bool) → is_key q x.0 ≡ b → at xs q ≡ at ys q
        by true p =
            let same : q ≡ x.0 = same_key q x.0 p in
            let left : at xs q ≡ None = ap (at xs) same ∙ none_below x.0 xs (rising_head x xs s) in
            let right : at ys q ≡ None = ap (at ys) (same ∙ same_first) ∙ none_below y.0 ys (rising_head y ys t) in
            left ∙ sym right
        by false p =
            let other : is_key q y.0 ≡ false = ap (is_key q) (sym same_first) ∙ p in
            sym (ap (λ b. cond b (Some x.1) (at xs q)) p) ∙ h q ∙ ap (λ b. cond b (Some y.1) (at ys q)) other

  pub same_entries : (es fs : List (RowKey × X)) → IsRising es → IsRising fs → ((q : RowKey) → at es q ≡ at fs q) → es ≡ fs
  same_entries [] [] s t h = refl
  same_entries [] (y ∷ ys) s t h = absurd (true≢false (sym (ap is_some (h y.0 ∙ at_head y ys))))
  same_entries (x ∷ xs) [] s t h = absurd (true≢false (ap is_some (sym (at_head x xs) ∙ h x.0)))
  same_entries (x ∷ xs) (y ∷ ys) s t h =
      let rest : xs ≡ ys = same_entries xs ys (rising_tail x xs s) (rising_tail y ys t) (same_rest x y xs ys s t h) in
      λ i. (same_first x y xs ys s t h i, same_value x y xs ys s t h i) ∷ rest i

  -- ---- an insertion

  inserted_below : (j k : RowKey) (v : X) (e : RowKey × X) (es fs : List (RowKey × X)) → key_cmp j k ≡ Less → IsBelow j (e ∷ es) → IsBelow j fs
      → (r : Ordering) → IsBelow j (match_ordering r ((k, v) ∷ e ∷ es) ((e.0, v) ∷ es) (e ∷ fs))
  inserted_below j k v e es fs l b h Less = (l, b)
  inserted_below j k v e es fs l b h Equal = b
  inserted_below j k v e es fs l b h Greater = (b.0, h)

  below_insert : (j k : RowKey) (v : X) (es : List (RowKey × X)) → key_cmp j k ≡ Less → IsBelow j es → IsBelow j (insert_entry key_cmp es k v)
  below_insert j k v [] l b = (l, tt)
  below_insert j k v (e ∷ es) l b =
      inserted_below j k v e es (insert_entry key_cmp es k v) l b (below_insert j k v es l b.1) (key_cmp k e.0)

  inserted_rising : (k : RowKey) (v : X) (e : RowKey × X) (es : List (RowKey × X)) → IsRising (e ∷ es) → IsRising (insert_entry key_cmp es k v)
      → (r : Ordering) → key_cmp k e.0 ≡ r → IsRising (match_ordering r ((k, v) ∷ e ∷ es) ((e.0, v) ∷ es) (e ∷ insert_entry key_cmp es k v))
  unfolding IsStrictlySortedBy
  inserted_rising k v e es s h Less p = ((p, below_all k e.0 es p s.0), s)
  inserted_rising k v e es s h Equal p = s
  inserted_rising k v e es s h Greater p = (below_insert e.0 k v es (greater_is_less e.0 k p) s.0, h)

  pub rising_insert : (es : List (RowKey × X)) (k : RowKey) (v : X) → IsRising es → IsRising (insert_entry key_cmp es k v)
  unfolding IsStrictlySortedBy
  rising_insert [] k v s = (tt, tt)
  rising_insert (e ∷ es) k v s = inserted_rising k v e es s (rising_insert es k v s.1) (key_cmp k e.0) refl

  not_both : (q k : RowKey) (e : RowKey × X) → key_cmp k e.0 ≡ Greater → is_key q e.0 ≡ true → is_key k q ≡ true → true ≡ false
  not_both q k e p x y = sym (is_key_laws.congr k q e.0 y ∙ x) ∙ ap is_eq p

  inserted_at : (q k : RowKey) (v : X) (e : RowKey × X) (es fs : List (RowKey × X)) (r : Ordering) → key_cmp k e.0 ≡ r → at fs q ≡ cond (is_key k q) (Some v) (at es q)
      → at (match_ordering r ((k, v) ∷ e ∷ es) ((e.0, v) ∷ es) (e ∷ fs)) q ≡ cond (is_key k q) (Some v) (at (e ∷ es) q)
  inserted_at q k v e es fs Less p h = ap (λ b. cond b (Some v) (at (e ∷ es) q)) (is_key_laws.symm q k)
  inserted_at q k v e es fs Equal p h =
      by (is_key q e.0) (is_key k q) refl refl (ap (is_key q) (sym (key_exact k e.0 p)) ∙ is_key_laws.symm q k)
    where
      by : (a b : Bool) → is_key q e.0 ≡ a → is_key k q ≡ b → is_key q e.0 ≡ is_key k q → cond a (Some v) (at es q) ≡ cond b (Some v) (cond a (Some e.1) (at es q))
      by true true x y same = refl
      by true false x y same = absurd (true≢false (sym x ∙ same ∙ y))
      by false true x y same = absurd (true≢false (sym y ∙ sym same ∙ x))
      by false false x y same = refl
  inserted_at q k v e es fs Greater p h = by (is_key q e.0) (is_key k q) refl refl
    where
      by : (a b : Bool) → is_key q e.0 ≡ a → is_key k q ≡ b → cond a (Some e.1) (at fs q) ≡ cond b (Some v) (cond a (Some e.1) (at es q))
      by true true x y = absurd (true≢false (not_both q k e p x y))
      by true false x y = refl
      by false true x y = h ∙ ap (λ t. cond t (Some v) (at es q)) y
      by false false x y = h ∙ ap (λ t. cond t (Some v) (at es q)) y

  pub at_insert : (es : List (RowKey × X)) (k : RowKey) (v : X) (q : RowKey) → at (insert_entry key_cmp es k v) q ≡ cond (is_key k q) (Some v) (at es q)
  at_insert [] k v q = ap (λ b. cond b (Some v) None) (is_key_laws.symm q k)
  at_insert (e ∷ es) k v q = inserted_at q k v e es (insert_entry key_cmp es k v) (key_cmp k e.0) refl (at_insert es k v q)

  -- ---- a removal

  removed_below : (j : RowKey) (e : RowKey × X) (es fs : List (RowKey × X)) → IsBelow j (e ∷ es) → IsBelow j fs → (t : Bool) → IsBelow j (cond t es (e ∷ fs))
  removed_below j e es fs b h true = b.1
  removed_below j e es fs b h false = (b.0, h)

  below_remove : (j k : RowKey) (es : List (RowKey × X)) → IsBelow j es → IsBelow j (remove_entry (is_key k) es)
  below_remove j k [] b = tt
  below_remove j k (e ∷ es) b = removed_below j e es (remove_entry (is_key k) es) b (below_remove j k es b.1) (is_key k e.0)

  removed_rising : (e : RowKey × X) (es fs : List (RowKey × X)) → IsRising es → IsRising (e ∷ fs) → (t : Bool) → IsRising (cond t es (e ∷ fs))
  removed_rising e es fs s h true = s
  removed_rising e es fs s h false = h

  pub rising_remove : (es : List (RowKey × X)) (k : RowKey) → IsRising es → IsRising (remove_entry (is_key k) es)
  unfolding IsStrictlySortedBy
  rising_remove [] k s = tt
  rising_remove (e ∷ es) k s =
      removed_rising e es (remove_entry (is_key k) es) s.1 (below_remove e.0 k es s.0, rising_remove es k s.1) (is_key k e.0)

  pub at_remove : (es : List (RowKey × X)) (k q : RowKey) → IsRising es → at (remove_entry (is_key k) es) q ≡ cond (is_key k q) None (at es q)
  at_remove es k q s = lookup-remove_entry is_key_laws (is_key k) (λ x y e. is_key_laws.congr k x y e) q es (IsDistinct-from_sorted key_cmp (keys_of es) s)

  -- ---- a filter

  kept_below : (j : RowKey) (e : RowKey × X) (fs : List (RowKey × X)) → key_cmp j e.0 ≡ Less → IsBelow j fs → (t : Bool) → IsBelow j (cond t (e ∷ fs) fs)
  kept_below j e fs l h true = (l, h)
  kept_below j e fs l h false = h

  pub below_filter : (p : RowKey × X → Bool) (j : RowKey) (es : List (RowKey × X)) → IsBelow j es → IsBelow j (filter p es)
  below_filter p j [] b = tt
  below_filter p j (e ∷ es) b = kept_below j e (filter p es) b.0 (below_filter p j es b.1) (p e)

  kept_rising : (e : RowKey × X) (fs : List (RowKey × X)) → IsBelow e.0 fs → IsRising fs → (t : Bool) → IsRising (cond t (e ∷ fs) fs)
  kept_rising e fs b h true = rising_cons e fs b h
  kept_rising e fs b h false = h

  pub rising_filter : (p : RowKey × X → Bool) (es : List (RowKey × X)) → IsRising es → IsRising (filter p es)
  rising_filter p [] s = s
  rising_filter p (e ∷ es) s =
      kept_rising e (filter p es) (below_filter p e.0 es (rising_head e es s)) (rising_filter p es (rising_tail e es s)) (p e)

  kept_at : (p : RowKey × X → Bool) (q : RowKey) (e : RowKey × X) (es : List (RowKey × X)) → IsBelow e.0 es → at (filter p es) q ≡ option_filter (λ v. p (q, v)) (at es q)
      → (a : Bool) → is_key q e.0 ≡ a → (b : Bool) → p e ≡ b → at (cond b (e ∷ filter p es) (filter p es)) q ≡ option_filter (λ v. p (q, v)) (cond a (Some e.1) (at es q))
  kept_at p q e es below rest true x true y =
      let same : q ≡ e.0 = same_key q e.0 x in
      let yes : p (q, e.1) ≡ true = ap (λ k. p (k, e.1)) same ∙ y in
      ap (λ t. cond t (Some e.1) (at (filter p es) q)) x ∙ sym (ap (λ t. cond t (Some e.1) None) yes)
  kept_at p q e es below rest true x false y =
      let same : q ≡ e.0 = same_key q e.0 x in
      let no : p (q, e.1) ≡ false = ap (λ k. p (k, e.1)) same ∙ y in
      let none : at es q ≡ None = ap (at es) same ∙ none_below e.0 es below in
      rest ∙ ap (option_filter (λ v. p (q, v))) none ∙ sym (ap (λ t. cond t (Some e.1) None) no)
  kept_at p q e es below rest false x true y = ap (λ t. cond t (Some e.1) (at (filter p es) q)) x ∙ rest
  kept_at p q e es below rest false x false y = rest

  pub at_filter : (p : RowKey × X → Bool) (es : List (RowKey × X)) (q : RowKey) → IsRising es → at (filter p es) q ≡ option_filter (λ v. p (q, v)) (at es q)
  at_filter p [] q s = refl
  at_filter p (e ∷ es) q s =
      kept_at p q e es (rising_head e es s) (at_filter p es q (rising_tail e es s)) (is_key q e.0) refl (p e) refl
