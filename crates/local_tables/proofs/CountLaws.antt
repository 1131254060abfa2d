-- How many rows there are under changes.
use Rattle.std.proofs.Common.{◌≡◌, ℕ, ◌+◌, ◌≤◌, nat_le, Bool, true, false, cond, List, [], ◌∷◌, length, count_by, Option, Some, None, is_some, Ordering, Less, Equal, Greater, sym, refl, ap, ◌∙◌, arith}
use Rattle.std.specs.BTreeMap.{insert_entry}
use Rattle.std.specs.List.{AllByRecursion, IsDistinct}
use Rattle.std.specs.Map.{remove_entry, keys_of, values_of}
use Rattle.std.specs.Ordering.{match_ordering, is_eq}
use Rattle.std.proofs.lemmas.Bool.Decides.{nat_tests}
use Rattle.std.proofs.lemmas.List.Sums.{sum_by-cons}
use Rattle.std.proofs.lemmas.Map.Keys.{IsDistinct-head, IsDistinct-tail}
use Rattle.seata_types.specs.Orders.{key_cmp}
use Rattle.seata_types.specs.declared.rows.Row.{Row}
use Rattle.seata_types.specs.declared.rows.RowKey.{RowKey}
use Rattle.local_tables.specs.Lookups.{IsRising, stands}
use Rattle.local_tables.specs.Rows.{Rows, Change, is_key, put, put_all, row_at, IsMap}
use Rattle.local_tables.proofs.MapLaws.{at, rising_head, rising_tail, none_below, below_all}
use Rattle.local_tables.proofs.PutLaws.{map_put, row_at_put}

abbrev pub one : Bool → ℕ
one b = cond b 1 0

pub count_by_cons : {X : Type 0} (p : X → Bool) (x : X) (xs : List X) → count_by p (x ∷ xs) ≡ one (p x) + count_by p xs
count_by_cons p x xs = sum_by-cons (λ y. cond (p y) 1 0) x xs

count_by_agrees : {X : Type 0} (p q : X → Bool) (xs : List X) → AllByRecursion (λ x. p x ≡ q x) xs → count_by p xs ≡ count_by q xs
count_by_agrees p q [] h = refl
count_by_agrees p q (x ∷ xs) h =
    count_by_cons p x xs ∙ ap (λ b. one b + count_by p xs) h.0 ∙ ap (λ n. one (q x) + n) (count_by_agrees p q xs h.1) ∙ sym (count_by_cons q x xs)

module _ {X : Type 0} where
  inserted_length : (k : RowKey) (v : X) (e : RowKey × X) (es fs : List (RowKey × X)) → IsRising (e ∷ es) → length fs + one (is_some (at es k)) ≡ length es + 1 → (r : Ordering) → key_cmp k e.0 ≡ r
      → length (match_ordering r ((k, v) ∷ e ∷ es) ((e.0, v) ∷ es) (e ∷ fs)) + one (is_some (at (e ∷ es) k)) ≡ length (e ∷ es) + 1
  inserted_length k v e es fs s h Less p =
      let none : at (e ∷ es) k ≡ None = none_below k (e ∷ es) (p, below_all k e.0 es p (rising_head e es s)) in
      let zero : one (is_some (at (e ∷ es) k)) ≡ 0 = ap (λ o. one (is_some o)) none in
      omega arith
  inserted_length k v e es fs s h Equal p =
      let found : at (e ∷ es) k ≡ Some e.1 = ap (λ r. cond (is_eq r) (Some e.1) (at es k)) p in
      let here : one (is_some (at (e ∷ es) k)) ≡ 1 = ap (λ o. one (is_some o)) found in
      omega arith
  inserted_length k v e es fs s h Greater p =
      let later : at (e ∷ es) k ≡ at es k = ap (λ r. cond (is_eq r) (Some e.1) (at es k)) p in
      let same : one (is_some (at (e ∷ es) k)) ≡ one (is_some (at es k)) = ap (λ o. one (is_some o)) later in
      omega arith

  length_insert : (es : List (RowKey × X)) (k : RowKey) (v : X) → IsRising es → length (insert_entry key_cmp es k v) + one (is_some (at es k)) ≡ length es + 1
  length_insert [] k v s = omega arith
  length_insert (e ∷ es) k v s = inserted_length k v e es (insert_entry key_cmp es k v) s (length_insert es k v (rising_tail e es s)) (key_cmp k e.0) refl

  removed_length : (e : RowKey × X) (es fs : List (RowKey × X)) (o : Option X) (b : Bool) → length fs + one (is_some o) ≡ length es
      → length (cond b es (e ∷ fs)) + one (is_some (cond b (Some e.1) o)) ≡ length (e ∷ es)
  removed_length e es fs o true h = omega arith
  removed_length e es fs o false h = omega arith

  length_remove : (es : List (RowKey × X)) (k : RowKey) → length (remove_entry (is_key k) es) + one (is_some (at es k)) ≡ length es
  length_remove [] k = omega arith
  length_remove (e ∷ es) k = removed_length e es (remove_entry (is_key k) es) (at es k) (is_key k e.0) (length_remove es k)

length_put : (rows : Rows) (k : RowKey) (c : Option Row) → IsMap rows → length (put rows k c) + one (is_some (row_at rows k)) ≡ length rows + one (is_some c)
length_put rows k (Some row) s = length_insert rows k row s
length_put rows k None s = let h = length_remove rows k in omega arith

stands_put : (rows : Rows) (k : RowKey) (c : Option Row) (ks : List RowKey) → IsMap rows → AllByRecursion (λ y. is_key k y ≡ false) ks → AllByRecursion (λ y. stands (put rows k c) y ≡ stands rows y) ks
stands_put rows k c [] s d = tt
stands_put rows k c (q ∷ qs) s d =
    (ap is_some (row_at_put rows k c q s ∙ ap (λ b. cond b c (row_at rows q)) d.0), stands_put rows k c qs s d.1)

pub length_put_all : (rows : Rows) (cs : List Change) → IsMap rows → IsDistinct is_key (keys_of cs) → length (put_all rows cs) + count_by (stands rows) (keys_of cs) ≡ length rows + count_by is_some (values_of cs)
length_put_all rows [] s d = omega arith
length_put_all rows (c ∷ cs) s d =
    let after : Rows = put rows c.0 c.1 in
    let rest = length_put_all after cs (map_put rows c.0 c.1 s) (IsDistinct-tail is_key c.0 (keys_of cs) d) in
    let first = length_put rows c.0 c.1 s in
    let same = count_by_agrees (stands after) (stands rows) (keys_of cs) (stands_put rows c.0 c.1 (keys_of cs) s (IsDistinct-head is_key c.0 (keys_of cs) d)) in
    let stood = count_by_cons (stands rows) c.0 (keys_of cs) in
    let puts = count_by_cons is_some c.1 (values_of cs) in
    omega arith

pub fits_under : (n limit : ℕ) → n ≤ limit → true ≡ nat_le n limit
fits_under n limit le = grind (arith, nat_tests)
