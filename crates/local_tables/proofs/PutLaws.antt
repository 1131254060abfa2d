-- Rows with changes put over them: what stands at each key, in which order, and which of them a test keeps.
use Rattle.std.proofs.Common.{◌≡◌, Bool, true, false, cond, List, [], ◌∷◌, map, filter, Option, Some, None, is_some, sym, refl, ap, ◌∙◌, option_copied, Bor}
use Rattle.std.specs.Map.{keys_of}
use Rattle.std.specs.List.{IsDistinct}
use Rattle.std.proofs.lemmas.Map.{lookup-none}
use Rattle.std.proofs.lemmas.Map.Keys.{IsDistinct-tail, IsDistinct-from_sorted}
use Rattle.std.proofs.lemmas.Map.Entries.{option_filter, none_past_head}
use Rattle.seata_types.specs.Orders.{key_cmp}
use Rattle.seata_types.specs.declared.rows.Row.{Row}
use Rattle.seata_types.specs.declared.rows.RowKey.{RowKey}
use Rattle.local_tables.specs.Rows.{Rows, Change, is_key, row_at, put, put_all, IsMap}
use Rattle.local_tables.specs.Lookups.{IsRising, over, kept, change_at}
use Rattle.local_tables.proofs.KeyLaws.{is_key_laws, same_key}
use Rattle.local_tables.proofs.MapLaws.{at, rising_insert, rising_remove, rising_filter, at_insert, at_remove, at_filter, same_entries}

-- ---- one change

pub map_put : (rows : Rows) (k : RowKey) (c : Option Row) → IsMap rows → IsMap (put rows k c)
map_put rows k (Some row) s = rising_insert rows k row s
map_put rows k None s = rising_remove rows k s

pub row_at_put : (rows : Rows) (k : RowKey) (c : Option Row) (q : RowKey) → IsMap rows → row_at (put rows k c) q ≡ cond (is_key k q) c (row_at rows q)
row_at_put rows k (Some row) q s = at_insert rows k row q
row_at_put rows k None q s = at_remove rows k q s

filtered_choice : (p : RowKey × Row → Bool) (k q : RowKey) (c o : Option Row) (b : Bool) → is_key k q ≡ b
    → option_filter (λ row. p (q, row)) (cond b c o) ≡ cond b (option_filter (λ row. p (k, row)) c) (option_filter (λ row. p (q, row)) o)
filtered_choice p k q c o true e = ap (λ j. option_filter (λ row. p (j, row)) c) (sym (same_key k q e))
filtered_choice p k q c o false e = refl

pub filter_put : (p : RowKey × Row → Bool) (rows : Rows) (k : RowKey) (c : Option Row) → IsMap rows → filter p (put rows k c) ≡ put (filter p rows) k (option_filter (λ row. p (k, row)) c)
filter_put p rows k c s =
    let after = map_put rows k c s in
    let left = rising_filter p (put rows k c) after in
    let right = map_put (filter p rows) k (option_filter (λ row. p (k, row)) c) (rising_filter p rows s) in
    same_entries _ _ left right (λ q.
    at_filter p (put rows k c) q after ∙ ap (option_filter (λ row. p (q, row))) (row_at_put rows k c q s)
    ∙ filtered_choice p k q c (row_at rows q) (is_key k q) refl
    ∙ ap (cond (is_key k q) (option_filter (λ row. p (k, row)) c)) (sym (at_filter p rows q s))
    ∙ sym (row_at_put (filter p rows) k (option_filter (λ row. p (k, row)) c) q (rising_filter p rows s)))

-- ---- many changes

pub map_put_all : (rows : Rows) (cs : List Change) → IsMap rows → IsMap (put_all rows cs)
map_put_all rows [] s = s
map_put_all rows (c ∷ cs) s = map_put_all (put rows c.0 c.1) cs (map_put rows c.0 c.1 s)

pub filter_put_all : (p : RowKey × Row → Bool) (rows : Rows) (cs : List Change) → IsMap rows → filter p (put_all rows cs) ≡ put_all (filter p rows) (map (kept p) cs)
filter_put_all p rows [] s = refl
filter_put_all p rows (c ∷ cs) s =
    filter_put_all p (put rows c.0 c.1) cs (map_put rows c.0 c.1 s) ∙ ap (λ l. put_all l (map (kept p) cs)) (filter_put p rows c.0 c.1 s)

pub row_at_put_all : (rows : Rows) (cs : List Change) (q : RowKey) → IsMap rows → IsDistinct is_key (keys_of cs) → row_at (put_all rows cs) q ≡ over (row_at rows q) (change_at cs q)
row_at_put_all rows [] q s d = refl
row_at_put_all rows (c ∷ cs) q s d =
    row_at_put_all (put rows c.0 c.1) cs q (map_put rows c.0 c.1 s) (IsDistinct-tail is_key c.0 (keys_of cs) d)
    ∙ ap (λ o. over o (at cs q)) (row_at_put rows c.0 c.1 q s)
    ∙ by (is_key c.0 q) (is_key q c.0) refl (is_key_laws.symm q c.0)
  where
    by : (a b : Bool) → is_key c.0 q ≡ a → b ≡ is_key c.0 q → over (cond a c.1 (row_at rows q)) (at cs q) ≡ over (row_at rows q) (cond b (Some c.1) (at cs q))
    by true true e f = ap (over c.1) (lookup-none (is_key q) cs (none_past_head is_key_laws q c cs d (is_key_laws.symm q c.0 ∙ e)))
    by true false e f = cc
    by false true e f = cc
    by false false e f = refl

is_some_copied : (o : Option (Bor Row)) → is_some o ≡ is_some (option_copied o)
is_some_copied None = refl
is_some_copied (Some x) = refl

-- whether there is a row at a key, by a look-up in the changes and then in the rows
pub is_some_present : (rows : Rows) (cs : List Change) (q : RowKey) (o : Option (Bor Row)) → IsMap rows → IsRising cs → option_copied o ≡ over (row_at rows q) (change_at cs q) → is_some o ≡ is_some (row_at (put_all rows cs) q)
is_some_present rows cs q o s t h =
    is_some_copied o ∙ ap is_some (h ∙ sym (row_at_put_all rows cs q s (IsDistinct-from_sorted key_cmp (keys_of cs) t)))
