-- What a statement puts are changes of its table, whose rows fit it and have their keys.
use Rattle.std.proofs.Common.{◌≡◌, ◌≢◌, ℕ, zero, suc, ◌==◌, Bool, true, false, cond, eqb-true, eq-eqb, List, [], ◌∷◌, length, map, filter, slice_get, slice_set, Option, Some, None, option_map, option_and_then, sym, refl, ap, ◌∙◌, subst, true≢false, Ordering, Less, Equal, Greater, ap₂}
use Rattle.std.specs.BTreeMap.{insert_entry}
use Rattle.std.specs.List.{AllByRecursion, list_all, list_any, cons_option}
use Rattle.std.specs.Map.{keys_of}
use Rattle.std.specs.Ordering.{match_ordering, is_eq}
use Rattle.std.proofs.lemmas.Bool.{and_parts, or_parts, not-true}
use Rattle.std.proofs.lemmas.Map.Keys.{IsDistinct-from_sorted}
use Rattle.seata_types.specs.Condition.{Condition}
use Rattle.seata_types.specs.Orders.{key_cmp}
use Rattle.seata_types.specs.declared.rows.Row.{Row}
use Rattle.seata_types.specs.declared.rows.RowKey.{RowKey}
use Rattle.seata_types.specs.declared.rows.Value.{Value}
use Rattle.seata_types.specs.declared.statements.Stmt.{Stmt}
use Rattle.seata_types.specs.declared.statements.Stmt.TheVariants as stmt
use Rattle.local_tables.specs.Calls.{insert_all}
use Rattle.local_tables.specs.Cells.{place_of}
use Rattle.local_tables.specs.Checks.{Set, passes, is_place, is_among, is_once, name_of, has_length, fits_tuple, fits_set, fits_condition, sets_key, fills_columns, leaves_key, has_types}
use Rattle.local_tables.specs.Lookups.{IsRising, AreRowsOf, HasKeysOf, change_at, over}
use Rattle.local_tables.specs.Rows.{Rows, Change, FitsKey, SideFitsKey, IsRowOf, IsMap, comes, goes, is_in, is_key, put_all, row_at, table_named, each_of, key_values}
use Rattle.local_tables.specs.Sound.{IsSound, IsChangeOf, AreChangesOf}
use Rattle.local_tables.specs.Sums.{expr_value, set_at, set_cells, row_of, updated}
use Rattle.local_tables.specs.Touches.{becomes, inserted, inserted_row, is_matched, touches, tuple_row}
use Rattle.local_tables.specs.declared.schemas.Schema.{Schema}
use Rattle.local_tables.specs.declared.schemas.TableDef.{TableDef}
use Rattle.local_tables.proofs.KeyLaws.{is_key_laws, key_exact, same_key, same_text_same}
use Rattle.local_tables.proofs.MapLaws.{IsBelow, is_key_itself, rising_head, rising_tail}
use Rattle.local_tables.proofs.PutLaws.{row_at_put_all}
use Rattle.local_tables.proofs.RowFitLaws.{tuple_fits, updated_fits}
use Rattle.local_tables.proofs.SoundLaws.{named, keyed_has, entry_fits, fits_key_from}

-- ---- what holds of each change holds of the one at a key

pub change_of : (P : Change → Type 0) (cs : List Change) (q : RowKey) (c : Option Row) → AllByRecursion P cs → change_at cs q ≡ Some c → P (q, c)
change_of P [] q c h e = cc
change_of P (d ∷ cs) q c h e = by (is_key q d.0) refl e (change_of P cs q c h.1)
  where
    by : (b : Bool) → is_key q d.0 ≡ b → cond b (Some d.1) (change_at cs q) ≡ Some c → (change_at cs q ≡ Some c → P (q, c)) → P (q, c)
    by true f g rest =
        let key : d.0 ≡ q = sym (same_key q d.0 f) in
        let row : d.1 ≡ c = cc in
        subst P (λ i. (key i, row i)) h.0
    by false f g rest = rest g

-- ---- each row under the changes fits its table and has its key

module _ (schema : Schema) (resource : ℕ) (rows : Rows) (changes : List Change) (s : IsSound schema rows) (a : AreChangesOf resource schema changes) where
  own_key : (key : RowKey) (row : Row) (o : Option (Option Row)) → change_at changes key ≡ o → over (row_at rows key) o ≡ Some row → FitsKey schema key row
  own_key key row None f e = s.keyed key row e
  own_key key row (Some c) f e =
      subst (SideFitsKey schema key) e (change_of (IsChangeOf resource schema) changes key c a f).fits

  pub rows_under : (name : List ℕ) (def : TableDef) → IsRising changes → table_named schema name ≡ Some def → AreRowsOf def (put_all rows changes)
  rows_under name def t e = λ key row h same.
      let there = row_at_put_all rows changes key s.in_order (IsDistinct-from_sorted key_cmp (keys_of changes) t) in
      own_key key row (change_at changes key) refl (sym there ∙ h) def (ap (table_named schema) (same ∙ named schema name def e) ∙ e)

pub keys_of_rows : (def : TableDef) (rows : Rows) → AreRowsOf def rows → HasKeysOf def rows
keys_of_rows def rows are = λ key row h same. (are key row h same).values

-- ---- the key columns of an updated row

slice_get_set_other : (cells : List Value) (place key : ℕ) (new : Value) → place ≢ key → slice_get (slice_set cells place new) key ≡ slice_get cells key
slice_get_set_other [] place key new h = refl
slice_get_set_other (x ∷ xs) zero zero new h = absurd (h refl)
slice_get_set_other (x ∷ xs) zero (suc key) new h = refl
slice_get_set_other (x ∷ xs) (suc place) zero new h = refl
slice_get_set_other (x ∷ xs) (suc place) (suc key) new h = slice_get_set_other xs place key new (λ e. h (ap suc e))

set_at_other : (place : Option ℕ) (key : ℕ) (new : Value) (cells : List Value) → is_place key place ≡ false → slice_get (set_at place new cells) key ≡ slice_get cells key
set_at_other None key new cells h = refl
set_at_other (Some place) key new cells h = slice_get_set_other cells place key new (λ e. absurd (true≢false (sym (same_itself key) ∙ ap (λ n. n == key) (sym e) ∙ h)))
  where
    same_itself : (n : ℕ) → (n == n) ≡ true
    same_itself n = eq-eqb n n refl

set_at_others : (keys : List ℕ) (place : Option ℕ) (new : Value) (cells : List Value) → is_among keys place ≡ false → each_of (slice_get (set_at place new cells)) keys ≡ each_of (slice_get cells) keys
set_at_others keys None new cells h = refl
set_at_others [] (Some place) new cells h = refl
set_at_others (key ∷ keys) (Some place) new cells h =
    let parts = or_parts (place == key) (list_any (λ k. place == k) keys) h in
    ap₂ (λ (o : Option Value) (r : Option (List Value)). option_and_then (λ v. option_map (λ vs. v ∷ vs) r) o)
    (set_at_other (Some place) key new cells parts.0) (set_at_others keys (Some place) new cells parts.1)

set_cells_key : (def : TableDef) (old : Row) (sets : List Set) (cells after : List Value) → list_any (sets_key def) sets ≡ false → set_cells def old sets cells ≡ Some after → each_of (slice_get after) def.key ≡ each_of (slice_get cells) def.key
set_cells_key def old [] cells after h e = let same : cells ≡ after = cc in ap (λ (l : List Value). each_of (slice_get l) def.key) (sym same)
set_cells_key def old (x ∷ xs) cells after h e =
    by (expr_value def old x.1) e (λ new. set_cells_key def old xs (set_at (place_of def x.0) new cells) after parts.1)
  where
    parts : (sets_key def x ≡ false) × (list_any (sets_key def) xs ≡ false)
    parts = or_parts (sets_key def x) (list_any (sets_key def) xs) h

    by : (o : Option Value) → option_and_then (λ new. set_cells def old xs (set_at (place_of def x.0) new cells)) o ≡ Some after
        → ((new : Value) → set_cells def old xs (set_at (place_of def x.0) new cells) ≡ Some after → each_of (slice_get after) def.key ≡ each_of (slice_get (set_at (place_of def x.0) new cells)) def.key)
        → each_of (slice_get after) def.key ≡ each_of (slice_get cells) def.key
    by None f rest = cc
    by (Some new) f rest = rest new f ∙ set_at_others def.key (place_of def x.0) new cells parts.0

updated_key : (def : TableDef) (sets : List Set) (old new : Row) → list_any (sets_key def) sets ≡ false → updated def sets old ≡ Some new → key_values def new ≡ key_values def old
updated_key def sets old new h e = by (set_cells def old sets old.0) refl e
  where
    by : (o : Option (List Value)) → set_cells def old sets old.0 ≡ o → option_map row_of o ≡ Some new → key_values def new ≡ key_values def old
    by None f g = cc
    by (Some cells) f g =
        let same : row_of cells ≡ new = cc in
        ap (λ (r : Row). key_values def r) (sym same) ∙ set_cells_key def old sets old.0 cells h f

-- ---- each entry of a map is found at its key

found_later : (x : RowKey × Row) (es fs : Rows) → IsBelow x.0 es → AllByRecursion (λ e. row_at fs e.0 ≡ Some e.1) es → AllByRecursion (λ e. row_at (x ∷ fs) e.0 ≡ Some e.1) es
found_later x [] fs b h = tt
found_later x (e ∷ es) fs b h =
    let other : is_key e.0 x.0 ≡ false = is_key_laws.symm e.0 x.0 ∙ ap is_eq b.0 in
    (ap (λ t. cond t (Some x.1) (row_at fs e.0)) other ∙ h.0, found_later x es fs b.1 h.1)

each_found : (es : Rows) → IsMap es → AllByRecursion (λ e. row_at es e.0 ≡ Some e.1) es
each_found [] s = tt
each_found (e ∷ es) s =
    (ap (λ t. cond t (Some e.1) (row_at es e.0)) (is_key_itself e.0), found_later e es es (rising_head e es s) (each_found es (rising_tail e es s)))

each_kept : (P : Change → Type 0) (p : RowKey × Row → Bool) (f : RowKey × Row → Change) (now es : Rows) → ((e : RowKey × Row) → row_at now e.0 ≡ Some e.1 → p e ≡ true → P (f e)) → AllByRecursion (λ e. row_at now e.0 ≡ Some e.1) es
    → AllByRecursion P (map f (filter p es))
each_kept P p f now [] step h = tt
each_kept P p f now (e ∷ es) step h = by (p e) refl (each_kept P p f now es step h.1)
  where
    by : (b : Bool) → p e ≡ b → AllByRecursion P (map f (filter p es)) → AllByRecursion P (map f (cond b (e ∷ filter p es) (filter p es)))
    by true y rest = (step e h.0 y, rest)
    by false y rest = rest

-- ---- what a statement puts

some_same : (x y : Row) → Some x ≡ Some y → x ≡ y
some_same x y e = cc

-- what the definition asks of a statement, but for its columns
pub record IsAccepted (def : TableDef) (s : Stmt) : Type 0 where
  pub fills : fills_columns def s ≡ true
  pub leaves : leaves_key def s ≡ true
  pub types : has_types def s ≡ true

module _ (resource : ℕ) (schema : Schema) (name : List ℕ) (def : TableDef) (t : table_named schema name ≡ Some def) where
  pub has_table : (key : RowKey) → key.table ≡ def.name → table_named schema key.table ≡ Some def
  has_table key h = ap (table_named schema) (h ∙ named schema name def t) ∙ t

  is_change : (key : RowKey) (c : Option Row) → key.resource ≡ resource → key.table ≡ def.name → ((row : Row) → c ≡ Some row → IsRowOf def key row) → IsChangeOf resource schema (key, c)
  is_change key c number same has = record { number = number; in_table = (def, has_table key same); fits = by c has }
    where
      by : (o : Option Row) → ((row : Row) → o ≡ Some row → IsRowOf def key row) → SideFitsKey schema key o
      by None is = tt
      by (Some row) is = fits_key_from schema name def key row t same (is row refl)

  inserted_changes : (columns : List (List ℕ)) (tuples : List (List Value)) → list_all (is_once columns) (map name_of def.columns) ≡ true → list_all (has_length (length columns)) tuples ≡ true → list_all (fits_tuple def columns) tuples ≡ true
      → AreChangesOf resource schema (map comes (inserted resource def columns tuples))
  inserted_changes columns [] once long types = tt
  inserted_changes columns (x ∷ xs) once long types =
      by (inserted_row resource def columns x) refl (inserted_changes columns xs once longs.1 typed.1)
    where
      longs : (has_length (length columns) x ≡ true) × (list_all (has_length (length columns)) xs ≡ true)
      longs = and_parts (has_length (length columns) x) _ long

      typed : (fits_tuple def columns x ≡ true) × (list_all (fits_tuple def columns) xs ≡ true)
      typed = and_parts (fits_tuple def columns x) _ types

      by : (o : Option (RowKey × Row)) → inserted_row resource def columns x ≡ o → AreChangesOf resource schema (map comes (inserted resource def columns xs)) → AreChangesOf resource schema (map comes (cons_option o (inserted resource def columns xs)))
      by None f rest = rest
      by (Some e) f rest =
          let has = keyed_has resource def (tuple_row def columns x) e f in
          let fits = entry_fits resource def (tuple_row def columns x) e (tuple_fits def columns x once longs.0 typed.0) has in
          (is_change e.0 (Some e.1) has.number has.table (λ row same. subst (λ (r : Row). IsRowOf def e.0 r) (some_same e.1 row same) fits), rest)

  pub matched_in : (asked : Option Condition) (e : RowKey × Row) → is_matched resource def asked e ≡ true → (e.0.resource ≡ resource) × (e.0.table ≡ def.name)
  matched_in asked e h =
      let parts = and_parts (is_in resource def e.0) _ h in
      let place = and_parts _ _ parts.0 in
      (eqb-true e.0.resource resource place.0, same_text_same e.0.table def.name place.1)

  -- a row of this table as an UPDATE leaves it
  updated_row : (key : RowKey) (sets : List Set) (old new : Row) → IsRowOf def key old → list_any (sets_key def) sets ≡ false → list_all (fits_set def) sets ≡ true → updated def sets old ≡ Some new → IsRowOf def key new
  updated_row key sets old new is leaves types e =
      record { fits = updated_fits def old is.fits sets new types e; values = updated_key def sets old new leaves e ∙ is.values }

  pub touched_changes : (s : Stmt) (now : Rows) → IsMap now → AreRowsOf def now → IsAccepted def s → AreChangesOf resource schema (touches resource def s now)
  touched_changes (stmt.Insert table columns tuples) now rising has ok =
      let fills = and_parts (list_all (is_once columns) (map name_of def.columns)) (list_all (has_length (length columns)) tuples) ok.fills in
      inserted_changes columns tuples fills.0 fills.1 ok.types
  touched_changes (stmt.Update table sets asked) now rising has ok =
      each_kept (IsChangeOf resource schema) (is_matched resource def asked) (becomes def sets) now now (λ e there m.
      let own = matched_in asked e m in
      is_change e.0 (updated def sets e.1) own.0 own.1 (λ row same. updated_row e.0 sets e.1 row (has e.0 e.1 there own.1) (not-true _ ok.leaves) (and_parts (list_all (fits_set def) sets) (passes (fits_condition def) asked) ok.types).0 same)) (each_found now rising)
  touched_changes (stmt.Delete table asked) now rising has ok =
      each_kept (IsChangeOf resource schema) (is_matched resource def asked) goes now now (λ e there m.
      let own = matched_in asked e m in
      is_change e.0 None own.0 own.1 (λ row same. cc)) (each_found now rising)
  touched_changes (stmt.Select table asked) now rising has ok = tt

-- ---- what a statement reads

module _ (P : RowKey × Row → Type 0) (p : RowKey × Row → Bool) (now : Rows) (gives : (e : RowKey × Row) → row_at now e.0 ≡ Some e.1 → p e ≡ true → P e) where
  kept_rows : (es : Rows) → AllByRecursion (λ e. row_at now e.0 ≡ Some e.1) es → AllByRecursion P (filter p es)
  kept_rows [] h = tt
  kept_rows (e ∷ es) h = by (p e) refl (kept_rows es h.1)
    where
      by : (b : Bool) → p e ≡ b → AllByRecursion P (filter p es) → AllByRecursion P (cond b (e ∷ filter p es) (filter p es))
      by true y rest = (gives e h.0 y, rest)
      by false y rest = rest

  pub each_of_rows : IsMap now → AllByRecursion P (filter p now)
  each_of_rows rising = kept_rows now (each_found now rising)

-- ---- the changes of a call after one more statement

module _ {X : Type 0} (P : RowKey × X → Type 0) where
  pub each_insert : (es : List (RowKey × X)) (k : RowKey) (v : X) → AllByRecursion P es → P (k, v) → AllByRecursion P (insert_entry key_cmp es k v)
  each_insert [] k v h new = (new, tt)
  each_insert (e ∷ es) k v h new = by (key_cmp k e.0) refl (each_insert es k v h.1 new)
    where
      by : (r : Ordering) → key_cmp k e.0 ≡ r → AllByRecursion P (insert_entry key_cmp es k v) → AllByRecursion P (match_ordering r ((k, v) ∷ e ∷ es) ((e.0, v) ∷ es) (e ∷ insert_entry key_cmp es k v))
      by Less q rest = (new, h)
      by Equal q rest = (subst (λ (j : RowKey). P (j, v)) (key_exact k e.0 q) new, h.1)
      by Greater q rest = (h.0, rest)

  pub each_insert_all : (es fs : List (RowKey × X)) → AllByRecursion P es → AllByRecursion P fs → AllByRecursion P (insert_all es fs)
  each_insert_all es [] h new = h
  each_insert_all es (f ∷ fs) h new = each_insert_all (insert_entry key_cmp es f.0 f.1) fs (each_insert es f.0 f.1 h new.0) new.1
