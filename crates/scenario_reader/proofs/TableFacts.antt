-- What is known of a table and of its rows once it is read.
use Rattle.std.proofs.Common.{◌≡◌, ◌≤◌, ◌<◌, ◌+◌, inl, inr, ℕ, Bool, true, false, ◌||◌, cond, List, [], ◌∷◌, ◌++◌, length, map, Option, Some, None, option_and_then, Ok, refl, ap, sym, ◌∙◌, subst, arith}
use Rattle.std.proofs.lemmas.Bool.Decides.{nat_tests}
use Rattle.std.proofs.lemmas.Cmp.{nat_eq_equiv, eq_by_cmp_equiv, lists_total}
use Rattle.std.proofs.lemmas.List.Elements.{All-push, All-nil, All-map, All-cons}
use Rattle.std.proofs.lemmas.Option.{same_Some}
use Rattle.std.specs.List.{IsDistinct, list_any, position, slice_get}
use Rattle.std.specs.Prelude.{ℤ, All, ◌==◌, nat_eq, codes}
use Rattle.serde_json.specs.Data.{Data, Items}
use Rattle.serde_json.specs.Find.{get, as_number, as_u64, as_i64, as_str, as_array}
use Rattle.seata_types.specs.ValueOrder.{value_cmp_total}
use Rattle.seata_types.specs.declared.limits.TheConstants.{COLUMNS, KEY_PARTS, RESOURCE_ROWS}
use Rattle.seata_types.specs.declared.rows.Row.{Row}
use Rattle.seata_types.specs.declared.rows.Value.{Value}
use Rattle.seata_types.specs.declared.rows.Value.TheVariants as value
use Rattle.seata_types.specs.declared.statuses.BranchKind.{BranchKind}
use Rattle.local_tables.specs.declared.schemas.ColType.{ColType}
use Rattle.local_tables.specs.declared.schemas.ColType.TheVariants as type
use Rattle.local_tables.specs.declared.schemas.TableDef.{TableDef}
use Rattle.scenario_form.specs.Contents.{Column, IsBetween, IsTableName, AreDifferent, column_name, IsTable, FitsColumn, IsRow}
use Rattle.scenario_reader.specs.Faults.{within, to_item, each, items_length, text, text_by, list, pair, member, an_object, only, to_member}
use Rattle.scenario_reader.specs.Names.{new_name}
use Rattle.scenario_reader.specs.Tables as form
use Rattle.scenario_reader.proofs.Apart.{distinct_push, different_push, map_push, position_within, get_push}
use Rattle.scenario_reader.proofs.Inverses.{bind_ok, within_ok, if_ok, unless_ok, same_ok, le_of, each_keeps, each_all, each_few, each_length}

-- ---- names

new_name_ok : (used : Bool) (name n : List ℕ) → new_name used name ≡ Ok n → IsTableName n × (used ≡ false) × (name ≡ n)
unfolding new_name
new_name_ok used name n e =
    let shape = if_ok _ _ _ _ e in
    let short = if_ok _ _ _ _ shape.1 in
    let new = unless_ok _ _ _ _ short.1 in
    let same = same_ok name n new.1 in
    (subst IsTableName same (record { form = shape.0; short = le_of _ _ short.0 }), new.0, same)

-- a name that is read is new
table_name_ok : (defs : List TableDef) (d : Option Data) (n : List ℕ) → form.table_name defs d ≡ Ok n → IsTableName n × (list_any (form.is_table_named n) defs ≡ false)
unfolding form.table_name
table_name_ok defs d n e =
    let name = bind_ok (text d) _ _ e in
    let new = new_name_ok (list_any (form.is_table_named name.0) defs) name.0 n name.2 in
    (new.0, ap (λ m. list_any (form.is_table_named m) defs) (sym new.2) ∙ new.1)

-- ---- columns

column_ok : (before : List Column) (d : Data) (c : Column) → form.column before d ≡ Ok c → IsTableName c.0 × (list_any (form.is_column_named c.0) before ≡ false)
unfolding form.column
column_ok before d c e =
    let parts = bind_ok (pair d) _ _ e in
    let name = bind_ok (within (to_item 0) (form.column_name before (as_str parts.0.0))) _ _ parts.2 in
    let kind = bind_ok (within (to_item 1) (form.column_type parts.0.1)) _ _ name.2 in
    let read = bind_ok (text_by (as_str parts.0.0)) _ _ (within_ok (to_item 0) (form.column_name before (as_str parts.0.0)) name.0 name.1) in
    let new = new_name_ok (list_any (form.is_column_named read.0) before) read.0 name.0 read.2 in
    let same : name.0 ≡ c.0 = ap (λ (z : Column). z.0) (same_ok (name.0, kind.0) c kind.2) in
    (subst IsTableName same new.0, ap (λ m. list_any (form.is_column_named m) before) (sym same ∙ sym new.2) ∙ new.1)

some_columns_ok : (found cs : List Column) → form.some_columns found ≡ Ok cs → (found ≡ cs) × (1 ≤ length cs)
some_columns_ok [] cs e = absurd cc
some_columns_ok (c ∷ found) cs e =
    let same = same_ok _ _ e in
    let some : 1 ≤ length (c ∷ found) = omega arith in
    (same, subst (λ (z : List Column). 1 ≤ length z) same some)

-- the columns of a table
record AreColumns (cs : List Column) : Type 0 where
  pub few : IsBetween 1 COLUMNS (length cs)
  pub named : All IsTableName (map column_name cs)
  pub different : AreDifferent (map column_name cs)

none_different : AreDifferent []
unfolding IsDistinct
none_different = tt

columns_ok : (d : Option Data) (cs : List Column) → form.columns d ≡ Ok cs → AreColumns cs
unfolding form.columns
columns_ok d cs e =
    let items = bind_ok (list COLUMNS d) _ _ e in
    let found = bind_ok (each form.column [] items.0) _ _ items.2 in
    let some = some_columns_ok found.0 cs found.2 in
    let few = each_few form.column COLUMNS d items.0 found.0 items.1 found.1 in
    let named = each_all form.column (λ c. IsTableName c.0) (λ before one c reads. (column_ok before one c reads).0) items.0 found.0 found.1 in
    let apart = each_keeps form.column (λ before. AreDifferent (map column_name before))
    (λ before one c different reads. different_push column_name before c (column_ok before one c reads).1 different) [] items.0 found.0 none_different found.1 in
    let whole : length found.0 ≡ length cs = ap length some.0 in
    record {
      few = (some.1, subst (λ n. n ≤ COLUMNS) whole few);
      named = subst (λ (z : List Column). All IsTableName (map column_name z)) some.0 (All-map IsTableName column_name found.0 named);
      different = subst (λ (z : List Column). AreDifferent (map column_name z)) some.0 apart;
    }

-- ---- keys

key_place_ok : (found : Option ℕ) (k : ℕ) → form.key_place found ≡ Ok k → found ≡ Some k
key_place_ok (Some j) k e = ap (λ (n : ℕ). Some n) (same_ok j k e)
key_place_ok None k e = absurd cc

key_column_ok : (columns : List Column) (name : List ℕ) (k : ℕ) → form.key_column columns name ≡ Ok k → k < length columns
unfolding form.key_column
key_column_ok columns name k e =
    let there = if_ok _ _ _ _ e in
    position_within (form.is_column_named name) columns k (key_place_ok (position (form.is_column_named name) columns) k there.1)

any_flips : (k : ℕ) (places : List ℕ) → list_any (λ p. p == k) places ≡ list_any (nat_eq k) places
any_flips k [] = refl
any_flips k (p ∷ places) =
    ap (λ rest. (p == k) || rest) (any_flips k places) ∙ ap (λ b. b || list_any (nat_eq k) places) (nat_eq_equiv.symm p k)

key_part_ok : (columns : List Column) (places : List ℕ) (d : Data) (k : ℕ) → form.key_part columns places d ≡ Ok k → (k < length columns) × (list_any (nat_eq k) places ≡ false)
unfolding form.key_part
key_part_ok columns places d k e =
    let name = bind_ok (text_by (as_str d)) _ _ e in
    let place = bind_ok (form.key_column columns name.0) _ _ name.2 in
    let new = unless_ok _ _ _ _ place.2 in
    let same = same_ok place.0 k new.1 in (
      subst (λ (j : ℕ). j < length columns) same (key_column_ok columns name.0 place.0 place.1),
      sym (any_flips k places) ∙ ap (λ j. list_any (λ p. p == j) places) (sym same) ∙ new.0,
    )

-- the key of a table with these columns
record IsKey (columns : List Column) (places : List ℕ) : Type 0 where
  pub few : IsBetween 1 KEY_PARTS (length places)
  pub parts : All (λ k. k < length columns) places
  pub distinct : IsDistinct nat_eq places

some_places_ok : (found places : List ℕ) → form.some_places found ≡ Ok places → (found ≡ places) × (1 ≤ length places)
some_places_ok [] places e = absurd cc
some_places_ok (k ∷ found) places e =
    let same = same_ok _ _ e in
    let some : 1 ≤ length (k ∷ found) = omega arith in
    (same, subst (λ (z : List ℕ). 1 ≤ length z) same some)

no_place : IsDistinct nat_eq []
unfolding IsDistinct
no_place = tt

key_list_ok : (columns : List Column) (d : Option Data) (places : List ℕ) → form.key_list columns d ≡ Ok places → IsKey columns places
unfolding form.key_list
key_list_ok columns d places e =
    let items = bind_ok (list KEY_PARTS d) _ _ e in
    let found = bind_ok (each (form.key_part columns) [] items.0) _ _ items.2 in
    let some = some_places_ok found.0 places found.2 in
    let read = form.key_part columns in
    let few = each_few read KEY_PARTS d items.0 found.0 items.1 found.1 in
    let parts = each_all read (λ k. k < length columns) (λ before one k reads. (key_part_ok columns before one k reads).0) items.0 found.0 found.1 in
    let apart = each_keeps read (IsDistinct nat_eq)
    (λ before one k distinct reads. distinct_push nat_eq nat_eq_equiv.symm before k (key_part_ok columns before one k reads).1 distinct) [] items.0 found.0 no_place found.1 in
    let whole : length found.0 ≡ length places = ap length some.0 in
    record {
      few = (some.1, subst (λ n. n ≤ KEY_PARTS) whole few);
      parts = subst (All (λ k. k < length columns)) some.0 parts;
      distinct = subst (IsDistinct nat_eq) some.0 apart;
    }

one_place : (columns : List Column) (k : ℕ) → k < length columns → IsKey columns (k ∷ [])
unfolding IsDistinct
one_place columns k within =
    record {
      few = (omega arith, omega arith);
      parts = All-cons (λ j. j < length columns) k [] within (All-nil (λ j. j < length columns));
      distinct = (tt, tt);
    }

key_by_ok : (columns : List Column) (name : Option (List ℕ)) (d : Option Data) (places : List ℕ) → form.key_by columns name d ≡ Ok places → IsKey columns places
key_by_ok columns (Some name) d places e =
    let k = bind_ok (form.key_column columns name) _ _ e in
    subst (IsKey columns) (same_ok _ _ k.2) (one_place columns k.0 (key_column_ok columns name k.0 k.1))
key_by_ok columns None d places e = key_list_ok columns d places e

key_ok : (columns : List Column) (d : Option Data) (places : List ℕ) → form.key columns d ≡ Ok places → IsKey columns places
unfolding form.key
key_ok columns d places e = key_by_ok columns (option_and_then as_str d) d places e

-- ---- rows

int_by_ok : (signed : Option ℤ) (unsigned : Option ℕ) (v : Value) → form.int_by signed unsigned ≡ Ok v → FitsColumn type.Int v
int_by_ok (Some z) unsigned v e = subst (FitsColumn type.Int) (same_ok (value.Int z) v e) tt
int_by_ok None (Some n) v e = absurd cc
int_by_ok None None v e = absurd cc

cell_text_ok : (found : List ℕ) (v : Value) → form.cell_text found ≡ Ok v → FitsColumn type.Text v
cell_text_ok found v e =
    let shape = if_ok _ _ _ _ e in
    let short = if_ok _ _ _ _ shape.1 in
    subst (FitsColumn type.Text) (same_ok (value.Text found) v short.1) (shape.0, le_of _ _ short.0)

cell_of_ok : (kind : ColType) (d : Data) (v : Value) → form.cell_of kind d ≡ Ok v → FitsColumn kind v
unfolding form.int_cell form.text_cell
cell_of_ok type.Int d v e = int_by_ok (option_and_then as_i64 (as_number d)) (option_and_then as_u64 (as_number d)) v e
cell_of_ok type.Text d v e = let found = bind_ok (text_by (as_str d)) _ _ e in cell_text_ok found.0 v found.2

cell_in_ok : (found : Option Column) (d : Data) (v : Value) (column : Column) → found ≡ Some column → form.cell_in found d ≡ Ok v → FitsColumn column.1 v
cell_in_ok (Some c) d v column is e = subst (λ (z : Column). FitsColumn z.1 v) (same_Some c column is) (cell_of_ok c.1 d v e)
cell_in_ok None d v column is e = absurd cc

-- the values so far fit their columns
abbrev FitColumns : List Column → List Value → Type 0
FitColumns columns values = (k : ℕ) (column : Column) (v : Value) → slice_get columns k ≡ Some column → slice_get values k ≡ Some v → FitsColumn column.1 v

cell_ok : (columns : List Column) (values : List Value) (d : Data) (v : Value) → FitColumns columns values → form.cell columns values d ≡ Ok v → FitColumns columns (values ++ v ∷ [])
unfolding form.cell_at
cell_ok columns values d v before e =
    λ k column w at there.
    elim (get_push values v k w there) [
      | inl earlier ↦ before k column w at earlier
      | inr last ↦
          subst (FitsColumn column.1) last.1
          (cell_in_ok (slice_get columns (length values)) d v column (ap (slice_get columns) (sym last.0) ∙ at) e)
    ]

same_number : (a b : ℕ) → (a == b) ≡ true → a ≡ b
same_number a b e = grind (arith, nat_tests)

row_items_ok : (n : ℕ) (found : Option Items) (ds : Items) → form.row_items n found ≡ Ok ds → items_length ds ≡ n
row_items_ok n (Some items) ds e =
    let whole = if_ok _ _ _ _ e in
    let count : items_length items ≡ n = same_number (items_length items) n whole.0 in
    subst (λ (z : Items). items_length z ≡ n) (same_ok items ds whole.1) count
row_items_ok n None ds e = absurd cc

row_ok : (columns : List Column) (d : Data) (r : Row) → form.row columns d ≡ Ok r → IsRow columns r
unfolding form.row
row_ok columns d r e =
    let items = bind_ok (form.row_items (length columns) (as_array d)) _ _ e in
    let values = bind_ok (each (form.cell columns) [] items.0) _ _ items.2 in
    let count = row_items_ok (length columns) (as_array d) items.0 items.1 in
    let whole = each_length (form.cell columns) [] items.0 values.0 values.1 in
    let none : FitColumns columns [] = λ k column v at there. absurd cc in
    let fit = each_keeps (form.cell columns) (FitColumns columns) (λ before one v fits reads. cell_ok columns before one v fits reads) [] items.0 values.0 none values.1 in
    subst (IsRow columns) (same_ok (form.row_of values.0) r values.2) (record { whole = omega arith; each = fit })

same_key_flips : (a b : List Value) → form.same_key a b ≡ form.same_key b a
same_key_flips a b = (eq_by_cmp_equiv (lists_total value_cmp_total)).symm a b

neither : (a b : Bool) → cond a true b ≡ false → (a ≡ false) × (b ≡ false)
neither true b e = absurd cc
neither false b e = (refl, e)

none_of : (a b : Bool) → a ≡ false → b ≡ false → (a || b) ≡ false
none_of a b first second = rw (first, second)

-- a key that no row has is not among those of the rows
new_key : (places : List ℕ) (rows : List Row) (key : List Value) → form.has_key places rows key ≡ false → list_any (form.same_key key) (map (form.key_of places) rows) ≡ false
new_key places [] key e = refl
new_key places (r ∷ rows) key e =
    let both = neither (form.same_key (form.key_of places r) key) (form.has_key places rows key) e in
    none_of (form.same_key key (form.key_of places r)) (list_any (form.same_key key) (map (form.key_of places) rows)) (same_key_flips key (form.key_of places r) ∙ both.0)
    (new_key places rows key both.1)

-- rows of a table, with different keys
pub record AreRows (columns : List Column) (places : List ℕ) (rows : List Row) : Type 0 where
  pub each : All (IsRow columns) rows
  pub apart : IsDistinct form.same_key (map (form.key_of places) rows)

new_row_ok : (columns : List Column) (places : List ℕ) (before : List Row) (d : Data) (r : Row) → form.new_row columns places before d ≡ Ok r
    → IsRow columns r × (form.has_key places before (form.key_of places r) ≡ false)
unfolding form.new_row
new_row_ok columns places before d r e =
    let found = bind_ok (form.row columns d) _ _ e in
    let new = unless_ok _ _ _ _ found.2 in
    let same = same_ok found.0 r new.1 in
    (subst (IsRow columns) same (row_ok columns d found.0 found.1), ap (λ z. form.has_key places before (form.key_of places z)) (sym same) ∙ new.0)

no_rows : (columns : List Column) (places : List ℕ) → AreRows columns places []
unfolding IsDistinct
no_rows columns places = record { each = All-nil (IsRow columns); apart = tt }

more_rows : (columns : List Column) (places : List ℕ) (before : List Row) (d : Data) (r : Row)
    → AreRows columns places before → form.new_row columns places before d ≡ Ok r → AreRows columns places (before ++ r ∷ [])
more_rows columns places before d r rows e =
    let one = new_row_ok columns places before d r e in
    record {
      each = All-push (IsRow columns) before r rows.each one.0;
      apart =
          subst (IsDistinct form.same_key) (sym (map_push (form.key_of places) before r))
          (distinct_push form.same_key same_key_flips (map (form.key_of places) before) (form.key_of places r) (new_key places before (form.key_of places r) one.1) rows.apart);
    }

rows_by_ok : (used : ℕ) (found : Option Items) (ds : Items) → form.rows_by used found ≡ Ok ds → used + items_length ds ≤ RESOURCE_ROWS
rows_by_ok used (Some items) ds e =
    let few = if_ok _ _ _ _ e in
    subst (λ (z : Items). used + items_length z ≤ RESOURCE_ROWS) (same_ok items ds few.1) (le_of _ _ few.0)
rows_by_ok used None ds e = absurd cc

rows_ok : (used : ℕ) (columns : List Column) (places : List ℕ) (d : Option Data) (rows : List Row) → form.rows used columns places d ≡ Ok rows
    → AreRows columns places rows × (used + length rows ≤ RESOURCE_ROWS)
unfolding form.rows
rows_ok used columns places d rows e =
    let items = bind_ok (form.rows_by used (option_and_then as_array d)) _ _ e in
    let few = rows_by_ok used (option_and_then as_array d) items.0 items.1 in
    let whole = each_length (form.new_row columns places) [] items.0 rows items.2 in (
      each_keeps (form.new_row columns places) (AreRows columns places) (λ before one r so_far reads. more_rows columns places before one r so_far reads)
          [] items.0 rows (no_rows columns places) items.2,
      omega arith,
    )

-- ---- tables

-- a table with its rows, behind these tables and so many rows
pub record IsRead (before : List TableDef) (used : ℕ) (def : TableDef) (rows : List Row) : Type 0 where
  pub table : IsTable def
  pub new : list_any (form.is_table_named def.name) before ≡ false
  pub kept : AreRows def.columns def.key rows
  pub few : used + length rows ≤ RESOURCE_ROWS

record IsHeading (before : List TableDef) (head : List ℕ × BranchKind × List Column) : Type 0 where
  pub name : IsTableName head.0
  pub new : list_any (form.is_table_named head.0) before ≡ false
  pub columns : AreColumns head.2

heading_ok : (before : List TableDef) (d : Data) (head : List ℕ × BranchKind × List Column) → form.heading before d ≡ Ok head → IsHeading before head
unfolding form.heading
heading_ok before d head e =
    let shape = bind_ok (an_object d) _ _ e in
    let name = bind_ok (member (codes "name") (form.table_name before) d) _ _ shape.2 in
    let kind = bind_ok (member (codes "mode") form.mode d) _ _ name.2 in
    let columns = bind_ok (member (codes "columns") form.columns d) _ _ kind.2 in
    let new = table_name_ok before (get (codes "name") d) name.0 (within_ok (to_member (codes "name")) _ _ name.1) in
    subst (IsHeading before) (same_ok _ _ columns.2)
    (record { name = new.0; new = new.1; columns = columns_ok (get (codes "columns") d) columns.0 (within_ok (to_member (codes "columns")) _ _ columns.1) })

content_ok : (used : ℕ) (columns : List Column) (d : Data) (body : List ℕ × List Row) → form.content used columns d ≡ Ok body
    → IsKey columns body.0 × AreRows columns body.0 body.1 × (used + length body.1 ≤ RESOURCE_ROWS)
unfolding form.content
content_ok used columns d body e =
    let places = bind_ok (member (codes "key") (form.key columns) d) _ _ e in
    let listed = bind_ok (member (codes "rows") (form.rows used columns places.0) d) _ _ places.2 in
    let found = rows_ok used columns places.0 (get (codes "rows") d) listed.0 (within_ok (to_member (codes "rows")) _ _ listed.1) in
    subst (λ (b : List ℕ × List Row). IsKey columns b.0 × AreRows columns b.0 b.1 × (used + length b.1 ≤ RESOURCE_ROWS)) (same_ok _ _ listed.2)
    (key_ok columns (get (codes "key") d) places.0 (within_ok (to_member (codes "key")) _ _ places.1), found.0, found.1)

pub table_ok : (before : List TableDef) (used : ℕ) (d : Data) (t : TableDef × List Row) → form.table before used d ≡ Ok t → IsRead before used t.0 t.1
unfolding form.table
table_ok before used d t e =
    let head = bind_ok (form.heading before d) _ _ e in
    let body = bind_ok (form.content used head.0.2 d) _ _ head.2 in
    let last = bind_ok (only form.table_members d) _ _ body.2 in
    let top = heading_ok before d head.0 head.1 in
    let rest = content_ok used head.0.2 d body.0 body.1 in
    subst (λ (z : TableDef × List Row). IsRead before used z.0 z.1) (same_ok _ t last.2)
    (record {
      table = record {
        name = top.name;
        columns = top.columns.few;
        named = top.columns.named;
        different = top.columns.different;
        key = rest.0.few;
        parts = rest.0.parts;
        distinct = rest.0.distinct;
      };
      new = top.new;
      kept = rest.1;
      few = rest.2;
    })
