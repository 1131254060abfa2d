-- Tables: their columns, their keys and their rows.
use Rattle.std.specs.Prelude.{◌≡◌, ℕ, ◌+◌, ◌^◌, ◌-◌, ◌==◌, cond, nat_le, Bool, true, false, if◌then◌else◌, ℤ, List, [], ◌∷◌, length, position, ◌++◌, slice_get, Option, Some, None, option_and_then, Ok, codes}
use Rattle.std.specs.List.{list_all, list_any}
use Rattle.std.specs.Cmp.Lexicographic.{slice_cmp}
use Rattle.std.specs.BTreeMap.{is_at}
use Rattle.std.specs.declared.cmp.Ordering.{Ordering}
use Rattle.std.specs.declared.cmp.Ordering.TheVariants as order
use Rattle.std.specs.Ordering.{is_eq}
use Rattle.serde_json.specs.Data.{Data, Items}
use Rattle.serde_json.specs.Find.{as_number, as_u64, as_i64, as_str, as_array}
use Rattle.seata_types.specs.Orders.{same_text}
use Rattle.seata_types.specs.declared.limits.TheConstants.{COLUMNS, KEY_PARTS, RESOURCE_ROWS, TEXT_BYTES}
use Rattle.seata_types.specs.contracts.rows.ValueOrd.TheImpl.{ghosts}
use Rattle.seata_types.specs.declared.rows.Row.{Row}
use Rattle.seata_types.specs.declared.rows.Value.{Value}
use Rattle.seata_types.specs.declared.rows.Value.TheVariants as value
use Rattle.seata_types.specs.declared.statuses.BranchKind.{BranchKind}
use Rattle.seata_types.specs.declared.statuses.BranchKind.TheVariants as kind
use Rattle.local_tables.specs.declared.schemas.ColType.{ColType}
use Rattle.local_tables.specs.declared.schemas.ColType.TheVariants as type
use Rattle.local_tables.specs.declared.schemas.TableDef.{TableDef}
use Rattle.scenario_reader.specs.Faults.{Outcome, ◌>>=◌, wrong_shape, beyond, wrong_name, member, within, to_item, each, text, text_by, list, items_length, pair, an_object, only}
use Rattle.scenario_form.specs.Contents.{Column, is_printable}
use Rattle.scenario_form.specs.Names.{is_table_name}
use Rattle.scenario_reader.specs.Names.{new_name}

abbrev pub row_of : List Value → Row
row_of values = record { 0 = values }

-- ---- name and mode

abbrev pub is_table_named : List ℕ → TableDef → Bool
is_table_named name def = same_text name def.name

-- a table's name, behind these tables
unfoldable pub table_name : List TableDef → Option Data → Outcome (List ℕ)
table_name defs d = do
  name ← text d
  new_name (list_any (is_table_named name) defs) name

-- the mode that this word names, and that of a member
abbrev pub mode_in : List ℕ → Outcome BranchKind
mode_in word =
    if same_text word (codes "AT") then Ok kind.At
    else (if same_text word (codes "TCC") then Ok kind.Tcc else wrong_shape)

unfoldable pub mode : Option Data → Outcome BranchKind
mode d = text d >>= mode_in

-- ---- columns

abbrev pub is_column_named : List ℕ → Column → Bool
is_column_named name column = same_text name column.0

-- the type that this word names
abbrev pub type_in : List ℕ → Outcome ColType
type_in word =
    if same_text word (codes "int") then Ok type.Int
    else (if same_text word (codes "text") then Ok type.Text else wrong_shape)

-- the type of a column
abbrev pub column_type : Data → Outcome ColType
column_type d = text_by (as_str d) >>= type_in

-- a column's name, behind these columns
abbrev pub column_name : List Column → Option (List ℕ) → Outcome (List ℕ)
column_name columns found = do
  name ← text_by found
  new_name (list_any (is_column_named name) columns) name

-- a column, behind these
unfoldable pub column : List Column → Data → Outcome Column
column columns d = do
  parts ← pair d
  name ← within (to_item 0) (column_name columns (as_str parts.0))
  type ← within (to_item 1) (column_type parts.1)
  Ok (name, type)

-- columns, at least one
abbrev pub some_columns : List Column → Outcome (List Column)
some_columns [] = beyond 1
some_columns (c ∷ cs) = Ok (c ∷ cs)

-- the columns, at least one
unfoldable pub columns : Option Data → Outcome (List Column)
columns d = do
  items ← list COLUMNS d
  found ← each column [] items
  some_columns found

-- ---- keys

-- the place of a column, where the name was found
abbrev pub key_place : Option ℕ → Outcome ℕ
key_place (Some k) = Ok k
key_place None = wrong_name

-- the place of the column of this name
unfoldable pub key_column : List Column → List ℕ → Outcome ℕ
key_column columns name = if is_table_name name then key_place (position (is_column_named name) columns) else wrong_shape

-- a place that isn't one of these
abbrev pub unused_place : List ℕ → ℕ → Outcome ℕ
unused_place places k = if list_any (λ p. p == k) places then wrong_name else Ok k

-- a column of a key, behind those at these places
unfoldable pub key_part : List Column → List ℕ → Data → Outcome ℕ
key_part columns places d = do
  name ← text_by (as_str d)
  k ← key_column columns name
  unused_place places k

-- places, at least one
abbrev pub some_places : List ℕ → Outcome (List ℕ)
some_places [] = beyond 1
some_places (k ∷ ks) = Ok (k ∷ ks)

-- the columns of a list
unfoldable pub key_list : List Column → Option Data → Outcome (List ℕ)
key_list columns d = do
  items ← list KEY_PARTS d
  places ← each (key_part columns) [] items
  some_places places

-- one column by its name, where the member is a text, else those of a list
abbrev pub key_by : List Column → Option (List ℕ) → Option Data → Outcome (List ℕ)
key_by columns (Some name) d = key_column columns name >>= (λ k. Ok (k ∷ []))
key_by columns None d = key_list columns d

-- the places of the key's columns: one by its name, or those of a list
unfoldable pub key : List Column → Option Data → Outcome (List ℕ)
key columns d = key_by columns (option_and_then as_str d) d

-- ---- rows

-- a signed number of 64 bits; one that has 64 bits only without a sign is beyond the greatest
abbrev pub int_by : Option ℤ → Option ℕ → Outcome Value
int_by (Some z) unsigned = Ok (value.Int z)
int_by None (Some n) = beyond (2 ^ 63 - 1)
int_by None None = wrong_shape

-- a whole number
unfoldable pub int_cell : Data → Outcome Value
int_cell d = int_by (option_and_then as_i64 (as_number d)) (option_and_then as_u64 (as_number d))

-- a text for a row: short enough, and without a control character
abbrev pub cell_text : List ℕ → Outcome Value
cell_text found =
    if list_all is_printable found
    then (if nat_le (length found) TEXT_BYTES then Ok (value.Text found) else beyond TEXT_BYTES)
    else wrong_shape

-- the same of data
unfoldable pub text_cell : Data → Outcome Value
text_cell d = text_by (as_str d) >>= cell_text

-- a value of this type, and one of this column, where there is one
abbrev pub cell_of : ColType → Data → Outcome Value
cell_of type.Int d = int_cell d
cell_of type.Text d = text_cell d

abbrev pub cell_in : Option Column → Data → Outcome Value
cell_in (Some column) d = cell_of column.1 d
cell_in None d = wrong_shape

-- a row's value in the column at a place
unfoldable pub cell_at : List Column → ℕ → Data → Outcome Value
cell_at columns k d = cell_in (slice_get columns k) d

-- a row's next value, behind these
abbrev pub cell : List Column → List Value → Data → Outcome Value
cell columns values d = cell_at columns (length values) d

-- a list of just so many items
abbrev pub row_items : ℕ → Option Items → Outcome Items
row_items n (Some items) = if items_length items == n then Ok items else wrong_shape
row_items n None = wrong_shape

-- a row, with a value for each column
unfoldable pub row : List Column → Data → Outcome Row
row columns d = do
  items ← row_items (length columns) (as_array d)
  values ← each (cell columns) [] items
  Ok (row_of values)

-- parts with a value behind them, if there is one
abbrev pub with_part : List Value → Option Value → List Value
with_part parts (Some found) = parts ++ found ∷ []
with_part parts None = parts

-- the values at these places, behind others
abbrev pub key_behind : List Value → List ℕ → Row → List Value
key_behind parts [] row = parts
key_behind parts (k ∷ ks) row = key_behind (with_part parts (slice_get row.0 k)) ks row

-- the key of a row: its values at the places of the key's columns
abbrev pub key_of : List ℕ → Row → List Value
key_of places row = key_behind [] places row

-- the order of keys: part by part, as values stand
abbrev pub key_order : List Value → List Value → Ordering
key_order a b = slice_cmp ghosts.cmp a b

abbrev pub same_key : List Value → List Value → Bool
same_key a b = is_eq (key_order a b)

-- whether one of the rows has this key
abbrev pub has_key : List ℕ → List Row → List Value → Bool
has_key places [] key = false
has_key places (row ∷ rows) key = cond (same_key (key_of places row) key) true (has_key places rows key)

-- a row whose key none of these has
unfoldable pub new_row : List Column → List ℕ → List Row → Data → Outcome Row
new_row columns places rows d = do
  found ← row columns d
  if has_key places rows (key_of places found) then wrong_name else Ok found

-- a list of rows that a resource may have besides so many
abbrev pub rows_by : ℕ → Option Items → Outcome Items
rows_by used (Some items) = if nat_le (used + items_length items) RESOURCE_ROWS then Ok items else beyond RESOURCE_ROWS
rows_by used None = wrong_shape

-- whether a key is one of these
abbrev pub is_noted : List (List Value) → List Value → Bool
is_noted keys key = list_any (is_at (key_order key)) keys

-- this key is noted beside those before
abbrev pub Notes : List Value → List (List Value) → List (List Value) → Type 0
Notes key old new = (q : List Value) → is_noted new q ≡ cond (same_key key q) true (is_noted old q)

-- the keys are those of the rows
unfoldable pub HaveKeys : List ℕ → List Row → List (List Value) → Type 0
HaveKeys places rows keys = (key : List Value) → is_noted keys key ≡ has_key places rows key

-- the order of a part of two keys, where both are there
abbrev pub part_order : Option Value → Option Value → Option Ordering
part_order (Some x) (Some y) = Some (ghosts.cmp x y)
part_order _ _ = None

-- the second key stands behind by this part, or by those behind it where this one is the same
abbrev pub rises_by : Option Ordering → Bool → Bool
rises_by (Some order.Less) later = true
rises_by (Some order.Equal) later = later
rises_by _ later = false

-- whether the second row's values at these places stand behind the first's, part by part
abbrev pub rises : List ℕ → Row → Row → Bool
rises [] a b = false
rises (k ∷ ks) a b = rises_by (part_order (slice_get a.0 k) (slice_get b.0 k)) (rises ks a b)

-- whether a row stands behind the last one, where there is one
abbrev pub behind_last : List ℕ → Option Row → Row → Bool
behind_last places (Some last) row = rises places last row
behind_last places None row = true

-- whether a row stands behind the last of these
abbrev pub is_behind : List ℕ → List Row → Row → Bool
is_behind places rows row = behind_last places (slice_get rows (length rows - 1)) row

-- a key stands behind that of the last row, where there is one
abbrev pub IsAbove : List ℕ → Option Row → List Value → Type 0
IsAbove places (Some last) key = key_order (key_of places last) key ≡ order.Less
IsAbove places None key = Unit {0}

-- a key behind that of the last row is none of the rows'
unfoldable pub AreRising : List ℕ → List Row → Type 0
AreRising places rows = (key : List Value) → IsAbove places (slice_get rows (length rows - 1)) key → has_key places rows key ≡ false

-- what is noted of the keys of rows: nothing as long as they rise, and else all of them
unfoldable pub IsNoted : List ℕ → List Row → Option (List (List Value)) → Type 0
IsNoted places rows None = AreRising places rows
IsNoted places rows (Some keys) = HaveKeys places rows keys

-- the rows of a table, where its resource has so many already
unfoldable pub rows : ℕ → List Column → List ℕ → Option Data → Outcome (List Row)
rows used columns places d = do
  items ← rows_by used (option_and_then as_array d)
  each (new_row columns places) [] items

-- ---- tables

-- the names of a table's members
abbrev pub table_members : List (List ℕ)
table_members = codes "name" ∷ codes "mode" ∷ codes "columns" ∷ codes "key" ∷ codes "rows" ∷ []

-- a table's name, mode and columns, behind these tables
unfoldable pub heading : List TableDef → Data → Outcome (List ℕ × BranchKind × List Column)
heading defs d = do
  _ ← an_object d
  name ← member (codes "name") (table_name defs) d
  kind ← member (codes "mode") mode d
  found ← member (codes "columns") columns d
  Ok (name, kind, found)

-- its key and its rows
unfoldable pub content : ℕ → List Column → Data → Outcome (List ℕ × List Row)
content used found d = do
  places ← member (codes "key") (key found) d
  listed ← member (codes "rows") (rows used found places) d
  Ok (places, listed)

-- a table with its rows, behind these tables and so many rows of its resource
unfoldable pub table : List TableDef → ℕ → Data → Outcome (TableDef × List Row)
table defs used d = do
  head ← heading defs d
  body ← content used head.2 d
  _ ← only table_members d
  Ok (record { name = head.0; mode = head.1; columns = head.2; key = body.0 }, body.1)
