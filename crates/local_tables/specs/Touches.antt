-- The rows that a statement touches and reads, by the rows as they are before it.
use Rattle.std.specs.Prelude.{ℕ, Bool, ◌&&◌, ◌||◌, nat_lt, List, [], map, filter, filter_map, find, position, count_by, slice_get, Option, None, is_some, is_none, option_map, option_and_then}
use Rattle.std.specs.Map.{keys_of}
use Rattle.seata_types.specs.Condition.{Condition}
use Rattle.seata_types.specs.Orders.{same_text}
use Rattle.seata_types.specs.declared.rows.Row.{Row}
use Rattle.seata_types.specs.declared.rows.RowKey.{RowKey}
use Rattle.seata_types.specs.declared.rows.Value.{Value}
use Rattle.seata_types.specs.declared.statements.Stmt.{Stmt}
use Rattle.seata_types.specs.declared.statements.Stmt.TheVariants as stmt
use Rattle.local_tables.specs.Cells.{Column, selects}
use Rattle.local_tables.specs.Checks.{Set}
use Rattle.local_tables.specs.Rows.{Rows, Change, comes, goes, row_at, is_key, is_in, keyed}
use Rattle.local_tables.specs.Sums.{row_of, updated}
use Rattle.local_tables.specs.declared.schemas.TableDef.{TableDef}

-- ---- the rows of the table of which a condition holds

abbrev pub is_matched : ℕ → TableDef → Option Condition → RowKey × Row → Bool
is_matched resource def asked e = is_in resource def e.0 && selects def asked e.1

abbrev pub matched : ℕ → TableDef → Option Condition → Rows → Rows
matched resource def asked rows = filter (is_matched resource def asked) rows

-- ---- the rows that an INSERT makes

-- the value that a tuple has for a column
abbrev pub value_for : List (List ℕ) → List Value → Column → Option Value
value_for columns tuple column = option_and_then (slice_get tuple) (position (same_text column.0) columns)

-- a tuple's values in the order of the table's columns
abbrev pub tuple_row : TableDef → List (List ℕ) → List Value → Row
tuple_row def columns tuple = row_of (filter_map (value_for columns tuple) def.columns)

-- the row that a tuple makes, with its key
abbrev pub inserted_row : ℕ → TableDef → List (List ℕ) → List Value → Option (RowKey × Row)
inserted_row resource def columns tuple = keyed resource def (tuple_row def columns tuple)

-- the rows with their keys, in the order of the tuples
abbrev pub inserted : ℕ → TableDef → List (List ℕ) → List (List Value) → Rows
inserted resource def columns tuples = filter_map (inserted_row resource def columns) tuples

-- ---- what a statement touches and reads

-- none also where a partial sum leaves 64 bits: the statement has no meaning then
abbrev pub becomes : TableDef → List Set → RowKey × Row → Change
becomes def sets e = (e.0, updated def sets e.1)

-- each touched row as the statement leaves it: an UPDATE touches each matched row, also where nothing differs
abbrev pub touches : ℕ → TableDef → Stmt → Rows → List Change
touches resource def (stmt.Insert table columns tuples) rows = map comes (inserted resource def columns tuples)
touches resource def (stmt.Update table sets asked) rows = map (becomes def sets) (matched resource def asked rows)
touches resource def (stmt.Delete table asked) rows = map goes (matched resource def asked rows)
touches resource def (stmt.Select table asked) rows = []

-- each row that the statement reads
abbrev pub readings : ℕ → TableDef → Stmt → Rows → Rows
readings resource def (stmt.Select table asked) rows = matched resource def asked rows
readings resource def _ rows = []

-- ---- rows that keep a statement from having a meaning

-- whether an UPDATE can't compute what it makes of a row
abbrev pub overflows : TableDef → List Set → RowKey × Row → Bool
overflows def sets e = is_none (updated def sets e.1)

abbrev pub entry_key : RowKey × Row → RowKey
entry_key e = e.0

-- the least matched row of which a partial sum leaves 64 bits
abbrev pub overflowing : ℕ → TableDef → Stmt → Rows → Option RowKey
overflowing resource def (stmt.Update table sets asked) rows =
    option_map entry_key (find (overflows def sets) (matched resource def asked rows))
overflowing resource def _ rows = None

-- whether an inserted key is there already, or inserted twice
abbrev pub is_taken : Rows → List RowKey → RowKey → Bool
is_taken rows keys key = is_some (row_at rows key) || nat_lt 1 (count_by (is_key key) keys)

-- the first of these keys that is taken
abbrev pub first_taken : Rows → List RowKey → Option RowKey
first_taken rows keys = find (is_taken rows keys) keys

-- the first such key in the order of the tuples
abbrev pub duplicate : ℕ → TableDef → Stmt → Rows → Option RowKey
duplicate resource def (stmt.Insert table columns tuples) rows = first_taken rows (keys_of (inserted resource def columns tuples))
duplicate resource def _ rows = None
