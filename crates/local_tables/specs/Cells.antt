-- The columns of a table, and what a condition says of a row.
use Rattle.std.specs.Prelude.{ℕ, Bool, true, false, not, ◌&&◌, ◌||◌, List, Option, Some, None, option_and_then, position, slice_get}
use Rattle.std.specs.declared.cmp.Ordering.{Ordering}
use Rattle.std.specs.Ordering.{is_eq, is_lt, is_gt}
use Rattle.seata_types.specs.Condition.{Condition}
use Rattle.seata_types.specs.Condition as condition
use Rattle.seata_types.specs.Orders.{same_text, value_cmp}
use Rattle.seata_types.specs.declared.conditions.Op.{Op}
use Rattle.seata_types.specs.declared.conditions.Op.TheVariants as op
use Rattle.seata_types.specs.declared.rows.Row.{Row}
use Rattle.seata_types.specs.declared.rows.Value.{Value}
use Rattle.local_tables.specs.declared.schemas.ColType.{ColType}
use Rattle.local_tables.specs.declared.schemas.TableDef.{TableDef}

-- a column of a table: its name and its type
abbrev pub Column : Type 0
Column = List ℕ × ColType

abbrev pub has_name : List ℕ → Column → Bool
has_name name column = same_text column.0 name

-- the place of a column in the rows of its table
abbrev pub place_of : TableDef → List ℕ → Option ℕ
place_of def name = position (has_name name) def.columns

-- the value of a column in a row
abbrev pub cell : TableDef → Row → List ℕ → Option Value
cell def row name = option_and_then (slice_get row.0) (place_of def name)

-- whether a value that compares so with the literal meets the comparison
abbrev pub meets : Op → Ordering → Bool
meets op.Eq order = is_eq order
meets op.Ne order = not (is_eq order)
meets op.Lt order = is_lt order
meets op.Le order = not (is_gt order)
meets op.Gt order = is_gt order
meets op.Ge order = not (is_lt order)

-- whether a cell's value meets a comparison with a literal; a cell that isn't there meets none
abbrev pub compares : Op → Value → Option Value → Bool
compares test literal (Some found) = meets test (value_cmp found literal)
compares test literal None = false

-- whether a condition holds of a row
abbrev pub holds : TableDef → Row → Condition → Bool
holds def row (condition.Cmp column test literal) = compares test literal (cell def row column)
holds def row (condition.And left right) = holds def row left && holds def row right
holds def row (condition.Or left right) = holds def row left || holds def row right
holds def row (condition.Not inner) = not (holds def row inner)

-- whether a statement's condition holds of a row; without one it holds of all
abbrev pub selects : TableDef → Option Condition → Row → Bool
selects def None row = true
selects def (Some asked) row = holds def row asked
