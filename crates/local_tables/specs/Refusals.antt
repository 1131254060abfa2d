-- For the proofs alone: the errors of a statement one by one: what its table's definition refuses, and what the rows refuse.
use Rattle.std.specs.Prelude.{ℕ, nat_le, Bool, if◌then◌else◌, List, find, Option, Some, None, is_none, option_map, Ok, Err}
use Rattle.std.specs.Map.{keys_of}
use Rattle.seata_types.specs.declared.errors.StmtError.{StmtError}
use Rattle.seata_types.specs.declared.errors.StmtError.TheVariants as errors
use Rattle.seata_types.specs.declared.limits.TheConstants.{CALL_ROWS}
use Rattle.seata_types.specs.declared.rows.RowKey.{RowKey}
use Rattle.seata_types.specs.declared.statements.Stmt.{Stmt}
use Rattle.seata_types.specs.declared.statements.Stmt.TheVariants as stmt
use Rattle.local_tables.specs.Calls.{Call, Meaning}
use Rattle.local_tables.specs.Checks.{knows_columns, fills_columns, leaves_key, has_types}
use Rattle.local_tables.specs.Rows.{Rows, Change}
use Rattle.local_tables.specs.Touches.{first_taken}
use Rattle.local_tables.specs.declared.schemas.TableDef.{TableDef}

-- the first of the errors that the definition alone shows
abbrev pub refusal : TableDef → Stmt → Option StmtError
refusal def s =
    if knows_columns def s then (if fills_columns def s then (if leaves_key def s then (if has_types def s then None
    else Some errors.TypeMismatch) else Some errors.KeyChanged) else Some errors.Columns) else Some errors.NoColumn

-- ---- by the rows that a statement touches

abbrev pub change_key : Change → RowKey
change_key c = c.0

-- a change that leaves no row; an UPDATE has one where it can't compute the new row
abbrev pub is_gone : Change → Bool
is_gone c = is_none c.1

-- the least row that an UPDATE can't compute
abbrev pub overflow_in : Stmt → List Change → Option RowKey
overflow_in (stmt.Update table sets asked) changes = option_map change_key (find is_gone changes)
overflow_in _ changes = None

-- the first key of an INSERT that is there already, or that stands twice
abbrev pub duplicate_in : Stmt → Rows → List Change → Option RowKey
duplicate_in (stmt.Insert table columns tuples) rows changes = first_taken rows (keys_of changes)
duplicate_in _ rows changes = None

-- ---- after the statement

-- the first of the errors that the rows show: rows seen, rows that can't be computed, keys taken, whether the rows fit
abbrev pub fault : ℕ → Option RowKey → Option RowKey → Bool → Option StmtError
fault seen (Some key) taken fits = if nat_le seen CALL_ROWS then Some (errors.Overflow key) else Some errors.TooManyRows
fault seen None (Some key) fits = if nat_le seen CALL_ROWS then Some (errors.Duplicate key) else Some errors.TooManyRows
fault seen None None fits =
    if nat_le seen CALL_ROWS then (if fits then None else Some errors.TableFull) else Some errors.TooManyRows

-- the call as it is after a statement, where nothing refuses it
abbrev pub answer_of : Option StmtError → Call → Meaning Call
answer_of None after = Ok after
answer_of (Some why) after = Err why
