-- The effect of a list of statements, or the first of them that has no meaning, and why.
use Rattle.std.specs.Prelude.{◌≡◌, ℕ, ◌+◌, ◌-◌, ◌^◌, min, nat_le, Bool, true, false, List, [], ◌∷◌, ◌++◌, length, map, count_by, Option, Some, None, is_none, Result, Ok, Err}
use Rattle.std.specs.BTreeMap.{insert_entry}
use Rattle.std.specs.Map.{lookup}
use Rattle.seata_types.specs.Orders.{key_cmp}
use Rattle.seata_types.specs.declared.errors.StmtError.{StmtError}
use Rattle.seata_types.specs.declared.errors.StmtError.TheVariants as errors
use Rattle.seata_types.specs.declared.limits.TheConstants.{CALL_ROWS, RESOURCE_ROWS}
use Rattle.seata_types.specs.declared.rows.Image.{Image}
use Rattle.seata_types.specs.declared.rows.ReadRow.{ReadRow}
use Rattle.seata_types.specs.declared.rows.Row.{Row}
use Rattle.seata_types.specs.declared.rows.RowKey.{RowKey}
use Rattle.seata_types.specs.declared.statements.Stmt.{Stmt}
use Rattle.local_tables.specs.Checks.{table_of, knows_columns, fills_columns, leaves_key, has_types}
use Rattle.local_tables.specs.Rows.{Rows, Change, Database, row_at, is_key, put_all, table_named}
use Rattle.local_tables.specs.Touches.{touches, readings, overflowing, duplicate}
use Rattle.local_tables.specs.declared.schemas.Effect.{Effect}
use Rattle.local_tables.specs.declared.schemas.EffectError.{EffectError}
use Rattle.local_tables.specs.declared.schemas.EffectError.TheVariants as answer
use Rattle.local_tables.specs.declared.schemas.TableDef.{TableDef}

-- ---- a meaning, or why there is none

abbrev pub Meaning : Type 0 → Type 0
Meaning X = Result X StmtError

-- the next step, where each one before it has a meaning
infixl 10 ◌>>=◌
abbrev pub ◌>>=◌ : {X Y : Type 0} → Meaning X → (X → Meaning Y) → Meaning Y
(Ok x) >>= next = next x
(Err e) >>= next = Err e

-- a test, and the error where it isn't passed
abbrev pub check : Bool → StmtError → Meaning (Unit {0})
check true error = Ok tt
check false error = Err error

-- there is to be no such key; the error names the one that there is
abbrev pub no_key : Option RowKey → (RowKey → StmtError) → Meaning (Unit {0})
no_key None error = Ok tt
no_key (Some key) error = Err (error key)

-- the table, and the error where there is none
abbrev pub found : Option TableDef → Meaning TableDef
found (Some def) = Ok def
found None = Err errors.NoTable

-- ---- a call, statement after statement

-- what the statements so far did: each touched row as it is now, each read row as it was last read, both in rising
-- order of keys, and how many rows each statement touched
pub record Call : Type 0 where
  pub changes : List Change
  pub reads : Rows
  pub touched : List ℕ

-- a call before its first statement
abbrev pub nothing : Call
nothing = record { changes = []; reads = []; touched = [] }

-- these entries put into a map, one after the other
abbrev pub insert_all : {X : Type 0} → List (RowKey × X) → List (RowKey × X) → List (RowKey × X)
insert_all entries [] = entries
insert_all entries (e ∷ es) = insert_all (insert_entry key_cmp entries e.0 e.1) es

-- the call with what one more statement changes and reads; it touched as many rows as it changes
abbrev pub going_on : Call → List Change → Rows → Call
going_on call changes reads = record {
  changes = insert_all call.changes changes;
  reads = insert_all call.reads reads;
  touched = call.touched ++ min (length changes) (2 ^ 32 - 1) ∷ [];
}

-- whether a row that was read isn't among those that were touched
abbrev pub is_only_read : List Change → RowKey × Row → Bool
is_only_read changes e = is_none (lookup (is_key e.0) changes)

-- how many different rows a call touched or read
abbrev pub rows_seen : Call → ℕ
rows_seen call = length call.changes + count_by (is_only_read call.changes) call.reads

-- one more statement, on the tables as the earlier ones left them; its errors in the order in which they are tested
unfoldable pub step : Database → Call → Stmt → Meaning Call
step db call stmt = do
  def ← found (table_named db.schema (table_of stmt))
  _ ← check (knows_columns def stmt) errors.NoColumn
  _ ← check (fills_columns def stmt) errors.Columns
  _ ← check (leaves_key def stmt) errors.KeyChanged
  _ ← check (has_types def stmt) errors.TypeMismatch
  let now = put_all db.rows call.changes
  let after = going_on call (touches db.resource def stmt now) (readings db.resource def stmt now)
  _ ← check (nat_le (rows_seen after) CALL_ROWS) errors.TooManyRows
  _ ← no_key (overflowing db.resource def stmt now) errors.Overflow
  _ ← no_key (duplicate db.resource def stmt now) errors.Duplicate
  _ ← check (nat_le (length (put_all db.rows after.changes)) RESOURCE_ROWS) errors.TableFull
  Ok after

-- statement after statement, counted from this index; or the index of the first without meaning, and why
abbrev pub steps : Database → ℕ → Meaning Call → List Stmt → Result Call (ℕ × StmtError)
steps db index (Err why) ss = Err (index, why)
steps db index (Ok call) [] = Ok call
steps db index (Ok call) (s ∷ ss) = steps db (index + 1) (step db call s) ss

-- ---- the effect of a call

-- the row before the call, and as it is now
abbrev pub image_of : Rows → Change → Image
image_of rows change = record { key = change.0; before = row_at rows change.0; after = change.1 }

-- the row at its key, as it was read last
abbrev pub read_of : RowKey × Row → ReadRow
read_of e = record { key = e.0; row = e.1 }

-- the effect of the statements so far; the rows before them are those of the database
abbrev pub effect_of : Database → Call → Effect
effect_of db call =
    record { images = map (image_of db.rows) call.changes; reads = map read_of call.reads; touched = call.touched }

-- the effect of a call, or its first statement without meaning, and why
abbrev pub to_effect : Database → Result Call (ℕ × StmtError) → Result Effect (ℕ × StmtError)
to_effect db (Ok call) = Ok (effect_of db call)
to_effect db (Err fault) = Err fault

-- one image for each touched row, with the row before the call and after it, and one read for each row read, as last
-- read; statements are counted from 1
unfoldable pub effect : Database → List Stmt → Result Effect (ℕ × StmtError)
effect db ss = to_effect db (steps db 0 (Ok nothing) ss)

-- what the call that computes it answers; want of memory is free
abbrev pub Means : {X : Type 0} → Result X (ℕ × StmtError) → Result X EffectError → Type 0
Means meaning (Ok found) = meaning ≡ Ok found
Means meaning (Err (answer.At index why)) = meaning ≡ Err (index, why)
Means meaning (Err answer.NoMemory) = Unit {0}
