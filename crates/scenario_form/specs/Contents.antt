-- What the parts of a scenario are like that reading gives: names, tables, rows, statements and calls.
use Rattle.std.specs.Prelude.{◌≡◌, ◌≤◌, ◌<◌, ◌==◌, ◌&&◌, not, nat_eq, nat_le, ℕ, zero, suc, Bool, true, false, List, length, map, All, slice_get, Option, Some, None, Ok}
use Rattle.std.specs.List.{IsDistinct, list_all}
use Rattle.seata_types.specs.Orders.{same_text}
use Rattle.seata_types.specs.declared.limits.TheConstants.{COLUMNS, KEY_PARTS, NAME_BYTES, NODE_NAME_BYTES, RESOURCE_ROWS, STATEMENTS, STATEMENT_BYTES, TABLES, TEXT_BYTES}
use Rattle.seata_types.specs.declared.rows.Row.{Row}
use Rattle.seata_types.specs.declared.rows.Value.{Value}
use Rattle.seata_types.specs.declared.rows.Value.TheVariants as value
use Rattle.seata_types.specs.declared.statements.Stmt.{Stmt}
use Rattle.seata_types.specs.declared.statements.Stmt.TheVariants as stmt
use Rattle.seata_types.specs.declared.statements.Work.{Work}
use Rattle.seata_types.specs.declared.statements.Work.TheVariants as work
use Rattle.seata_types.specs.declared.statuses.BranchKind.{BranchKind}
use Rattle.seata_types.specs.declared.statuses.BranchKind.TheVariants as kind
use Rattle.sql_reader.specs.Answer.{reading}
use Rattle.local_tables.specs.Rows.{IsOpening, table_named}
use Rattle.local_tables.specs.declared.schemas.ColType.{ColType}
use Rattle.local_tables.specs.declared.schemas.ColType.TheVariants as type
use Rattle.local_tables.specs.declared.schemas.Schema.{Schema}
use Rattle.local_tables.specs.declared.schemas.TableDef.{TableDef}
use Rattle.scenario_form.specs.declared.scenarios.ResourceDef.{ResourceDef}
use Rattle.scenario_form.specs.Names.{is_node_name, is_table_name}

-- at least so much, and at most so much
abbrev pub IsBetween : ℕ → ℕ → ℕ → Type 0
IsBetween least most n = (least ≤ n) × (n ≤ most)

-- ---- names

-- a node's name
pub record IsNodeName (name : List ℕ) : Type 0 where
  pub form : is_node_name name ≡ true
  pub short : length name ≤ NODE_NAME_BYTES

-- the name of a table or of a column
pub record IsTableName (name : List ℕ) : Type 0 where
  pub form : is_table_name name ≡ true
  pub short : length name ≤ NAME_BYTES

-- no name is there twice
abbrev pub AreDifferent : List (List ℕ) → Type 0
AreDifferent names = IsDistinct same_text names

-- ---- tables

-- a column: its name and its type
abbrev pub Column : Type 0
Column = List ℕ × ColType

abbrev pub column_name : Column → List ℕ
column_name column = column.0

abbrev pub table_name : TableDef → List ℕ
table_name def = def.name

-- a table: one to eight columns with different names, and one to four different ones of them as its key
pub record IsTable (def : TableDef) : Type 0 where
  pub name : IsTableName def.name
  pub columns : IsBetween 1 COLUMNS (length def.columns)
  pub named : All IsTableName (map column_name def.columns)
  pub different : AreDifferent (map column_name def.columns)
  pub key : IsBetween 1 KEY_PARTS (length def.key)
  pub parts : All (λ k. k < length def.columns) def.key
  pub distinct : IsDistinct nat_eq def.key

-- the tables of a resource: at most sixteen, with different names
pub record IsSchema (schema : Schema) : Type 0 where
  pub few : length schema.tables ≤ TABLES
  pub each : All IsTable schema.tables
  pub different : AreDifferent (map table_name schema.tables)

-- ---- rows

-- no control character: neither below a space nor 127
abbrev pub is_printable : ℕ → Bool
is_printable b = nat_le 32 b && not (b == 127)

-- a value of a column: a text there has no control character
abbrev pub FitsColumn : ColType → Value → Type 0
FitsColumn type.Int (value.Int number) = Unit {0}
FitsColumn type.Text (value.Text text) = (list_all is_printable text ≡ true) × (length text ≤ TEXT_BYTES)
FitsColumn _ _ = ⊥

-- a row of these columns: a value for each
pub record IsRow (columns : List Column) (row : Row) : Type 0 where
  pub whole : length row.0 ≡ length columns
  pub each : (k : ℕ) (column : Column) (cell : Value) → slice_get columns k ≡ Some column → slice_get row.0 k ≡ Some cell → FitsColumn column.1 cell

-- a row at the opening, with the name of its table
abbrev pub IsOpeningRow : Schema → List ℕ × Row → Type 0
IsOpeningRow schema o = (def : TableDef) × (table_named schema o.0 ≡ Some def) × IsRow def.columns o.1

-- a resource: its rows at the opening are of its tables, and no two have one key, whatever its number is
pub record IsResource (def : ResourceDef) : Type 0 where
  pub name : IsNodeName def.name
  pub schema : IsSchema def.schema
  pub few : length def.opening ≤ RESOURCE_ROWS
  pub rows : All (IsOpeningRow def.schema) def.opening
  pub opens : (number : ℕ) → IsOpening number def.schema def.opening

-- ---- statements and calls

-- the table that a statement names
abbrev pub table_of : Stmt → List ℕ
table_of (stmt.Insert table columns tuples) = table
table_of (stmt.Update table sets asked) = table
table_of (stmt.Delete table asked) = table
table_of (stmt.Select table asked) = table

-- whether a statement may stand in a call of this kind, by the kind of its table
abbrev pub suits : BranchKind → BranchKind → Stmt → Bool
suits kind.At kind.At found = true
suits kind.Tcc kind.Tcc (stmt.Select table asked) = false
suits kind.Tcc kind.Tcc _ = true
suits _ _ _ = false

-- a statement of a text that is short enough, for a table that is there and of the wanted mode
pub record IsStatement (schema : Schema) (wanted : BranchKind) (s : Stmt) : Type 0 where
  pub read : (text : List ℕ) × (length text ≤ STATEMENT_BYTES) × (reading text ≡ Ok s)
  pub stands : (def : TableDef) × (table_named schema (table_of s) ≡ Some def) × (suits wanted def.mode s ≡ true)

-- no more statements than a list may have, each of them such
pub record AreStatements (schema : Schema) (wanted : BranchKind) (stmts : List Stmt) : Type 0 where
  pub few : length stmts ≤ STATEMENTS
  pub each : All (IsStatement schema wanted) stmts

-- the work of a call
abbrev pub IsWork : Schema → Work → Type 0
IsWork schema (work.At stmts) = AreStatements schema kind.At stmts
IsWork schema (work.Tcc action) =
    AreStatements schema kind.Tcc action.tries × AreStatements schema kind.Tcc action.confirms × AreStatements schema kind.Tcc action.cancels

-- the resource of a number, counted from 1
abbrev pub resource_numbered : List ResourceDef → ℕ → Option ResourceDef
resource_numbered resources zero = None
resource_numbered resources (suc k) = slice_get resources k

-- a call: the number of a resource, and work for its tables
abbrev pub IsCall : List ResourceDef → ℕ × Work → Type 0
IsCall resources call = (def : ResourceDef) × (resource_numbered resources call.0 ≡ Some def) × IsWork def.schema call.1

-- a local: the number of a resource, and statements for its tables
abbrev pub IsLocal : List ResourceDef → ℕ × List Stmt → Type 0
IsLocal resources one = (def : ResourceDef) × (resource_numbered resources one.0 ≡ Some def) × AreStatements def.schema kind.At one.1
