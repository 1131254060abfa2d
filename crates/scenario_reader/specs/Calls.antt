-- Statements, calls of managers, and locals.
use Rattle.std.specs.Prelude.{ℕ, ◌+◌, ◌&&◌, ◌||◌, not, nat_le, Bool, if◌then◌else◌, List, [], ◌∷◌, length, position, find, slice_get, Option, Some, None, Result, Ok, Err, codes}
use Rattle.serde_json.specs.Data.{Data}
use Rattle.serde_json.specs.Find.{as_str}
use Rattle.seata_types.specs.declared.limits.TheConstants.{CALLS, LOCALS, STATEMENTS, STATEMENT_BYTES}
use Rattle.seata_types.specs.declared.statements.Stmt.{Stmt}
use Rattle.seata_types.specs.declared.statements.Work.{Work}
use Rattle.seata_types.specs.declared.statements.Work.TheVariants as work
use Rattle.seata_types.specs.declared.statuses.BranchKind.{BranchKind}
use Rattle.seata_types.specs.declared.statuses.BranchKind.TheVariants as kind
use Rattle.local_tables.specs.declared.schemas.Schema.{Schema}
use Rattle.local_tables.specs.declared.schemas.TableDef.{TableDef}
use Rattle.sql_reader.specs.Answer.{reading}
use Rattle.sql_reader.specs.declared.errors.SqlError.{SqlError}
use Rattle.sql_reader.specs.declared.errors.SqlError.TheVariants as sql
use Rattle.scenario_reader.specs.declared.errors.ScenarioError.TheVariants as fault
use Rattle.scenario_form.specs.declared.scenarios.ResourceDef.{ResourceDef}
use Rattle.scenario_reader.specs.Faults.{Outcome, ◌>>=◌, wrong_shape, wrong_sql, wrong_mode, wrong_name, beyond, member, each, text, text_by, list, an_object, only, has}
use Rattle.scenario_form.specs.Contents.{suits, table_of}
use Rattle.scenario_form.specs.Names.{is_word}
use Rattle.scenario_reader.specs.Names.{is_resource_named}
use Rattle.scenario_reader.specs.Tables.{is_table_named}

-- ---- statements

-- the statement that the grammar reads, or the byte at which it refuses the text
abbrev pub read_by : Result Stmt SqlError → Outcome Stmt
read_by (Ok found) = Ok found
read_by (Err (sql.Refused at why)) = wrong_sql at
read_by (Err sql.NoMemory) = Err fault.NoMemory

-- a statement of the grammar
unfoldable pub parsed : List ℕ → Outcome Stmt
parsed found = if nat_le (length found) STATEMENT_BYTES then read_by (reading found) else beyond STATEMENT_BYTES

-- the statement, by its table: where it doesn't suit the call the mode is wrong, where there is none the name
abbrev pub standing_by : BranchKind → Stmt → Option TableDef → Outcome Stmt
standing_by wanted found (Some def) = if suits wanted def.mode found then Ok found else wrong_mode
standing_by wanted found None = wrong_name

-- the statement, where its table is there and of the kind of its call
unfoldable pub standing : Schema → BranchKind → Stmt → Outcome Stmt
standing schema wanted found = standing_by wanted found (find (is_table_named (table_of found)) schema.tables)

-- a statement of the form: a text of the grammar, whose table is there and of the kind of its call
unfoldable pub statement : Schema → BranchKind → Data → Outcome Stmt
statement schema wanted d = do
  written ← text_by (as_str d)
  found ← parsed written
  standing schema wanted found

-- the next statement of a list, whatever stands before it
abbrev pub next_statement : Schema → BranchKind → List Stmt → Data → Outcome Stmt
next_statement schema wanted found d = statement schema wanted d

-- the statements of a list
unfoldable pub statements : Schema → BranchKind → Option Data → Outcome (List Stmt)
statements schema wanted d = do
  items ← list STATEMENTS d
  each (next_statement schema wanted) [] items

-- ---- calls

-- whether this is a call of the TCC mode
abbrev pub is_action : Data → Bool
is_action d = not (has (codes "do") d) && (has (codes "try") d || (has (codes "confirm") d || has (codes "cancel") d))

-- the statements of the AT mode
unfoldable pub at_work : Schema → Data → Outcome Work
at_work schema d = do
  found ← member (codes "do") (statements schema kind.At) d
  Ok (work.At found)

-- the actions of the TCC mode
unfoldable pub tcc_work : Schema → Data → Outcome Work
tcc_work schema d = do
  tries ← member (codes "try") (statements schema kind.Tcc) d
  confirms ← member (codes "confirm") (statements schema kind.Tcc) d
  cancels ← member (codes "cancel") (statements schema kind.Tcc) d
  Ok (work.Tcc (record { tries = tries; confirms = confirms; cancels = cancels }))

-- the work of a call, by its mode
abbrev pub call_work : Schema → Data → Outcome Work
call_work schema d = if is_action d then tcc_work schema d else at_work schema d

-- the names of the members of an AT call and of a local, and of a TCC call
abbrev pub local_members : List (List ℕ)
local_members = codes "at" ∷ codes "do" ∷ []

abbrev pub action_members : List (List ℕ)
action_members = codes "at" ∷ codes "try" ∷ codes "confirm" ∷ codes "cancel" ∷ []

-- a call without other members than those of its mode
abbrev pub only_call : Data → Outcome (Unit {0})
only_call d = if is_action d then only action_members d else only local_members d

-- a place, where the name was found
abbrev pub place_by : Option ℕ → Outcome ℕ
place_by (Some k) = Ok k
place_by None = wrong_name

-- where among the resources this name stands, counted from 0
unfoldable pub resource_place : List ResourceDef → List ℕ → Outcome ℕ
resource_place resources name = if is_word name then place_by (position (is_resource_named name) resources) else wrong_shape

-- the place of the resource that a member names, counted from 0
unfoldable pub resource_at : List ResourceDef → Option Data → Outcome ℕ
resource_at resources d = do
  name ← text d
  resource_place resources name

-- the tables of a resource, none where there is no resource
abbrev pub schema_by : Option ResourceDef → Schema
schema_by (Some def) = def.schema
schema_by None = record { tables = [] }

-- the tables of the resource at a place
abbrev pub schema_at : List ResourceDef → ℕ → Schema
schema_at resources k = schema_by (slice_get resources k)

-- a call: its resource's number, counted from 1, and its work
unfoldable pub call : List ResourceDef → Data → Outcome (ℕ × Work)
call resources d = do
  _ ← an_object d
  k ← member (codes "at") (resource_at resources) d
  found ← call_work (schema_at resources k) d
  _ ← only_call d
  Ok (k + 1, found)

-- the next call of a list, whatever stands before it
abbrev pub next_call : List ResourceDef → List (ℕ × Work) → Data → Outcome (ℕ × Work)
next_call resources calls d = call resources d

-- the calls of a manager
unfoldable pub calls : List ResourceDef → Option Data → Outcome (List (ℕ × Work))
calls resources d = do
  items ← list CALLS d
  each (next_call resources) [] items

-- ---- locals

-- the statements of a local, which are of the AT mode
abbrev pub local_statements : Schema → Data → Outcome (List Stmt)
local_statements schema d = member (codes "do") (statements schema kind.At) d

-- a local: its resource's number, counted from 1, and its statements
unfoldable pub local_item : List ResourceDef → Data → Outcome (ℕ × List Stmt)
local_item resources d = do
  _ ← an_object d
  k ← member (codes "at") (resource_at resources) d
  found ← local_statements (schema_at resources k) d
  _ ← only local_members d
  Ok (k + 1, found)

-- the next local of a list, whatever stands before it
abbrev pub next_local : List ResourceDef → List (ℕ × List Stmt) → Data → Outcome (ℕ × List Stmt)
next_local resources locals d = local_item resources d

-- the locals, none where they are left out
unfoldable pub locals : List ResourceDef → Option Data → Outcome (List (ℕ × List Stmt))
locals resources None = Ok []
locals resources (Some d) = do
  items ← list LOCALS (Some d)
  each (next_local resources) [] items
