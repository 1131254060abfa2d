-- For the proofs alone: statements, calls and locals as a scenario has them, and as nodes take them.
use Rattle.std.specs.Prelude.{◌≡◌, ◌≤◌, ℕ, All, IsUtf8, List, length, Ok, FitsSigned}
use Rattle.std.specs.Int.{w64}
use Rattle.seata_types.specs.declared.limits.TheConstants.{CALLS, STATEMENTS, STATEMENT_BYTES}
use Rattle.seata_types.specs.declared.rows.Row.{Row}
use Rattle.seata_types.specs.declared.rows.Value.{Value}
use Rattle.seata_types.specs.declared.rows.Value.TheVariants as value
use Rattle.seata_types.specs.declared.statements.Action.{Action}
use Rattle.seata_types.specs.declared.statements.Stmt.{Stmt}
use Rattle.seata_types.specs.declared.statements.Work.{Work}
use Rattle.seata_types.specs.declared.statements.Work.TheVariants as work
use Rattle.sql_reader.specs.Answer.{reading}
use Rattle.frame_codec.specs.Limits.{AreStmtsWithin, IsWorkWithin}
use Rattle.frame_codec.specs.Works.{FitsStmts, FitsWork}
use Rattle.scenario_form.specs.declared.scenarios.ManagerDef.{ManagerDef}

-- ---- what types say of values

-- a number has 64 bits, and a text is UTF-8
abbrev pub HasType : Value → Type 0
HasType (value.Int number) = FitsSigned w64 number
HasType (value.Text text) = IsUtf8 text

-- the values of a row behind its table's name
abbrev pub HasTypes : List ℕ × Row → Type 0
HasTypes named = All HasType named.1.0

-- ---- as they were read

-- some text reads as it, and is no longer than a statement of a scenario
abbrev pub IsRead : Stmt → Type 0
IsRead s = (text : List ℕ) × (length text ≤ STATEMENT_BYTES) × (reading text ≡ Ok s)

-- no more statements than a list may have, each of which was read
pub record AreRead (stmts : List Stmt) : Type 0 where
  pub few : length stmts ≤ STATEMENTS
  pub each : All IsRead stmts

-- the same of the parts of a TCC call
pub record IsReadAction (action : Action) : Type 0 where
  pub tries : AreRead action.tries
  pub confirms : AreRead action.confirms
  pub cancels : AreRead action.cancels

-- of a call's work
abbrev pub IsReadWork : Work → Type 0
IsReadWork (work.At stmts) = AreRead stmts
IsReadWork (work.Tcc action) = IsReadAction action

-- of a call
abbrev pub IsReadCall : ℕ × Work → Type 0
IsReadCall call = IsReadWork call.1

-- of a local
abbrev pub IsReadLocal : ℕ × List Stmt → Type 0
IsReadLocal one = AreRead one.1

-- of an action behind its manager and its call
abbrev pub HasReadAction : ℕ × ℕ × Action → Type 0
HasReadAction made = IsReadAction made.2

-- a manager whose calls were read, no more than a manager has
pub record HasReadCalls (def : ManagerDef) : Type 0 where
  pub few : length def.calls ≤ CALLS
  pub each : All IsReadCall def.calls

-- ---- as frames take them

-- statements within the layout and the limits of a frame
pub record AreFramable (stmts : List Stmt) : Type 0 where
  pub layout : FitsStmts stmts
  pub limits : AreStmtsWithin stmts

-- the same of the parts of a TCC call
pub record IsFramableAction (action : Action) : Type 0 where
  pub tries : AreFramable action.tries
  pub confirms : AreFramable action.confirms
  pub cancels : AreFramable action.cancels

-- of an action behind its manager and its call, and of a local
abbrev pub HasFramableAction : ℕ × ℕ × Action → Type 0
HasFramableAction made = IsFramableAction made.2

abbrev pub IsFramableLocal : ℕ × List Stmt → Type 0
IsFramableLocal one = AreFramable one.1

-- of a call's work
pub record IsFramableWork (asked : Work) : Type 0 where
  pub layout : FitsWork asked
  pub limits : IsWorkWithin asked

-- of a call
abbrev pub IsFramableCall : ℕ × Work → Type 0
IsFramableCall call = IsFramableWork call.1
