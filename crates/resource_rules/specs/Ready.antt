-- What a resource needs so that all that it answers has a place in its journal and in frames: there are tickets left, and what it is,
-- what it knows, its open tickets and what it is given have such places.
use Rattle.std.specs.Prelude.{◌≡◌, ℕ, ◌<◌, ◌≤◌, ◌-◌, ◌^◌, true, List, [], length}
use Rattle.std.specs.List.{AllByRecursion}
use Rattle.seata_types.specs.declared.limits.TheConstants.{CALLS, RESOURCES, STATEMENTS}
use Rattle.seata_types.specs.declared.messages.Input.{Input}
use Rattle.seata_types.specs.declared.messages.Input.TheVariants as input
use Rattle.seata_types.specs.declared.statements.Action.{Action}
use Rattle.seata_types.specs.declared.statements.Stmt.{Stmt}
use Rattle.seata_types.specs.declared.statements.Work.{Work}
use Rattle.seata_types.specs.declared.statements.Work.TheVariants as work
use Rattle.byte_fields.specs.Layout.{FitsTicket}
use Rattle.frame_codec.specs.Limits.{IsCounted, IsFramable}
use Rattle.local_tables.specs.Rows.{Database}
use Rattle.local_tables.specs.declared.schemas.Effect.{Effect}
use Rattle.local_txn.specs.OpenTickets.{Owner, OfCall, OfLocal, Open}
use Rattle.local_txn.specs.Answers.{Tickets}
use Rattle.resource_memory.specs.Changes.{fit}
use Rattle.resource_memory.specs.Keeping.{FitsParts, IsKept}
use Rattle.resource_memory.specs.Known.{Known}
use Rattle.record_places.specs.Laws.{HasKeysOf}
use Rattle.record_places.specs.Within.{IsEffectWithin, IsStmtWithin, IsTableWithin}
use Rattle.resource_rules.specs.declared.setups.Setup.{Setup as TheSetup}

-- ---- what is known

-- what is known stands in order, and has places in a snapshot; its tables are no larger than a scenario's
pub record IsKnownWithin (k : Known) : Type 0 where
  pub resource : IsCounted RESOURCES k.tables.resource
  pub schema : AllByRecursion IsTableWithin k.tables.schema.tables
  pub kept : IsKept k
  pub parts : FitsParts k

-- ---- statements

-- no more statements than a list of a scenario has, whose values have places
pub record AreStmtsWithin (stmts : List Stmt) : Type 0 where
  pub count : length stmts ≤ STATEMENTS
  pub each : AllByRecursion IsStmtWithin stmts

pub record IsActionWithin (action : Action) : Type 0 where
  pub tries : AreStmtsWithin action.tries
  pub confirms : AreStmtsWithin action.confirms
  pub cancels : AreStmtsWithin action.cancels

-- ---- open tickets

-- the effect that a ticket was opened with
abbrev pub effect_in : Open → Effect
effect_in o = record { images = o.images; reads = o.reads; touched = [] }

-- its rows are of these tables, and have places
pub record HasRows (db : Database) (o : Open) : Type 0 where
  pub fits : fit db o.images o.reads ≡ true
  pub places : IsEffectWithin (effect_in o)
  pub keys : HasKeysOf db.resource (effect_in o)

-- the numbers of a transaction and of one of its calls
pub record IsCallWithin (x c : ℕ) : Type 0 where
  pub xid : x < 2 ^ 64
  pub counted : IsCounted CALLS c

abbrev pub IsOwnedWithin : Database → Open → Owner → Type 0
IsOwnedWithin db o (OfCall m x c (work.At stmts)) = IsCallWithin x c × HasRows db o
IsOwnedWithin db o (OfCall m x c (work.Tcc action)) = IsCallWithin x c × AreStmtsWithin action.tries
IsOwnedWithin db o (OfLocal k) = (k < 2 ^ 16) × HasRows db o

pub record IsTicketWithin (db : Database) (o : Open) : Type 0 where
  pub named : FitsTicket o.ticket
  pub owned : IsOwnedWithin db o o.owner

abbrev pub AreTicketsWithin : Database → List Open → Type 0
AreTicketsWithin db opens = AllByRecursion (IsTicketWithin db) opens

-- ---- a resource

abbrev pub HasActionWithin : ℕ × ℕ × Action → Type 0
HasActionWithin a = IsActionWithin a.2

abbrev pub HasStmtsWithin : ℕ × List Stmt → Type 0
HasStmtsWithin l = AreStmtsWithin l.1

pub record IsReady (is : TheSetup) (k : Known) (ts : Tickets) : Type 0 where
  pub room : ts.opened < 2 ^ 32 - 1
  pub counted : IsCounted RESOURCES is.number
  pub knows : IsKnownWithin k
  pub tickets : AreTicketsWithin k.tables ts.opens
  pub actions : AllByRecursion HasActionWithin is.actions
  pub locals : AllByRecursion HasStmtsWithin is.locals

-- ---- what is given

abbrev pub ServesWork : Work → Type 0
ServesWork (work.At stmts) = AreStmtsWithin stmts
ServesWork (work.Tcc action) = AreStmtsWithin action.tries

-- a message that can be framed, and a local transaction with a number of a scenario's
abbrev pub ServesWithin : Input → Type 0
ServesWithin (input.Message from heard) = IsFramable heard
ServesWithin (input.Local k) = k < 2 ^ 16
ServesWithin _ = Unit {0}
