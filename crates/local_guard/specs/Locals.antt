-- A guarded local transaction: what its opening answers, what the coordinator's answers to its lock query ask of a resource, and what
-- the act that this answers by its rules tells.
use Rattle.std.specs.Prelude.{◌≡◌, ℕ, List, [], Option, Some, None, Result, Ok, Err}
use Rattle.disk_model.specs.Disk.{DiskState}
use Rattle.seata_types.specs.declared.acts.Act.{Act}
use Rattle.seata_types.specs.declared.acts.Act.TheVariants as act
use Rattle.seata_types.specs.declared.acts.Durable.TheVariants as durable
use Rattle.seata_types.specs.declared.errors.StoreError.{StoreError}
use Rattle.seata_types.specs.declared.ids.Place.TheVariants as place
use Rattle.seata_types.specs.declared.ids.Ticket.{Ticket}
use Rattle.seata_types.specs.declared.ids.Xid.{Xid}
use Rattle.seata_types.specs.declared.messages.Input.{Input}
use Rattle.seata_types.specs.declared.messages.Input.TheVariants as input
use Rattle.seata_types.specs.declared.messages.Message.TheVariants as message
use Rattle.seata_types.specs.declared.rows.RowKey.{RowKey}
use Rattle.seata_types.specs.declared.statements.Stmt.{Stmt}
use Rattle.local_tables.specs.Calls.{effect}
use Rattle.local_tables.specs.Rows.{Database}
use Rattle.local_txn.specs.OpenTickets.{Owner, OfCall, OfLocal, Open, without}
use Rattle.local_txn.specs.Answers.{Executes, Tickets, with_opens}
use Rattle.local_txn.specs.declared.transactions.ExecError.{ExecError}
use Rattle.history_rules.specs.ResourceMemory.{Setup, Memory, local_committed_of}
use Rattle.history_rules.specs.ResourceRules.{resource_answer}
use Rattle.resource_store.specs.declared.store.Store.{Store}
use Rattle.resource_store.specs.Answers.{TakesRows}
use Rattle.rule_calls.specs.Calls.{GivesAs, bare}

-- its statements open its ticket on these tables, or tell why not
abbrev pub OpensLocal : Database → (number : ℕ) → List Stmt → Result Ticket ExecError → Tickets → Tickets → Type 0
OpensLocal db number stmts result old new = Executes old (OfLocal number) (effect db stmts) result new

-- the coordinator answers that a transaction holds this row of a ticket, or that none holds one
abbrev pub answering : Ticket → (held : Option (RowKey × Xid)) → Input
answering t held = input.Message place.Tc (message.LockAnswer t held)

-- the number of the local transaction that ends: it commits, or is dropped
abbrev pub ended_by : Act → Option ℕ
ended_by (act.Durable (durable.LocalCommitted k t)) = Some k
ended_by (act.DroppedLocal k t key holder) = Some k
ended_by _ = None

-- no row of one of these open tickets is held
abbrev pub Frees : {D : Type 0} → (D → DiskState) → List Open → Ticket → Result (Option ℕ) StoreError → Store D → Store D → Type 0
Frees state opens t result old new = GivesAs state ended_by bare (answering t None) opens result old new

-- a row of it is held, whichever, by whatever transaction
abbrev pub Drops : List Open → Ticket → Option ℕ → Type 0
Drops opens t number =
    (s : Setup) (m : Memory) (key : RowKey) (holder : Xid) → m.opens ≡ opens → number ≡ ended_by (resource_answer s m (answering t (Some (key, holder)))).act

-- a ticket is open no longer where it was that of the local transaction with this number
abbrev pub closed : Ticket → Option ℕ → Tickets → Tickets
closed t None old = old
closed t (Some k) old = with_opens old (without old.opens t)

-- the open tickets after an answer; where the store failed, they are as before
abbrev pub tickets_after : Ticket → Result (Option ℕ) StoreError → Tickets → Tickets
tickets_after t (Ok number) old = closed t number old
tickets_after t (Err e) old = old

-- where a ticket is of a local transaction, the store takes its commit
abbrev pub MayCommitBy : Database → Open → Owner → Type 0
MayCommitBy db o (OfLocal k) = TakesRows db o.images [] (local_committed_of k o)
MayCommitBy db o (OfCall m x c w) = Unit {0}

abbrev pub MayCommit : Database → Open → Type 0
MayCommit db o = MayCommitBy db o o.owner
