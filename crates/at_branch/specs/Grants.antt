-- What a call opens, and what a grant of the global lock does to it: what this asks of a resource, and what the act that it answers by
-- its rules tells.
use Rattle.std.specs.Prelude.{◌≡◌, ℕ, Bool, true, false, List, Result, Ok, Err}
use Rattle.disk_model.specs.Disk.{DiskState}
use Rattle.seata_types.specs.declared.acts.Act.{Act}
use Rattle.seata_types.specs.declared.acts.Act.TheVariants as act
use Rattle.seata_types.specs.declared.errors.StoreError.{StoreError}
use Rattle.seata_types.specs.declared.ids.Leg.{Leg}
use Rattle.seata_types.specs.declared.ids.Ticket.{Ticket}
use Rattle.seata_types.specs.declared.statements.Stmt.{Stmt}
use Rattle.seata_types.specs.declared.statements.Work.TheVariants as work
use Rattle.local_tables.specs.Calls.{effect}
use Rattle.local_tables.specs.Rows.{Database}
use Rattle.local_txn.specs.OpenTickets.{Owner, OfCall, OfLocal, Open, open_at, without}
use Rattle.local_txn.specs.Answers.{Executes, Tickets, owner_by, with_opens}
use Rattle.local_txn.specs.declared.transactions.ExecError.{ExecError}
use Rattle.history_rules.specs.ResourceMemory.{committed_of}
use Rattle.resource_store.specs.declared.store.Store.{Store}
use Rattle.resource_store.specs.Answers.{TakesRows}
use Rattle.rule_calls.specs.Calls.{GivesAs, bare}
use Rattle.rule_calls.specs.Grants.{granting, opens_in}
use Rattle.at_branch.specs.declared.answers.Granted.{Granted}
use Rattle.at_branch.specs.declared.answers.Granted.TheVariants as grant

-- a call's statements open its ticket on these tables, or tell why not
abbrev pub OpensCall : Database → (manager xid call : ℕ) → List Stmt → Result Ticket ExecError → Tickets → Tickets → Type 0
OpensCall db m x c stmts result old new = Executes old (owner_by x m c (work.At stmts)) (effect db stmts) result new

-- ---- a grant

-- a grant: committed where its act is durable, kept from it by the marker where the ticket is dropped, else ignored
abbrev pub granted_by : Act → Granted
granted_by (act.Durable done) = grant.Committed
granted_by (act.Dropped xid call t cause) = grant.Marker
granted_by _ = grant.NotOpen

-- of a branch to one of these open tickets
abbrev pub Grants : {D : Type 0} → (D → DiskState) → List Open → Ticket → Leg → Result Granted StoreError → Store D → Store D → Type 0
Grants state opens t leg result old new = GivesAs state granted_by bare (granting t leg) (opens_in leg.xid (open_at opens t)) result old new

-- the ticket is open no longer where it committed, or a marker kept it from that
abbrev pub tickets_after : Ticket → Result Granted StoreError → Tickets → Tickets
tickets_after t (Ok grant.Committed) old = with_opens old (without old.opens t)
tickets_after t (Ok grant.Marker) old = with_opens old (without old.opens t)
tickets_after t (Ok grant.NotOpen) old = old
tickets_after t (Err e) old = old

abbrev pub is_at_call : Owner → Bool
is_at_call (OfCall m x c (work.At stmts)) = true
is_at_call (OfCall m x c (work.Tcc action)) = false
is_at_call (OfLocal k) = false

-- an open ticket of an AT call, whose local commit the store takes
pub record MayCommit (db : Database) (leg : Leg) (o : Open) : Type 0 where
  pub of_kind : is_at_call o.owner ≡ true
  pub rows : TakesRows db o.images o.reads (committed_of leg.xid leg.branch o)
