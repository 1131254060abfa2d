-- What guarded local transactions and outside writes come to, by what was looked up: the rules' step, the record that it asks
-- for, and what becomes of the ticket.
use Rattle.std.specs.Prelude.{◌≡◌, ℕ, List, [], Option, None, Result, Err}
use Rattle.seata_types.specs.declared.errors.StmtError.{StmtError}
use Rattle.seata_types.specs.declared.ids.Ticket.{Ticket}
use Rattle.seata_types.specs.declared.ids.Xid.{Xid}
use Rattle.seata_types.specs.declared.rows.RowKey.{RowKey}
use Rattle.seata_types.specs.declared.statements.Stmt.{Stmt}
use Rattle.seata_types.specs.declared.statements.Work.TheVariants as work
use Rattle.local_tables.specs.declared.schemas.Effect.{Effect}
use Rattle.local_txn.specs.OpenTickets.{OfLocal, Open}
use Rattle.local_txn.specs.Answers.{Plans, Tickets, free_effect, new_ticket, open_of, plan, unless_busy}
use Rattle.local_txn.specs.declared.transactions.ExecError.{ExecError}
use Rattle.local_txn.specs.declared.transactions.OpenTxn.{OpenTxn}
use Rattle.history_rules.specs.CoordinatorRules.{xid_of}
use Rattle.history_rules.specs.ResourceMemory.{or_none}
use Rattle.history_rules.specs.ResourceRules as rules
use Rattle.resource_rules.specs.Answers.{answer_by}
use Rattle.resource_rules.specs.Calls.{opens}
use Rattle.resource_rules.specs.declared.answers.Answer.{Answer}

-- the answer to the lock query of a guarded local transaction, by the row of it that is held
abbrev pub lock_answered : OpenTxn → Option (RowKey × Xid) → Answer
lock_answered txn held = answer_by txn.call txn.images [] (rules.lock_answer (open_of txn) (OfLocal txn.call) held)

-- an outside write of this effect, by the row of it that an open ticket has; and of this meaning
abbrev pub outside_free : (number : ℕ) → Effect → Option (RowKey × Ticket) → Answer
outside_free n e busy = answer_by 0 e.images [] (rules.outside_free n busy)

abbrev pub outside_meant : List Open → (number : ℕ) → Result Effect (ℕ × StmtError) → Answer
outside_meant opens n meaning = answer_by 0 (or_none meaning).images [] (rules.outside_meant opens n meaning)

-- a local transaction of this effect, by the row of it that an open ticket has; and of this meaning, where it isn't open
abbrev pub local_free : (resource : ℕ) → Tickets → (number : ℕ) → List Stmt → Effect → Option (RowKey × Ticket) → Answer
local_free resource ts n stmts e busy = record {
  step = rules.local_free resource (new_ticket ts) n e busy;
  asked = None;
  change = opens (plan ts (xid_of 0) n 0 (work.At stmts) (unless_busy e busy));
}

abbrev pub local_meant : (resource : ℕ) → Tickets → (number : ℕ) → List Stmt → Result Effect (ℕ × StmtError) → Answer
local_meant resource ts n stmts meaning = record {
  step = rules.local_meant resource ts.opens (new_ticket ts) n meaning;
  asked = None;
  change = opens (plan ts (xid_of 0) n 0 (work.At stmts) (free_effect ts.opens meaning));
}

-- no ticket is opened for a local transaction, and why: the answer to each one whose opening comes to this
abbrev pub Unopened : (number : ℕ) → ExecError → Answer → Type 0
Unopened n why a = (resource : ℕ) (ts : Tickets) (stmts : List Stmt) (meaning : Result Effect (ℕ × StmtError)) → Plans ts (xid_of 0) n 0 (work.At stmts) meaning (Err why)
    → a ≡ local_meant resource ts n stmts meaning
