-- Calls: what is looked up for one, and what a new one comes to.
use Rattle.std.specs.Prelude.{◌≡◌, ◌≤◌, ℕ, length, Option, None, option_map, Result, Ok, Err}
use Rattle.seata_types.specs.declared.acts.Act.{Act}
use Rattle.seata_types.specs.declared.errors.StmtError.{StmtError}
use Rattle.seata_types.specs.declared.ids.BranchId.{BranchId}
use Rattle.seata_types.specs.declared.ids.Leg.{Leg}
use Rattle.seata_types.specs.declared.ids.Ticket.{Ticket}
use Rattle.seata_types.specs.declared.limits.TheConstants.{FIELD_ITEMS}
use Rattle.seata_types.specs.declared.rows.RowKey.{RowKey}
use Rattle.seata_types.specs.declared.statements.Work.{Work}
use Rattle.seata_types.specs.declared.statements.Work.TheVariants as work
use Rattle.local_tables.specs.declared.schemas.Effect.{Effect}
use Rattle.undo_log.specs.Entries.{record_of_call}
use Rattle.undo_log.specs.declared.records.UndoRecord.{UndoRecord}
use Rattle.local_txn.specs.Answers.{Plans, Tickets, free_effect, new_ticket, open_of, plan, unless_busy}
use Rattle.local_txn.specs.declared.transactions.ExecError.{ExecError}
use Rattle.local_txn.specs.declared.transactions.OpenTxn.{OpenTxn}
use Rattle.history_rules.specs.ResourceRules as rules
use Rattle.resource_memory.specs.Known.{Known}
use Rattle.resource_memory.specs.Lookups.{tried_leg}
use Rattle.resource_rules.specs.declared.answers.Answer.{Answer}
use Rattle.resource_rules.specs.declared.answers.Change.{Change}
use Rattle.resource_rules.specs.declared.answers.Change.TheVariants as change
use Rattle.resource_rules.specs.declared.callers.Caller.{Caller}

-- a call has no more statements than are counted
abbrev pub HasFewStatements : Work → Type 0
HasFewStatements (work.At stmts) = length stmts ≤ FIELD_ITEMS
HasFewStatements (work.Tcc action) = Unit {0}

-- ---- what is looked up

-- the branch of an undo record, and of a fence
abbrev pub branch_by : UndoRecord → BranchId
branch_by r = r.leg.branch

abbrev pub branch_on : Leg → BranchId
branch_on leg = leg.branch

-- the branch for which the work of a call is done
abbrev pub done_for : Known → Caller → Work → Option BranchId
done_for k c (work.At stmts) = option_map branch_by (record_of_call c.xid.0 c.call k.undo_log)
done_for k c (work.Tcc action) = option_map branch_on (tried_leg c.xid.0 c.call k.calls)

-- ---- openings

-- a planned ticket is opened
abbrev pub opens : Result OpenTxn ExecError → Change
opens (Ok txn) = change.Opens txn
opens (Err why) = change.Stays

-- a ticket is opened with this act, and asks the coordinator
abbrev pub opened : (number : ℕ) → Act → OpenTxn → Answer
opened number done txn = record { step = rules.requests number done (open_of txn); asked = None; change = change.Opens txn }

-- a call with this effect, by the row of it that an open ticket has: the rules' step, and its ticket as it is planned
abbrev pub free_call : (number : ℕ) → Tickets → Caller → Work → Effect → Option (RowKey × Ticket) → Answer
free_call number ts c w e busy = record {
  step = rules.free_call number (new_ticket ts) c.manager c.xid.0 c.call w e busy;
  asked = None;
  change = opens (plan ts c.xid c.call c.manager w (unless_busy e busy));
}

-- the same of a call with this meaning, for which nothing is done, and no ticket is open
abbrev pub new_call : (number : ℕ) → Tickets → Caller → Work → Result Effect (ℕ × StmtError) → Answer
new_call number ts c w meaning = record {
  step = rules.new_call number ts.opens (new_ticket ts) c.manager c.xid.0 c.call w meaning;
  asked = None;
  change = opens (plan ts c.xid c.call c.manager w (free_effect ts.opens meaning));
}

-- no ticket is opened for a call, and why: the answer to each call whose opening comes to this
abbrev pub Unopened : Caller → ExecError → Answer → Type 0
Unopened c why a = (number : ℕ) (ts : Tickets) (w : Work) (meaning : Result Effect (ℕ × StmtError)) → Plans ts c.xid c.call c.manager w meaning (Err why)
    → a ≡ new_call number ts c w meaning
