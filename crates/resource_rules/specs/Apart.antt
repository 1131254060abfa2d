-- Answers apart from what a resource is: to the end of a branch, or to an outside write, whose statements a call is given. They are those of
-- each resource that has these statements there, with these tickets open.
use Rattle.std.specs.Prelude.{◌≡◌, ℕ, List, Some}
use Rattle.seata_types.specs.declared.ids.Leg.{Leg}
use Rattle.seata_types.specs.declared.messages.Input.TheVariants as input
use Rattle.seata_types.specs.declared.messages.Message.TheVariants as message
use Rattle.seata_types.specs.declared.statements.Action.{Action}
use Rattle.seata_types.specs.declared.statements.Stmt.{Stmt}
use Rattle.seata_types.specs.declared.statuses.BranchKind.TheVariants as kind
use Rattle.local_tables.specs.Calls.{effect}
use Rattle.durable_records.specs.Fences.{on_cancel, on_confirm}
use Rattle.tcc_fence.specs.Meanings.{fence_at}
use Rattle.local_txn.specs.OpenTickets.{Open}
use Rattle.local_txn.specs.Answers.{Tickets}
use Rattle.history_rules.specs.ResourceMemory.{action_in, local_in}
use Rattle.resource_memory.specs.Known.{Known}
use Rattle.resource_rules.specs.Answers.{Answers, Hears}
use Rattle.resource_rules.specs.Ends.{confirming, cancelling}
use Rattle.resource_rules.specs.Locals.{outside_meant}
use Rattle.resource_rules.specs.Setups.{actions_of}
use Rattle.resource_rules.specs.declared.answers.Answer.{Answer}
use Rattle.resource_rules.specs.declared.setups.Setup.{Setup as TheSetup}

-- to the rollback of an AT branch
abbrev pub RollsBack : Known → List Open → Leg → Answer → Type 0
RollsBack k opens leg a = (is : TheSetup) (ts : Tickets) (manager call : ℕ) → ts.opens ≡ opens
    → Hears is k ts (message.BranchRollback leg.xid leg.branch kind.At manager call) a

-- to the commit and the rollback of a TCC branch whose Confirm, or Cancel, has these statements
abbrev pub ConfirmsWith : Known → Leg → List Stmt → Answer → Type 0
ConfirmsWith k leg stmts a = (is : TheSetup) (ts : Tickets) (manager call : ℕ) (action : Action) → action_in manager call (actions_of is.actions) ≡ Some action
    → stmts ≡ action.confirms → Hears is k ts (message.BranchCommit leg.xid leg.branch kind.Tcc manager call) a

abbrev pub CancelsWith : Known → Leg → List Stmt → Answer → Type 0
CancelsWith k leg stmts a = (is : TheSetup) (ts : Tickets) (manager call : ℕ) (action : Action) → action_in manager call (actions_of is.actions) ≡ Some action
    → stmts ≡ action.cancels → Hears is k ts (message.BranchRollback leg.xid leg.branch kind.Tcc manager call) a

-- the same by what is known
abbrev pub confirms_on : Known → Leg → List Stmt → Answer
confirms_on k leg stmts = confirming leg (effect k.tables stmts) (on_confirm (fence_at k.fences leg))

abbrev pub cancels_on : Known → Leg → List Stmt → Answer
cancels_on k leg stmts = cancelling leg (effect k.tables stmts) (on_cancel (fence_at k.fences leg))

-- to the outside write of this number, which has these statements
abbrev pub WritesWith : Known → List Open → (number : ℕ) → List Stmt → Answer → Type 0
WritesWith k opens number stmts a = (is : TheSetup) (ts : Tickets) → local_in number is.locals ≡ Some stmts → ts.opens ≡ opens
    → Answers is k ts (input.Outside number) a

-- the same by what is known
abbrev pub writes_on : Known → List Open → (number : ℕ) → List Stmt → Answer
writes_on k opens number stmts = outside_meant opens number (effect k.tables stmts)
