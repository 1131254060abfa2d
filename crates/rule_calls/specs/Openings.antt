-- What the opening of a ticket tells: the act of the rules' answer to a call, or to a local transaction, that is new.
use Rattle.std.specs.Prelude.{◌≡◌, ℕ, List, Result, Ok, Err}
use Rattle.seata_types.specs.declared.acts.Act.{Act}
use Rattle.seata_types.specs.declared.acts.Act.TheVariants as act
use Rattle.seata_types.specs.declared.errors.StmtError.{StmtError}
use Rattle.seata_types.specs.declared.errors.Why.TheVariants as why
use Rattle.seata_types.specs.declared.ids.Ticket.{Ticket}
use Rattle.seata_types.specs.declared.statements.Work.{Work}
use Rattle.local_tables.specs.declared.schemas.Effect.{Effect}
use Rattle.local_txn.specs.Answers.{Tickets, new_ticket}
use Rattle.local_txn.specs.declared.transactions.ExecError.{ExecError}
use Rattle.local_txn.specs.declared.transactions.ExecError.TheVariants as error
use Rattle.history_rules.specs.ResourceRules as rules

-- the ticket, or why there is none
abbrev pub opened_by : Act → Result Ticket ExecError
opened_by (act.Opened xid call t) = Ok t
opened_by (act.OpenedLocal k t) = Ok t
opened_by (act.Refused xid call (why.Stmt index cause)) = Err (error.Stmt index cause)
opened_by (act.RefusedLocal k (why.Stmt index cause)) = Err (error.Stmt index cause)
opened_by (act.Busy xid call key by) = Err (error.Busy key by)
opened_by (act.BusyLocal k key by) = Err (error.Busy key by)
opened_by _ = Err error.NoMemory

-- an opening tells what this act does, unless memory is wanting
abbrev pub Tells : Act → Result Ticket ExecError → Type 0
Tells done (Err error.NoMemory) = Unit {0}
Tells done result = result ≡ opened_by done

-- it tells what a resource, of whatever number, with these open tickets answers to a new call whose work has this meaning
abbrev pub TellsCall : Tickets → (manager xid call : ℕ) → Work → Result Effect (ℕ × StmtError) → Result Ticket ExecError → Type 0
TellsCall ts m x c w meaning result = (number : ℕ) → Tells (rules.new_call number ts.opens (new_ticket ts) m x c w meaning).act result

-- and to a new local transaction
abbrev pub TellsLocal : Tickets → (local : ℕ) → Result Effect (ℕ × StmtError) → Result Ticket ExecError → Type 0
TellsLocal ts k meaning result = (number : ℕ) → Tells (rules.local_meant number ts.opens (new_ticket ts) k meaning).act result
