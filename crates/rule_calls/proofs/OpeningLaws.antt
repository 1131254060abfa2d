-- An opening of local transactions tells what the rules answer.
use Rattle.std.proofs.Common.{◌≡◌, ◌∙◌, ℕ, Option, Some, None, Result, Ok, Err, sym, ap}
use Rattle.std.specs.Prelude.{IfOk}
use Rattle.seata_types.specs.declared.copies.NoMemory.{NoMemory}
use Rattle.seata_types.specs.declared.errors.StmtError.{StmtError}
use Rattle.seata_types.specs.declared.ids.Ticket.{Ticket}
use Rattle.seata_types.specs.declared.rows.RowKey.{RowKey}
use Rattle.seata_types.specs.declared.statements.Work.{Work}
use Rattle.local_tables.specs.declared.schemas.Effect.{Effect}
use Rattle.local_txn.specs.OpenTickets.{Owner, busy_row, no_effect}
use Rattle.local_txn.specs.Answers.{Executes, Prepares, Tickets, free_effect, new_ticket, unless_busy}
use Rattle.local_txn.specs.declared.transactions.ExecError.{ExecError}
use Rattle.local_txn.specs.declared.transactions.ExecError.TheVariants as error
use Rattle.history_rules.specs.ResourceRules as rules
use Rattle.rule_calls.specs.Openings.{Tells, TellsCall, TellsLocal, opened_by}

-- an error, as the answer of an opening
told_as : (found told : ExecError) → ◌≡◌ {A = Result Effect ExecError} (Err found) (Err told) → ◌≡◌ {A = Result Ticket ExecError} (Err told) (Err found)
told_as found told is = let same : found ≡ told = cc in ap Err (sym same)

module _ (old new : Tickets) (owner : Owner) (number : ℕ) where
  module _ (m x c : ℕ) (w : Work) where
    abbrev call_told : Result Effect (ℕ × StmtError) → Result Ticket ExecError
    call_told r = opened_by (rules.new_call number old.opens (new_ticket old) m x c w r).act

    abbrev call_free : Effect → Option (RowKey × Ticket) → Result Ticket ExecError
    call_free e b = opened_by (rules.free_call number (new_ticket old) m x c w e b).act

    call_busy : (e : Effect) (why : ExecError) (b : Option (RowKey × Ticket)) → unless_busy e b ≡ Err why → Err why ≡ call_free e b
    call_busy e why (Some (key, other)) is = told_as (error.Busy key other) why is
    call_busy e why None is = absurd cc

    call_refused : (r : Result Effect (ℕ × StmtError)) (why : ExecError) → free_effect old.opens r ≡ Err why → Err why ≡ call_told r
    call_refused (Err (index, cause)) why is = told_as (error.Stmt index cause) why is
    call_refused (Ok e) why is = call_busy e why (busy_row old.opens e) is

    call_by : (r : Result Effect (ℕ × StmtError)) (result : Result Ticket ExecError) → Executes old owner r result new → Tells (rules.new_call number old.opens (new_ticket old) m x c w r).act result
    call_by r (Ok t) e = ap Ok e.ticket ∙ sym (ap call_told e.means ∙ ap (call_free e.effect) e.free)
    call_by r (Err error.NoMemory) e = tt
    call_by r (Err (error.Stmt index cause)) e = call_refused r (error.Stmt index cause) e.0
    call_by r (Err (error.Busy key other)) e = call_refused r (error.Busy key other) e.0

  module _ (k : ℕ) where
    abbrev local_told : Result Effect (ℕ × StmtError) → Result Ticket ExecError
    local_told r = opened_by (rules.local_meant number old.opens (new_ticket old) k r).act

    abbrev local_free : Effect → Option (RowKey × Ticket) → Result Ticket ExecError
    local_free e b = opened_by (rules.local_free number (new_ticket old) k e b).act

    local_busy : (e : Effect) (why : ExecError) (b : Option (RowKey × Ticket)) → unless_busy e b ≡ Err why → Err why ≡ local_free e b
    local_busy e why (Some (key, other)) is = told_as (error.Busy key other) why is
    local_busy e why None is = absurd cc

    local_refused : (r : Result Effect (ℕ × StmtError)) (why : ExecError) → free_effect old.opens r ≡ Err why → Err why ≡ local_told r
    local_refused (Err (index, cause)) why is = told_as (error.Stmt index cause) why is
    local_refused (Ok e) why is = local_busy e why (busy_row old.opens e) is

    local_by : (r : Result Effect (ℕ × StmtError)) (result : Result Ticket ExecError) → Executes old owner r result new → Tells (rules.local_meant number old.opens (new_ticket old) k r).act result
    local_by r (Ok t) e = ap Ok e.ticket ∙ sym (ap local_told e.means ∙ ap (local_free e.effect) e.free)
    local_by r (Err error.NoMemory) e = tt
    local_by r (Err (error.Stmt index cause)) e = local_refused r (error.Stmt index cause) e.0
    local_by r (Err (error.Busy key other)) e = local_refused r (error.Busy key other) e.0

pub tells_call : (old new : Tickets) (owner : Owner) (m x c : ℕ) (w : Work) (r : Result Effect (ℕ × StmtError)) (result : Result Ticket ExecError)
    → Executes old owner r result new → TellsCall old m x c w r result
tells_call old new owner m x c w r result e = λ number. call_by old new owner number m x c w r result e

pub tells_local : (old new : Tickets) (owner : Owner) (k : ℕ) (r : Result Effect (ℕ × StmtError)) (result : Result Ticket ExecError)
    → Executes old owner r result new → TellsLocal old k r result
tells_local old new owner k r result e = λ number. local_by old new owner number k r result e

-- a Try has no rows at its opening, so none of them is open
pub tells_try : (old new : Tickets) (owner : Owner) (m x c : ℕ) (w : Work) (result : Result Ticket NoMemory) → Prepares old owner result new
    → IfOk result (λ t. TellsCall old m x c w (Ok no_effect) (Ok t))
tells_try old new owner m x c w (Ok t) e = λ number. ap Ok e.0
tells_try old new owner m x c w (Err e) same = tt
