-- How many tickets are opened by a call.
use Rattle.std.proofs.Common.{◌≡◌, ◌+◌, ◌≤◌, ℕ, true, Some, is_some, cond, Result, Ok, Err, ap, sym, ◌∙◌, arith}
use Rattle.seata_types.specs.declared.errors.StmtError.{StmtError}
use Rattle.seata_types.specs.declared.ids.Ticket.{Ticket}
use Rattle.local_tables.specs.declared.schemas.Effect.{Effect}
use Rattle.local_txn.specs.declared.transactions.ExecError.{ExecError}
use Rattle.local_txn.specs.declared.transactions.ExecError.TheVariants as error
use Rattle.local_txn.specs.OpenTickets.{Owner, open_at, opening_of}
use Rattle.local_txn.specs.Answers.{Tickets, last_ticket, Executed, Executes}
use Rattle.local_txn.proofs.Tests.{ticket_itself}

pub execute_opens : (old new : Tickets) (owner : Owner) (m : Result Effect (ℕ × StmtError)) (r : Result Ticket ExecError) → Executes old owner m r new → new.opened ≤ old.opened + 1
execute_opens old new owner m (Ok t) e = let k : new.opened ≡ old.opened + 1 = ap (λ (u : Tickets). u.opened) e.opens in omega (arith, k)
execute_opens old new owner m (Err (error.Stmt index why)) e = let k : new.opened ≡ old.opened = ap (λ (u : Tickets). u.opened) e.1 in omega (arith, k)
execute_opens old new owner m (Err (error.Busy key by)) e = let k : new.opened ≡ old.opened = ap (λ (u : Tickets). u.opened) e.1 in omega (arith, k)
execute_opens old new owner m (Err error.NoMemory) e = let k : new.opened ≡ old.opened = ap (λ (u : Tickets). u.opened) e in omega (arith, k)

-- a ticket that was just opened is the last one, and open
module _ (old new : Tickets) (owner : Owner) (m : Result Effect (ℕ × StmtError)) (t : Ticket) (e : Executed old owner m t new) where
  pub is_last : t ≡ last_ticket new
  is_last = e.ticket ∙ ap last_ticket (sym e.opens)

  pub is_open : is_some (open_at new.opens t) ≡ true
  is_open =
      ap (λ (u : Tickets). is_some (open_at u.opens t)) e.opens
      ∙ ap (λ b. is_some (cond b (Some (opening_of t owner e.effect)) (open_at old.opens t))) (ticket_itself t)
