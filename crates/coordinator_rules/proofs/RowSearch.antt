-- The first row that another transaction holds, of those to hold and then those to check, and what looking for it costs.
use Rattle.std.proofs.Common.{◌≡◌, ◌<◌, ◌≤◌, ◌+◌, ◌*◌, ◌^◌, ℕ, List, ◌++◌, Option, None, Result, Ok, Err, sym, subst, arith}
use Rattle.std.specs.Prelude.{IfOk, IfSome}
use Rattle.seata_types.specs.declared.copies.NoMemory.{NoMemory}
use Rattle.seata_types.specs.declared.ids.Place.{Place}
use Rattle.seata_types.specs.declared.ids.Ticket.{Ticket}
use Rattle.seata_types.specs.declared.ids.Xid.{Xid}
use Rattle.seata_types.specs.declared.messages.Input.TheVariants as input
use Rattle.seata_types.specs.declared.messages.Message.TheVariants as message
use Rattle.seata_types.specs.declared.rows.RowKey.{RowKey}
use Rattle.history_rules.specs.CoordinatorMemory.{Times}
use Rattle.lock_table.specs.Locks.{first_held}
use Rattle.session_log.specs.declared.sessions.RegisterPlace.{RegisterPlace}
use Rattle.session_log.specs.declared.sessions.Snapshot.{Snapshot}
use Rattle.session_memory.specs.Holding.{held_in}
use Rattle.coordinator_rules.specs.declared.answers.Answer.{Answer}
use Rattle.coordinator_rules.specs.declared.moments.Moments.{Moments}
use Rattle.coordinator_rules.specs.Answers.{Answers, Hears, IsSentBy, answer}
use Rattle.coordinator_rules.specs.Choices.{nobody}
use Rattle.coordinator_rules.specs.Framing.{SendsFramable}
use Rattle.coordinator_rules.specs.Knowledge.{knows}
use Rattle.coordinator_rules.specs.Naming.{NamesResource}
use Rattle.coordinator_rules.specs.Registering.{GoesByRows, granted_answer, registers, rows_answer}
use Rattle.coordinator_rules.specs.Steps.{IsFramableRow, held_step}
use Rattle.coordinator_rules.proofs.TakesRows.{goes_by_rows, queries, to_asker}

-- ---- a branch that is registered

module _ (s : Snapshot) (xid : Xid) (p : RegisterPlace) (hold check : List RowKey) where
  pub granted_rows : (result : Result Answer NoMemory) → first_held (held_in s) xid (hold ++ check) ≡ None → IfOk result (λ a. a ≡ granted_answer s xid p hold)
      → IfOk result (λ a. a ≡ rows_answer s xid p hold (first_held (held_in s) xid (hold ++ check)))
  granted_rows (Ok a) free is = subst (λ (o : Option (RowKey × Xid)). a ≡ rows_answer s xid p hold o) (sym free) is
  granted_rows (Err e) free is = tt

  pub granted_sent : (result : Result Answer NoMemory) → IfOk result (λ a. SendsFramable a.step) → IfOk result (λ a. NamesResource p.resource a.step)
      → IfOk result (λ a. (from : Place) → IsSentBy (input.Message from (registers xid p hold check)) a.step)
  granted_sent (Ok a) framable named = λ from. to_asker from xid p hold check a.step framable named
  granted_sent (Err e) framable named = tt

-- ---- steps

-- two look-ups before the rows, and one after them
pub rows_cost : (h q n first middle now : ℕ) → middle ≤ first + 2 → ((d : ℕ) → n < 2 ^ d → now ≤ middle + 1 + (h + q) * d) → (d : ℕ) → n < 2 ^ d → now ≤ first + 3 + (h + q) * d
rows_cost h q n first middle now before rows d small = let bound : now ≤ middle + 1 + (h + q) * d = rows d small in omega (arith, before, bound)

-- ---- where there is memory for it

pub rows_ok : (s : Snapshot) (xid : Xid) (p : RegisterPlace) (hold check : List RowKey) (now : ℕ) → now < 2 ^ 64 → GoesByRows s xid p now → (result : Result Answer NoMemory)
    → IfOk result (λ a. a ≡ rows_answer s xid p hold (first_held (held_in s) xid (hold ++ check))) → IfOk result (λ a. (from : Place) → IsSentBy (input.Message from (registers xid p hold check)) a.step)
    → IfOk result (Hears s (registers xid p hold check) now)
rows_ok s xid p hold check now in_time g (Ok a) value out = λ times m from. goes_by_rows (knows times s m) now from xid p hold check g in_time a value (out from)
rows_ok s xid p hold check now in_time g (Err e) value out = tt

pub query_ok : (s : Snapshot) (now : ℕ) (from : Place) (resource : ℕ) (ticket : Ticket) (check : List RowKey) (found : Option (RowKey × Xid)) → first_held (held_in s) nobody check ≡ found → (result : Result Answer NoMemory)
    → IfOk result (λ a. a ≡ answer None (held_step from ticket found)) → (IfSome found IsFramableRow → IfOk result (λ a. SendsFramable a.step))
    → IfOk result (λ a. (times : Times) (m : Moments) → Answers (knows times s m) (input.Message from (message.LockQuery resource ticket check)) now a)
query_ok s now from resource ticket check found there (Ok a) value framable = λ times m. queries (knows times s m) now from resource ticket check found there a value framable
query_ok s now from resource ticket check found there (Err e) value framable = tt
