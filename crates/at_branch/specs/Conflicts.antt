-- What a conflict over the global lock does to an open ticket of a call, by the act that a resource answers by its rules.
use Rattle.std.specs.Prelude.{◌≡◌, ℕ, Bool, List, map, Option, Some}
use Rattle.seata_types.specs.declared.acts.Act.{Act}
use Rattle.seata_types.specs.declared.acts.Act.TheVariants as act
use Rattle.seata_types.specs.declared.errors.Why.{Why}
use Rattle.seata_types.specs.declared.ids.Place.TheVariants as place
use Rattle.seata_types.specs.declared.ids.Ticket.{Ticket}
use Rattle.seata_types.specs.declared.ids.Xid.{Xid}
use Rattle.seata_types.specs.declared.messages.Input.{Input}
use Rattle.seata_types.specs.declared.messages.Input.TheVariants as input
use Rattle.seata_types.specs.declared.messages.Message.TheVariants as message
use Rattle.seata_types.specs.declared.messages.Registered.TheVariants as registered
use Rattle.seata_types.specs.declared.rows.RowKey.{RowKey}
use Rattle.local_txn.specs.OpenTickets.{Open, without, counting, open_at}
use Rattle.local_txn.specs.Answers.{Tickets, open_of, with_opens}
use Rattle.history_rules.specs.ResourceMemory.{Setup, Memory}
use Rattle.history_rules.specs.ResourceRules.{resource_answer}
use Rattle.at_branch.specs.declared.answers.Conflicted.{Conflicted}
use Rattle.at_branch.specs.declared.answers.Conflicted.TheVariants as conflicted

-- a conflict is ignored, counted, or the last one of its ticket
pub data Conflict : Type 0 where
  Ignores : Conflict
  Counts : ℕ → Conflict
  GivesUp : Open → Why → Conflict

-- the coordinator refuses a ticket the row of this key
abbrev pub refusing : Ticket → (xid : Xid) → RowKey → (holder : Xid) → (rolling : Bool) → Input
refusing t xid key holder rolling = input.Message place.Tc (message.RegisterAnswer t xid (registered.Conflict key holder rolling))

-- a conflict: counted, given up where the ticket is dropped, else ignored
abbrev pub conflict_by : Option Open → Act → Conflict
conflict_by (Some o) (act.Conflicted t n) = Counts n
conflict_by (Some o) (act.Dropped xid call t cause) = GivesUp o cause
conflict_by _ _ = Ignores

-- the code's answer in these words
abbrev pub conflict_of : Conflicted → Conflict
conflict_of (conflicted.Waits n) = Counts n
conflict_of (conflicted.GaveUp txn cause) = GivesUp (open_of txn) cause
conflict_of conflicted.NotOpen = Ignores

-- a conflict of a ticket, for any row, is answered as by a resource with so many tries that has these open
abbrev pub ConflictsAs : (tries : ℕ) → (holder : Xid) → (rolling : Bool) → List Open → Ticket → Conflicted → Type 0
ConflictsAs tries holder rolling opens t result =
    (s : Setup) (m : Memory) (xid : Xid) (key : RowKey) → s.tries ≡ tries → m.opens ≡ opens
    → conflict_of result ≡ conflict_by (open_at opens t) (resource_answer s m (refusing t xid key holder rolling)).act

-- the open tickets after it
abbrev pub tickets_with : Ticket → Conflict → Tickets → Tickets
tickets_with t Ignores old = old
tickets_with t (Counts n) old = with_opens old (map (counting t n) old.opens)
tickets_with t (GivesUp o cause) old = with_opens old (without old.opens t)
