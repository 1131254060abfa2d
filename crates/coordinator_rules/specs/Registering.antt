-- A registration before its rows are looked at, and by what was found of them.
use Rattle.std.specs.Prelude.{◌≡◌, ℕ, ◌+◌, ◌++◌, true, false, List, Option, Some, None}
use Rattle.seata_types.specs.declared.ids.Leg.{Leg}
use Rattle.seata_types.specs.declared.ids.Place.{Place}
use Rattle.seata_types.specs.declared.ids.Xid.{Xid}
use Rattle.seata_types.specs.declared.messages.Input.TheVariants as input
use Rattle.seata_types.specs.declared.messages.Message.{Message}
use Rattle.seata_types.specs.declared.messages.Message.TheVariants as message
use Rattle.seata_types.specs.declared.messages.Step.{Step}
use Rattle.seata_types.specs.declared.rows.RowKey.{RowKey}
use Rattle.session_log.specs.declared.sessions.RegisterPlace.{RegisterPlace}
use Rattle.session_log.specs.declared.sessions.Snapshot.{Snapshot}
use Rattle.lock_table.specs.Locks.{first_held}
use Rattle.session_memory.specs.Changes.{granted_record, is_begin}
use Rattle.session_memory.specs.Holding.{held_in}
use Rattle.session_memory.specs.Lookups.{session_in, status_in}
use Rattle.coordinator_rules.specs.Answers.{Hears, IsSentBy, answer}
use Rattle.coordinator_rules.specs.Choices.{has_passed_in, is_rolling, leg_in}
use Rattle.coordinator_rules.specs.Steps.{conflict_step, granted_step}
use Rattle.coordinator_rules.specs.declared.answers.Answer.{Answer}

-- the message that registers a branch
abbrev pub registers : Xid → RegisterPlace → (hold check : List RowKey) → Message
registers xid p hold check = message.Register xid p.resource p.call p.ticket p.kind hold check

-- it goes by its rows: nothing is registered for it, and its transaction can be decided and is in time
pub record GoesByRows (s : Snapshot) (xid : Xid) (p : RegisterPlace) (now : ℕ) : Type 0 where
  pub new : leg_in s xid p ≡ None
  pub begins : is_begin (status_in s xid.0) ≡ true
  pub timely : has_passed_in (session_in s xid.0) now ≡ false

-- it is answered whatever its rows are, or goes by them
abbrev pub IsAnsweredFirst : Snapshot → Xid → RegisterPlace → ℕ → Option Answer → Type 0
IsAnsweredFirst s xid p now (Some a) = (hold check : List RowKey) → Hears s (registers xid p hold check) now a
IsAnsweredFirst s xid p now None = GoesByRows s xid p now

-- the branch is registered under the next number
abbrev pub next_leg : Snapshot → Xid → Leg
next_leg s xid = record { xid = xid; branch = record { 0 = s.granted + 1 } }

abbrev pub granted_answer : Snapshot → Xid → RegisterPlace → List RowKey → Answer
granted_answer s xid p hold = answer (Some (granted_record xid (s.granted + 1) p hold)) (granted_step p (next_leg s xid))

-- another transaction holds a row
abbrev pub IsConflict : Snapshot → RegisterPlace → Xid → RowKey → Xid → Step → Type 0
IsConflict s p xid key by step = step ≡ conflict_step p xid key by (is_rolling (status_in s by.0))

abbrev pub conflict_answer : Snapshot → Xid → RegisterPlace → RowKey → Xid → Answer
conflict_answer s xid p key by = answer None (conflict_step p xid key by (is_rolling (status_in s by.0)))

-- by the first row that another transaction holds
abbrev pub rows_answer : Snapshot → Xid → RegisterPlace → List RowKey → Option (RowKey × Xid) → Answer
rows_answer s xid p hold None = granted_answer s xid p hold
rows_answer s xid p hold (Some (key, by)) = conflict_answer s xid p key by

-- the answer goes by the first row, of those to hold and then those to check, that another transaction holds
abbrev pub IsByRows : Snapshot → Xid → RegisterPlace → (hold check : List RowKey) → Answer → Type 0
IsByRows s xid p hold check a = a ≡ rows_answer s xid p hold (first_held (held_in s) xid (hold ++ check))

-- what it sends to a message can be sent, wherever the message came from
abbrev pub IsSentBack : Message → Answer → Type 0
IsSentBack heard a = (from : Place) → IsSentBy (input.Message from heard) a.step
