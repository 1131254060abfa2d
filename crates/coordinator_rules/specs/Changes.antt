-- What one more record does to the moments that a coordinator keeps.
use Rattle.std.specs.Prelude.{◌≡◌, ℕ, ◌+◌, true, false, Bool}
use Rattle.durable_records.specs.declared.coordinators.SessionRecord.{SessionRecord}
use Rattle.durable_records.specs.declared.coordinators.SessionRecord.TheVariants as log
use Rattle.retry_turns.specs.Plans.{Plans, is_planned, with_plan, without_plan}
use Rattle.session_memory.specs.Changes.{may_come, after}
use Rattle.coordinator_rules.specs.declared.moments.Moments.{Moments}
use Rattle.coordinator_rules.specs.Knowledge.{Knowledge, SameTimes}

-- ---- before a record

-- a decided transaction is planned, and a finished one rests
abbrev pub prepared : SessionRecord → ℕ → Moments → Moments
prepared (log.Decided xid how) now m = record m { turns = with_plan m.turns xid.0 now }
prepared (log.Finished xid) now m = record m { rests = with_plan m.rests xid.0 now }
prepared _ now m = m

-- neither, where the record isn't made
abbrev pub withdrawn : SessionRecord → Moments → Moments
withdrawn (log.Decided xid how) m = record m { turns = without_plan m.turns xid.0 }
withdrawn (log.Finished xid) m = record m { rests = without_plan m.rests xid.0 }
withdrawn _ m = m

-- ---- after a record

-- a transaction goes on at once where a branch is ended, and `retry` ticks later where one is to be asked again; it is
-- planned no more once it failed or is finished, and doesn't rest once it is forgotten
abbrev pub settled : (retry now : ℕ) → SessionRecord → Moments → Moments
settled retry now (log.Ended xid branch) m = record m { turns = with_plan m.turns xid.0 now }
settled retry now (log.Retrying xid) m = record m { turns = with_plan m.turns xid.0 (now + retry) }
settled retry now (log.Failed xid branch stmt) m = record m { turns = without_plan m.turns xid.0 }
settled retry now (log.Finished xid) m = record m { turns = without_plan m.turns xid.0 }
settled retry now (log.Forgot xid) m = record m { rests = without_plan m.rests xid.0 }
settled retry now _ m = m

-- a planned transaction is planned for this moment
abbrev pub Replans : (x at : ℕ) → (old new : Plans) → Type 0
Replans x at old new = is_planned old x ≡ true → new ≡ with_plan old x at

-- the transaction that a record plans anew is planned
abbrev pub IsPlannedFor : SessionRecord → Plans → Type 0
IsPlannedFor (log.Ended xid branch) ps = is_planned ps xid.0 ≡ true
IsPlannedFor (log.Retrying xid) ps = is_planned ps xid.0 ≡ true
IsPlannedFor _ ps = Unit {0}

-- after a record that isn't made: where the disks failed as they took it, it is known
abbrev pub GivesUp : (failed : Bool) → (retry now : ℕ) → SessionRecord → Moments → Moments → Type 0
GivesUp true retry now r old new = IsPlannedFor r old.turns → new ≡ settled retry now r old
GivesUp false retry now r old new = new ≡ withdrawn r old

-- ---- a record is made

-- the record may come, and the memory and the moments are those with it; the settings stay
pub record Makes (old new : Knowledge) (r : SessionRecord) (now : ℕ) : Type 0 where
  pub may : may_come old.memory r ≡ true
  pub memory : new.memory ≡ after r old.memory
  pub moments : IsPlannedFor r old.moments.turns → new.moments ≡ settled old.retry now r (prepared r now old.moments)
  pub same : SameTimes old new

-- transaction x is planned `retry` ticks later, and all else stays
pub record PlansAgain (old new : Knowledge) (x now : ℕ) : Type 0 where
  pub turns : new.moments.turns ≡ with_plan old.moments.turns x (now + old.retry)
  pub rests : new.moments.rests ≡ old.moments.rests
  pub memory : new.memory ≡ old.memory
  pub same : SameTimes old new
