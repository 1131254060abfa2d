-- Histories one after the other on the same disks.
use Rattle.std.specs.Prelude.{◌≡◌, ℕ, zero, suc, List, [], ◌∷◌, Option, Some, None}
use Rattle.durable_records.specs.declared.resources.ResourceRecord.{ResourceRecord}
use Rattle.history_rules.specs.ResourceMemory.{Setup, boot_over}
use Rattle.history_rules.specs.Nodes.{World, Past, MayStand, counted_at}
use Rattle.history_rules.specs.Histories.{Moment, Legal, coordinator_left, memory_at}

-- the records that stand at resource n after a history, by its setup; none where there is no such resource
abbrev pub records_of : World → Past → List Moment → ℕ → Option Setup → List ResourceRecord
records_of w past ms n None = []
records_of w past ms n (Some s) = (memory_at past s ms).left.records

-- the records that stand after a history
abbrev pub past_after : World → Past → List Moment → Past
past_after w past ms = record {
  sessions = (coordinator_left past ms).records;
  resource = λ n. records_of w past ms n (counted_at w.resources n);
}

-- these records and so many boots after them
abbrev pub with_boots : ℕ → List ResourceRecord → List ResourceRecord
with_boots zero rs = rs
with_boots (suc n) rs = boot_over (with_boots n rs) ∷ with_boots n rs

-- what the disks may have after a history: of each node what may stand there, and at a resource boots that came to no entry
pub record MayLeave (w : World) (past : Past) (ms : List Moment) (next : Past) : Type 0 where
  pub coordinator : MayStand (coordinator_left past ms) next.sessions
  pub resources : (n : ℕ) (s : Setup) → counted_at w.resources n ≡ Some s → (rs : List ResourceRecord) × (boots : ℕ)
      × MayStand (memory_at past s ms).left rs × (next.resource n ≡ with_boots boots rs)

-- no records, but at a resource boots of openings that came to no entry
pub record IsBlankPast (past : Past) : Type 0 where
  pub sessions : past.sessions ≡ []
  pub resources : (n : ℕ) → (boots : ℕ) × (past.resource n ≡ with_boots boots [])

-- histories, the last one first, each with the records that its disks had: the first had none but such boots, and each later
-- one what the one before may leave
abbrev pub IsChain : World → List (Past × List Moment) → Type 0
IsChain w [] = Unit {0}
IsChain w ((past, ms) ∷ []) = IsBlankPast past × Legal w past ms
IsChain w ((next, ms) ∷ (past, before) ∷ rest) = IsChain w ((past, before) ∷ rest) × MayLeave w past before next × Legal w next ms
