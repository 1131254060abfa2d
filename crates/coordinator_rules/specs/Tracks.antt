-- What a coordinator knows after its own entries.
use Rattle.std.specs.Prelude.{◌≡◌, ℕ, if◌then◌else◌, List, ◌∷◌, Some, None}
use Rattle.seata_types.specs.declared.messages.Input.{Input}
use Rattle.seata_types.specs.declared.messages.Step.{Step}
use Rattle.durable_records.specs.declared.coordinators.SessionRecord.{SessionRecord}
use Rattle.durable_records.specs.Progress.{is_going, is_finished}
use Rattle.durable_records.specs.SessionOrder.{Allowed}
use Rattle.history_rules.specs.Own.{Own}
use Rattle.history_rules.specs.CoordinatorMemory.{Times, sessions_left, start, due, rests_since}
use Rattle.history_rules.specs.CoordinatorRules.{coordinator_answer}
use Rattle.retry_turns.specs.Plans.{Plans, moment_of}
use Rattle.session_log.specs.declared.sessions.Snapshot.{Snapshot}
use Rattle.session_log.specs.SnapshotOf.{snapshot_of}
use Rattle.session_memory.specs.Order.{AreRising}
use Rattle.coordinator_rules.specs.declared.moments.Moments.{Moments}
use Rattle.coordinator_rules.specs.Knowledge.{Knowledge}

-- own entries of a coordinator, over the records that its disks had before
pub record Course : Type 0 where
  pub past : List SessionRecord
  pub owns : List Own

-- one entry more
abbrev pub with_own : Own → Course → Course
with_own o c = record { past = c.past; owns = o ∷ c.owns }

-- the records that stand
abbrev pub records : Course → List SessionRecord
records c = (sessions_left c.past c.owns).records

-- when a transaction is due, and since when it rests
abbrev pub due_on : (retry : ℕ) → Course → ℕ → ℕ
due_on retry c x = due retry (start c.past) c.owns x

abbrev pub rests_on : Course → ℕ → ℕ
rests_on c x = rests_since (start c.past) c.owns x

-- the answer of the coordinator's rule
abbrev pub rule_answer : Times → Course → ℕ → Input → Step
rule_answer times c now given = coordinator_answer times c.past c.owns (records c) now given

-- the number of a plan
abbrev pub planned_xid : ℕ × ℕ → ℕ
planned_xid p = p.0

abbrev pub AreInOrder : Plans → Type 0
AreInOrder ps = AreRising planned_xid ps

-- the memory is the snapshot of these records; each transaction in its second phase is planned for its due moment, and each
-- finished one rests since its moment
pub record Tracks (memory : Snapshot) (moments : Moments) (rs : List SessionRecord) (due_at rested : ℕ → ℕ) : Type 0 where
  pub allowed : Allowed rs
  pub known : memory ≡ snapshot_of rs
  pub turns_in_order : AreInOrder moments.turns
  pub rests_in_order : AreInOrder moments.rests
  pub planned : (x : ℕ) → moment_of moments.turns x ≡ (if is_going rs x then Some (due_at x) else None)
  pub resting : (x : ℕ) → moment_of moments.rests x ≡ (if is_finished rs x then Some (rested x) else None)

-- it is what is known after these own entries
pub record Follows (k : Knowledge) (c : Course) : Type 0 where
  pub tracks : Tracks k.memory k.moments (records c) (due_on k.retry c) (rests_on c)
