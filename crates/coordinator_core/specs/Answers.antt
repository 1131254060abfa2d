-- What an answer of the coordinator's table promises.
use Rattle.std.specs.Prelude.{◌≡◌, ◌≤◌, ℕ, Bool, true, false, List, Some, Result, Ok, Err, IfOk}
use Rattle.std.specs.List.{list_all}
use Rattle.disk_model.specs.Disk.{DiskState}
use Rattle.seata_types.specs.declared.acts.Act.{Act}
use Rattle.seata_types.specs.declared.acts.Act.TheVariants as act
use Rattle.seata_types.specs.declared.acts.Durable.{Durable}
use Rattle.seata_types.specs.declared.errors.Full.{Full}
use Rattle.seata_types.specs.declared.errors.NodeError.{NodeError}
use Rattle.seata_types.specs.declared.errors.NodeError.TheVariants as error
use Rattle.seata_types.specs.declared.errors.StoreError.{StoreError}
use Rattle.seata_types.specs.declared.errors.StoreError.TheVariants as store_error
use Rattle.seata_types.specs.declared.limits.TheConstants.{MANAGERS}
use Rattle.seata_types.specs.declared.messages.Input.{Input}
use Rattle.seata_types.specs.declared.messages.Step.{Step}
use Rattle.durable_records.specs.declared.coordinators.SessionRecord.{SessionRecord}
use Rattle.durable_records.specs.SessionOrder.{is_within}
use Rattle.history_rules.specs.Own.{Event, Given}
use Rattle.history_rules.specs.CoordinatorMemory.{session_record}
use Rattle.node_steps.specs.Framing.{ComesFramable, SendsFramable}
use Rattle.node_steps.specs.Promises.{own_step}
use Rattle.session_memory.specs.Changes.{may_come}
use Rattle.session_store.specs.declared.sessions.Sessions.{Sessions}
use Rattle.session_store.specs.Keeping.{managers_of, resources_of, Adds, Loses, HasNoRoom}
use Rattle.coordinator_core.specs.declared.table.Table.{Table}
use Rattle.coordinator_core.specs.Knowledge.{Knowledge, SameTimes, knowledge, times_in}
use Rattle.coordinator_rules.specs.Changes.{Makes}
use Rattle.coordinator_rules.specs.Naming.{ComesNamed, IsNamed}
use Rattle.coordinator_rules.specs.Tracks.{Course, with_own, rule_answer, Follows, records}

-- ---- what is known

-- an act that a rule answers with
abbrev pub is_answer : Act → Bool
is_answer (act.Down kept at) = false
is_answer (act.Restarted kept) = false
is_answer act.Armed = false
is_answer _ = true

-- the step is the rule's answer, and what is known is then that of the entries with the step's own
abbrev pub TakesAfter : Course → (old new : Knowledge) → Input → ℕ → Step → Type 0
TakesAfter owns old new given now step =
    (step ≡ rule_answer (times_in old) owns now given) × Follows new (with_own (own_step given now step) owns) × (is_answer step.act ≡ true)

-- where Applies holds of the own entries, the answer is the rule's
pub record IsAnswered (Applies : Course → Type 0) (old new : Knowledge) (given : Input) (now : ℕ) (step : Step) : Type 0 where
  pub takes : (owns : Course) → Follows old owns → Applies owns → TakesAfter owns old new given now step
  pub same : SameTimes old new

-- there is no answer, and what is known is that of all that it was of
pub record IsUnanswered (old new : Knowledge) : Type 0 where
  pub stands : (owns : Course) → Follows old owns → Follows new owns
  pub same : SameTimes old new

-- ---- records

-- a durable act's record is on the disks; at another act nothing of them changed
abbrev pub Puts : {D : Type 0} → (D → DiskState) → Event → ℕ → Act → Sessions D → Sessions D → Type 0
Puts state event now (act.Durable done) old new = (r : SessionRecord) × (session_record now event done ≡ Some r) × Adds state r old new
Puts state event now _ old new = new ≡ old

-- it would be answered by a step with this act, which asks for this record
pub record WouldMake (Applies : Course → Type 0) (old new : Knowledge) (given : Input) (now : ℕ) (done : Durable) (r : SessionRecord) : Type 0 where
  pub step : Step
  pub durable : step.act ≡ act.Durable done
  pub asked : session_record now (Given given) done ≡ Some r
  pub answered : IsAnswered Applies old new given now step

-- the disks failed as they took the record
pub record IsCut {D : Type 0} (state : D → DiskState) (Applies : Course → Type 0) (old new : Table D) (given : Input) (now : ℕ) (done : Durable) : Type 0 where
  pub r : SessionRecord
  pub due : WouldMake Applies (knowledge old) (knowledge new) given now done r
  pub loses : Loses state r old.sessions new.sessions

-- the record doesn't fit, and nothing changed
pub record IsOver {D : Type 0} (state : D → DiskState) (Applies : Course → Type 0) (old new : Table D) (given : Input) (now : ℕ) (full : Full) : Type 0 where
  pub done : Durable
  pub r : SessionRecord
  pub after : Knowledge
  pub due : WouldMake Applies (knowledge old) after given now done r
  pub no_room : HasNoRoom state r old.sessions full
  pub unanswered : IsUnanswered (knowledge old) (knowledge new)
  pub sessions : new.sessions ≡ old.sessions

-- ---- answers

-- the table answered, or the disks failed, or the record doesn't fit, or memory was refused
abbrev pub AnswersWhere : {D : Type 0} → (D → DiskState) → (Course → Type 0) → Table D → Table D → Input → ℕ → Result Step NodeError → Type 0
AnswersWhere state Applies old new given now (Ok step) =
    IsAnswered Applies (knowledge old) (knowledge new) given now step × Puts state (Given given) now step.act old.sessions new.sessions
AnswersWhere state Applies old new given now (Err (error.Failed done)) = IsCut state Applies old new given now done
AnswersWhere state Applies old new given now (Err (error.Full full)) = IsOver state Applies old new given now full
AnswersWhere state Applies old new given now (Err error.NoMemory) = IsUnanswered (knowledge old) (knowledge new) × (new.sessions ≡ old.sessions)

-- a step names nodes of the table's scenario
abbrev pub IsNamedBy : {D : Type 0} → Table D → Step → Type 0
IsNamedBy t step = IsNamed (managers_of t.sessions) (resources_of t.sessions) step

-- What the table does at an input, by the rules where Applies holds of the own entries: what it sends can be framed where the input
-- came so, and names nodes of its scenario where the input does.
pub record Answers {D : Type 0} (state : D → DiskState) (Applies : Course → Type 0) (old new : Table D) (given : Input) (now : ℕ) (result : Result Step NodeError) : Type 0 where
  pub answers : AnswersWhere state Applies old new given now result
  pub framable : ComesFramable given → IfOk result SendsFramable
  pub named : ComesNamed (managers_of old.sessions) (resources_of old.sessions) given → IfOk result (IsNamedBy old)

-- ---- where the rules apply

-- these records are of a scenario with so many managers and resources, and a message may have the number of each manager
pub record AreWithin (managers resources : ℕ) (rs : List SessionRecord) : Type 0 where
  pub few : managers ≤ MANAGERS
  pub within : list_all (is_within managers resources) rs ≡ true

-- the records that stand are of the table's scenario
abbrev pub IsWithin : {D : Type 0} → Table D → Course → Type 0
IsWithin t owns = AreWithin (managers_of t.sessions) (resources_of t.sessions) (records owns)

-- ---- one record

-- why it isn't made though it may come: the disks failed, or it doesn't fit, or memory was refused
abbrev pub IsUnmade : {D : Type 0} → (D → DiskState) → Table D → Table D → SessionRecord → ℕ → StoreError → Type 0
IsUnmade state old new r now store_error.Failed = Makes (knowledge old) (knowledge new) r now × Loses state r old.sessions new.sessions
IsUnmade state old new r now (store_error.Full full) =
    (may_come (knowledge old).memory r ≡ true) × HasNoRoom state r old.sessions full
    × IsUnanswered (knowledge old) (knowledge new) × (new.sessions ≡ old.sessions)
IsUnmade state old new r now store_error.NoMemory = IsUnanswered (knowledge old) (knowledge new) × (new.sessions ≡ old.sessions)

-- a record that may come was added, or isn't made
abbrev pub AddsOn : {D : Type 0} → (D → DiskState) → Table D → Table D → SessionRecord → ℕ → Result (Unit {0}) StoreError → Type 0
AddsOn state old new r now (Ok done) = Makes (knowledge old) (knowledge new) r now × Adds state r old.sessions new.sessions
AddsOn state old new r now (Err error) = IsUnmade state old new r now error
