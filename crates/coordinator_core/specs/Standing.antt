-- What a coordinator keeps of its own entries, in memory and on its disks.
use Rattle.std.specs.Prelude.{◌≡◌, ◌⊎◌, ◌||◌, ◌-◌, ◌≤◌, ◌^◌, ℕ, min, Bool, true, false, List, ◌∷◌, length, count_by, Option, Some}
use Rattle.disk_model.specs.Disk.{DiskState}
use Rattle.disk_model.specs.Stop.{state_of}
use Rattle.disk_model.specs.declared.stoppable.Stoppable.{Stoppable}
use Rattle.journal_checkpoint.specs.Extents.{Extent}
use Rattle.journal_checkpoint.specs.Images.{Pair}
use Rattle.journal_checkpoint.specs.Keeping.{active_disk, first_disk, second_disk, needed_for}
use Rattle.seata_types.specs.declared.ids.Place.TheVariants as place
use Rattle.seata_types.specs.declared.limits.TheConstants.{MANAGERS}
use Rattle.seata_types.specs.declared.messages.Input.{Input}
use Rattle.durable_records.specs.declared.coordinators.SessionRecord.{SessionRecord}
use Rattle.durable_records.specs.Transactions.{Session, sessions}
use Rattle.durable_records.specs.Progress.{may_decide, is_going}
use Rattle.session_store.specs.declared.sessions.Sessions.{Sessions}
use Rattle.session_store.specs.Keeping.{managers_of, resources_of, twin, is_down as sessions_down, StandsFor, KeepsRecords}
use Rattle.history_rules.specs.Own.{Own, Left}
use Rattle.history_rules.specs.Devices.{calls_left, fault_entries, in_flight, is_down as down_by}
use Rattle.history_rules.specs.CoordinatorMemory.{Times, sessions_left, start}
use Rattle.history_rules.specs.Nodes.{Role, Resource, Manager}
use Rattle.history_rules.specs.Nodes.{Coordinator as CoordinatorRole}
use Rattle.node_steps.specs.Durable.{keepable, own_faults}
use Rattle.node_steps.specs.Nodes.{NodeState}
use Rattle.coordinator_core.specs.declared.nodes.Coordinator.{Coordinator}
use Rattle.coordinator_core.specs.Knowledge.{knowledge, times_of as times_kept}
use Rattle.coordinator_core.specs.Lying.{Lies}
use Rattle.coordinator_core.specs.Serving.{ServesInput}
use Rattle.coordinator_rules.specs.Tracks.{Course, Follows}

-- ---- what it shows of itself

abbrev pub sessions_of : {D : Type 0} → Coordinator D → Sessions (Stoppable D)
sessions_of c = c.table.sessions

abbrev pub times_of : {D : Type 0} → Coordinator D → Times
times_of c = times_kept c.table

-- how many managers and resources its scenario has
abbrev pub managers : {D : Type 0} → Coordinator D → ℕ
managers c = managers_of (sessions_of c)

abbrev pub resources : {D : Type 0} → Coordinator D → ℕ
resources c = resources_of (sessions_of c)

abbrev pub serves : {D : Type 0} → Coordinator D → Input → Type 0
serves c given = ServesInput (managers c) (resources c) given

-- the moment at which its clock starts
abbrev pub start_of : {D : Type 0} → Coordinator D → ℕ
start_of c = c.start

-- how many steps it can still make
abbrev pub steps_left : {D : Type 0} → Coordinator D → ℕ
steps_left c = c.left

abbrev pub is_down : {D : Type 0} → Coordinator D → Bool
is_down c = sessions_down (sessions_of c)

-- its disks, with a stop that may be armed
abbrev pub pair_of : {D : Type 0} → (D → DiskState) → Sessions (Stoppable D) → Pair
pair_of state s = record { first = state_of state (first_disk (twin s)); second = state_of state (second_disk (twin s)) }

abbrev pub disks_of : {D : Type 0} → (D → DiskState) → Coordinator D → Pair
disks_of state c = pair_of state (sessions_of c)

abbrev pub active_of : {D : Type 0} → (D → DiskState) → Sessions (Stoppable D) → DiskState
active_of state s = state_of state (active_disk (twin s))

-- where a record with a body of so many bytes would end on the active disk, and the disk's size
abbrev pub needs : {D : Type 0} → Coordinator D → ℕ → ℕ
needs c body = needed_for (twin (sessions_of c)) body

abbrev pub size_of : {D : Type 0} → (D → DiskState) → Coordinator D → ℕ
size_of state c = (active_of state (sessions_of c)).size

-- ---- what it keeps

-- own entries over the records that its disks had before
abbrev pub course : List SessionRecord → List Own → Course
course past os = record { past = past; owns = os }

-- the bytes stand for the records, or for these and the one that may be kept
abbrev pub StandsForEither : {D : Type 0} → Sessions D → Left SessionRecord → Option SessionRecord → (a b : List ℕ) → Type 0
StandsForEither s left kept a b = StandsFor s left.records a b ⊎ ((r : SessionRecord) × (kept ≡ Some r) × StandsFor s (r ∷ left.records) a b)

-- What its sessions and their disks are after these own entries, over the records that the disks had before. While it is up
-- they keep the records, and a stop lets so many calls pass; and always each pair of images stands for the records, or for
-- these with the one in flight that may be kept, and the own faults are counted.
pub record OnDisks {D : Type 0} (state : D → DiskState) (s : Sessions (Stoppable D)) (past : List SessionRecord) (os : List Own) : Type 0 where
  pub down : sessions_down s ≡ down_by os
  pub keeps : down_by os ≡ false → KeepsRecords (state_of state) (sessions_left past os).records s
  pub left : down_by os ≡ false → (active_of state s).counts.left ≡ calls_left false os
  pub images : (a b : List ℕ) → (pair_of state s).first.may_leave a → (pair_of state s).second.may_leave b →
      StandsForEither s (sessions_left past os) (keepable false os (sessions_left past os)) a b
  pub counted : min (fault_entries false os) (2 ^ 64 - 1) ≤ own_faults (pair_of state s)

-- what a restart goes by, while it is down
pub record IsFallen {D : Type 0} (c : Coordinator D) (past : List SessionRecord) (os : List Own) : Type 0 where
  pub flight : c.flight ≡ in_flight os
  pub count : c.records ≡ length (sessions_left past os).records

-- it is the coordinator of these own entries, over the records that its disks had before
pub record StandsOver {D : Type 0} (state : D → DiskState) (c : Coordinator D) (past : List SessionRecord) (os : List Own) : Type 0 where
  pub disks : OnDisks state (sessions_of c) past os
  pub starts : start_of c ≡ start past
  -- a message may have the number of each manager
  pub few : managers c ≤ MANAGERS
  pub follows : down_by os ≡ false → Follows (knowledge c.table) (course past os)
  pub fallen : down_by os ≡ true → IsFallen c past os

-- it has this role, and is the coordinator of these own entries
abbrev pub StandsAs : {D : Type 0} → (D → DiskState) → Coordinator D → Role → List Own → Type 0
StandsAs state c (CoordinatorRole times past) os = (times ≡ times_of c) × StandsOver state c past os
StandsAs state c (Resource setup past) os = ⊥
StandsAs state c (Manager settings) os = ⊥

-- its journal, which stood there at the first opening, stands where these own entries leave it
abbrev pub LiesOver : {D : Type 0} → (D → DiskState) → Coordinator D → List SessionRecord → (start : Extent) → (size : ℕ) → List Own → Type 0
LiesOver state c past start size os = Lies (state_of state) (sessions_of c) past start size os

-- the same by its role
abbrev pub LiesAs : {D : Type 0} → (D → DiskState) → Coordinator D → Role → (start : Extent) → (size : ℕ) → List Own → Type 0
LiesAs state c (CoordinatorRole times past) start size os = LiesOver state c past start size os
LiesAs state c (Resource setup past) start size os = ⊥
LiesAs state c (Manager settings) start size os = ⊥

-- as a node: it stands where the coordinator does, and has disks
abbrev pub node_state : {D : Type 0} → (D → DiskState) → Coordinator D → NodeState
node_state state c = record {
  stands_for = StandsAs state c;
  lies = LiesAs state c;
  place = place.Tc;
  serves = serves c;
  left = steps_left c;
  stops = true;
  down = is_down c;
  disks = disks_of state c;
}

-- ---- how many transactions are under way

-- a transaction isn't decided, or it is and is neither finished nor failed
abbrev pub is_unended_session : List SessionRecord → Session → Bool
is_unended_session rs s = may_decide rs s.xid || is_going rs s.xid

-- how many began and are neither finished nor failed
abbrev pub unended_sessions : List SessionRecord → ℕ
unended_sessions rs = count_by (is_unended_session rs) (sessions rs)
