-- What two disks stand for, as the records of the node that they are of, and what a node's entries leave on its disks. Lists
-- of records stand newest first.
use Rattle.std.specs.Prelude.{◌≡◌, ◌⊎◌, ◌≤◌, ◌+◌, ◌-◌, ◌^◌, ℕ, min, Bool, true, false, if◌then◌else◌, List, ◌∷◌, Option, Some, None}
use Rattle.disk_model.specs.Disk.{DiskState, last_pick}
use Rattle.journal_checkpoint.specs.Images.{Pair}
pub use Rattle.memory_store.specs.Readings.{Reading, records_on, AreRecords, StandsForRecords}
use Rattle.local_tables.specs.Rows.{Database}
use Rattle.durable_records.specs.declared.coordinators.SessionRecord.{SessionRecord}
use Rattle.durable_records.specs.declared.resources.ResourceRecord.{ResourceRecord}
use Rattle.session_log.specs.declared.sessions.Snapshot.{Snapshot}
use Rattle.session_log.specs.Records as session_bytes
use Rattle.session_log.specs.Snapshots as session_snapshots
use Rattle.session_log.specs.SnapshotOf as sessions_now
use Rattle.resource_log.specs.declared.states.ResourceSnapshot.{ResourceSnapshot}
use Rattle.resource_log.specs.Records as resource_bytes
use Rattle.resource_log.specs.Snapshots as resource_snapshots
use Rattle.resource_log.specs.SnapshotOf as resource_now
use Rattle.history_rules.specs.Own.{Own, Left}
use Rattle.history_rules.specs.Devices.{calls_left, fault_entries, may_stand, last_pick as picked_last}
use Rattle.history_rules.specs.CoordinatorMemory.{sessions_left}
use Rattle.history_rules.specs.ResourceMemory.{Setup, memory, opening_tables}
use Rattle.history_rules.specs.Nodes.{Role, Coordinator, Resource, Manager}

-- ---- what bytes are read as

-- the coordinator's records and snapshots; below, a resource's
abbrev pub of_coordinator : Reading SessionRecord Snapshot
of_coordinator = record { record_of = session_bytes.record_of; snapshot_in = session_snapshots.snapshot_in_bytes; snapshot_of = sessions_now.snapshot_of }

-- over its tables at the opening
abbrev pub of_resource : Database → Reading ResourceRecord ResourceSnapshot
of_resource opening = record { record_of = resource_bytes.record_of; snapshot_in = resource_snapshots.snapshot_in_bytes; snapshot_of = resource_now.snapshot_of opening }

-- ---- what a node's entries leave on its disks

-- the record in flight, where it may be on the disks
abbrev pub keepable : {R : Type 0} → (boots : Bool) → List Own → Left R → Option R
keepable boots os left = if may_stand (calls_left boots os) then left.flight else None

-- the bytes of two disks stand for the records that stand, or for these with the one that may be kept
abbrev pub StandsForLeft : {R S : Type 0} → Reading R S → Left R → Option R → (a b : List ℕ) → Type 0
StandsForLeft {R} reading left kept a b =
    StandsForRecords reading left.records a b ⊎ ((r : R) × (kept ≡ Some r) × StandsForRecords reading (r ∷ left.records) a b)

-- a node's own faults: those of its two disks together, up to the end of the count
abbrev pub own_faults : Pair → ℕ
own_faults disks = min (disks.first.counts.own + disks.second.counts.own) (2 ^ 64 - 1)

-- where a disk tells its last pick, it is this one
abbrev pub TellsPick : ℕ → DiskState → Type 0
TellsPick pick disk = (told : Option ℕ) → last_pick disk ≡ Some told → told ≡ Some pick

-- Of two disks after the entries of their node, which had counted so many own faults before: each pair of images stands for
-- the records, or for these with the one in flight that may be kept; an own fault was counted for each entry that a fault of
-- the disks took down, up to the end of the count; and both have the pick of the last restart.
pub record AreDisksOf {R S : Type 0} (reading : Reading R S) (boots : Bool) (os : List Own) (left : Left R) (before : ℕ) (disks : Pair) : Type 0 where
  pub images : (a b : List ℕ) → disks.first.may_leave a → disks.second.may_leave b → StandsForLeft reading left (keepable boots os left) a b
  pub counted : min (before + fault_entries boots os) (2 ^ 64 - 1) ≤ own_faults disks
  pub picked : (pick : ℕ) → picked_last os ≡ Some pick → TellsPick pick disks.first × TellsPick pick disks.second

-- the disks of the coordinator, over the records that they had before its first entry
abbrev pub AreCoordinatorDisks : List SessionRecord → List Own → ℕ → Pair → Type 0
AreCoordinatorDisks past os before disks = AreDisksOf of_coordinator false os (sessions_left past os) before disks

-- the disks of a resource
abbrev pub AreResourceDisks : Setup → List ResourceRecord → List Own → ℕ → Pair → Type 0
AreResourceDisks s past os before disks = AreDisksOf (of_resource (opening_tables s)) true os (memory s past os).left before disks

-- the same without the picks
pub record KeepsDisks {R S : Type 0} (reading : Reading R S) (boots : Bool) (os : List Own) (left : Left R) (disks : Pair) : Type 0 where
  pub images : (a b : List ℕ) → disks.first.may_leave a → disks.second.may_leave b → StandsForLeft reading left (keepable boots os left) a b
  pub counted : min (fault_entries boots os) (2 ^ 64 - 1) ≤ own_faults disks

-- of the disks of a node; a manager has none
abbrev pub AreNodeDisks : Role → List Own → Pair → Type 0
AreNodeDisks (Coordinator times past) os disks = KeepsDisks of_coordinator false os (sessions_left past os) disks
AreNodeDisks (Resource setup past) os disks = KeepsDisks (of_resource (opening_tables setup)) true os (memory setup past os).left disks
AreNodeDisks (Manager settings) os disks = Unit {0}

-- both disks have this pick, where they tell one
abbrev pub HavePick : ℕ → Pair → Type 0
HavePick pick disks = TellsPick pick disks.first × TellsPick pick disks.second

-- the last picks stay
pub record SamePicks (old new : Pair) : Type 0 where
  pub first : last_pick new.first ≡ last_pick old.first
  pub second : last_pick new.second ≡ last_pick old.second
