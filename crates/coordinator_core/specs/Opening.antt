-- What an opening of the coordinator gives, or hands back.
use Rattle.std.specs.Prelude.{◌≡◌, ◌⊎◌, ◌*◌, ◌≤◌, ℕ, false, List, [], Some}
use Rattle.disk_model.specs.Disk.{DiskState, KeepsContent, KeepsRest, Leaves, Rose, present}
use Rattle.disk_model.specs.Stop.{below, state_of}
use Rattle.seata_types.specs.declared.errors.OpenError.{OpenError}
use Rattle.seata_types.specs.declared.errors.OpenError.TheVariants as open_error
use Rattle.disk_journal.specs.Reading.{row_length}
use Rattle.journal_checkpoint.specs.declared.types.Found.{Found}
use Rattle.journal_checkpoint.specs.Extents.{extent_of}
use Rattle.journal_checkpoint.specs.Images.{PairStandsFor}
use Rattle.journal_checkpoint.specs.Keeping.{first_disk, second_disk}
use Rattle.memory_store.specs.Keeping.{IsDamage, IsNotFull, IsOf, FindsFirst}
use Rattle.durable_records.specs.declared.coordinators.SessionRecord.{SessionRecord}
use Rattle.session_store.specs.Meaning.{meaning_of}
use Rattle.session_store.specs.Standing.{StandsForSessions}
use Rattle.session_store.specs.Keeping.{GoesOnAs, IsNoDamage, store_of, twin}
use Rattle.coordinator_core.specs.declared.nodes.Coordinator.{Coordinator}
use Rattle.seata_types.specs.declared.limits.TheConstants.{LATEST_START, NODE_STEPS}
use Rattle.coordinator_core.specs.Standing.{StandsOver, LiesOver, is_down, managers, resources, sessions_of, start_of, steps_left}

-- what an opening leaves of a disk: its size, what it tells and its last pick; its faults don't become fewer
pub record IsOpenedDisk (old new : DiskState) : Type 0 where
  pub rest : KeepsRest old new
  pub faults : old.counts.faults ≤ new.counts.faults

-- a disk that was only read: its content stays, and so does what a crash leaves of it, at each moment since
pub record IsOnlyRead (old new : DiskState) : Type 0 where
  pub content : KeepsContent old new
  pub images : Leaves old new old.may_leave

-- where the records take at most half of either disk no byte was changed
abbrev pub AreReadWhereShort : (first second now_first now_second : DiskState) → Type 0
AreReadWhereShort first second now_first now_second =
    (a b : List ℕ) (found : Found) → present first ≡ Some a → present second ≡ Some b → PairStandsFor found a b →
    2 * row_length found.records ≤ first.size → 2 * row_length found.records ≤ second.size → IsOnlyRead first now_first × IsOnlyRead second now_second

-- a crash now leaves what stands for the same lists of records
abbrev pub GoOnAs : (managers resources : ℕ) → (first second now_first now_second : DiskState) → Type 0
GoOnAs managers resources first second now_first now_second =
    (a b c d : List ℕ) → present first ≡ Some a → present second ≡ Some b → now_first.may_leave c → now_second.may_leave d → GoesOnAs managers resources a b c d

-- the coordinator on two disks, of a scenario with so many managers and resources
pub record IsOpened {D : Type 0} (state : D → DiskState) (first second : D) (manager_count resource_count : ℕ) (c : Coordinator D) : Type 0 where
  -- it stands for no own entry, over each list of records that the bytes stand for
  pub stands : (rs : List SessionRecord) (a b : List ℕ) → present (state first) ≡ Some a → present (state second) ≡ Some b → StandsForSessions manager_count resource_count rs a b
      → StandsOver state c rs []
  -- and on disks of one size its journal lies where these bytes have it, with a snapshot in place of the records where one was due
  pub lies : (size : ℕ) (rs : List SessionRecord) (a b : List ℕ) (found : Found) → (state first).size ≡ size → (state second).size ≡ size → present (state first) ≡ Some a → present (state second) ≡ Some b
      → PairStandsFor found a b → StandsForSessions manager_count resource_count rs a b → LiesOver state c rs (extent_of found) size []
  -- the first record that it found is the first one there
  pub place : (a b : List ℕ) → present (state first) ≡ Some a → present (state second) ≡ Some b → FindsFirst a b (store_of (sessions_of c))
  -- it knows what the bytes hold, with a snapshot in place of the records where one was due
  pub settles : (a b : List ℕ) → present (state first) ≡ Some a → present (state second) ≡ Some b → IsOf (state_of state) (meaning_of manager_count resource_count) a b (store_of (sessions_of c))
  pub images : GoOnAs manager_count resource_count (state first) (state second) (state (below (first_disk (twin (sessions_of c))))) (state (below (second_disk (twin (sessions_of c)))))
  pub not_due : AreReadWhereShort (state first) (state second) (state (below (first_disk (twin (sessions_of c))))) (state (below (second_disk (twin (sessions_of c)))))
  pub first_disk : IsOpenedDisk (state first) (state (below (first_disk (twin (sessions_of c)))))
  pub second_disk : IsOpenedDisk (state second) (state (below (second_disk (twin (sessions_of c)))))
  pub managers_are : managers c ≡ manager_count
  pub resources_are : resources c ≡ resource_count
  pub steps : steps_left c ≡ NODE_STEPS
  -- its clock starts early, whatever its disks tell
  pub early : start_of c ≤ LATEST_START
  pub up : is_down c ≡ false

-- an error and the two disks: bytes that stand for records are never damaged, a damage is where the bytes have it, and a
-- failure is a fault of a disk
pub record HandsBack {D : Type 0} (state : D → DiskState) (first second : D) (manager_count resource_count : ℕ) (failed : OpenError × D × D) : Type 0 where
  pub recovers : (rs : List SessionRecord) (a b : List ℕ) → present (state first) ≡ Some a → present (state second) ≡ Some b → StandsForSessions manager_count resource_count rs a b → IsNoDamage failed.0
  pub damaged : (a b : List ℕ) → present (state first) ≡ Some a → present (state second) ≡ Some b → IsDamage (meaning_of manager_count resource_count) a b failed.0
  pub not_full : IsNotFull failed.0
  pub cause : failed.0 ≡ open_error.Failed → Rose (state first).counts.faults (state failed.1).counts.faults ⊎ Rose (state second).counts.faults (state failed.2).counts.faults
  pub images : GoOnAs manager_count resource_count (state first) (state second) (state failed.1) (state failed.2)
  pub not_due : AreReadWhereShort (state first) (state second) (state failed.1) (state failed.2)
  pub first_disk : IsOpenedDisk (state first) (state failed.1)
  pub second_disk : IsOpenedDisk (state second) (state failed.2)
