-- What an opening of a resource as a node gives, or hands back: its disks are loaded, and then its boot is written.
use Rattle.std.specs.Prelude.{◌≡◌, ◌⊎◌, ◌≤◌, ℕ, false, List, [], Some, None}
use Rattle.std.specs.List.{AllByRecursion}
use Rattle.disk_model.specs.Disk.{DiskState, KeepsRest, Rose, present}
use Rattle.disk_model.specs.Stop.{below, state_of}
use Rattle.disk_model.specs.declared.stoppable.Stoppable.{Stoppable}
use Rattle.disk_journal.specs.Keeping.{IsFull}
use Rattle.journal_checkpoint.specs.Extents.{Extent, extent_of, needed}
use Rattle.journal_checkpoint.specs.Images.{PairStandsFor}
use Rattle.journal_checkpoint.specs.Keeping.{first_disk, second_disk}
use Rattle.journal_checkpoint.specs.declared.types.Found.{Found}
use Rattle.memory_store.specs.Checkpoints.{checked}
use Rattle.memory_store.specs.Keeping.{FindsFirst, IsDamage, IsNotFull, IsOf}
use Rattle.seata_types.specs.declared.errors.Full.{Full}
use Rattle.seata_types.specs.declared.errors.OpenError.{OpenError}
use Rattle.seata_types.specs.declared.errors.OpenError.TheVariants as open_error
use Rattle.seata_types.specs.declared.ids.Place.{Place}
use Rattle.seata_types.specs.declared.ids.Place.TheVariants.{Res}
use Rattle.seata_types.specs.declared.limits.TheConstants.{RESOURCES}
use Rattle.durable_records.specs.declared.resources.ResourceRecord.{ResourceRecord}
use Rattle.frame_codec.specs.Limits.{IsCounted}
use Rattle.history_rules.specs.Nodes.{Resource as ResourceRole}
use Rattle.history_rules.specs.ResourceMemory.{Setup as RuleSetup}
use Rattle.node_steps.specs.Ends.{resource_saving}
use Rattle.resource_store.specs.declared.store.Store.{Store}
use Rattle.resource_store.specs.Keeping.{BootsFrom, GoesOnAs, GoesOnWithBoot, IsNoDamage, KeepsRecords, known, setting_of, twin}
use Rattle.resource_store.specs.Keeping.{is_down as store_is_down}
use Rattle.resource_store.specs.Meaning.{Setting, Opens, setting, meaning_of}
use Rattle.resource_store.specs.Openings.{IsUndamaged, IsBootDamage, boot_length}
use Rattle.resource_store.specs.Standing.{StandsForRecords}
use Rattle.record_places.specs.Within.{IsTableWithin}
use Rattle.resource_rules.specs.Setups.{actions_of}
use Rattle.resource_core.specs.declared.branches.Branches.{Branches}
use Rattle.resource_core.specs.declared.nodes.Resource.{Resource}
use Rattle.resource_core.specs.declared.opening.Loaded.{Loaded}
use Rattle.seata_types.specs.declared.limits.TheConstants.{NODE_STEPS}
use Rattle.resource_core.specs.declared.setup.Setup.{Setup}
use Rattle.resource_core.specs.NodeStanding.{StandsOver, LiesAs, IsSound}
use Rattle.resource_core.specs.Ready.{HasActionWithin, HasStmtsWithin}
use Rattle.resource_core.specs.Shown.{store_of, steps_left, is_down}

-- a setup at its number, in the words of the rules, and of its store
abbrev pub setup_at : ℕ → Setup → RuleSetup
setup_at place s = record {
  number = place;
  schema = s.schema;
  opening = s.opening;
  tries = s.tries;
  actions = actions_of s.actions;
  locals = s.locals;
}

abbrev pub setting_at : ℕ → Setup → Setting
setting_at place s = setting place s.schema s.opening

-- a setup within the limits of a scenario: its rows open its tables and have places in a snapshot, and so have the values of
-- its statements in a record
pub record IsSetupWithin (place : ℕ) (s : Setup) : Type 0 where
  pub counted : IsCounted RESOURCES place
  pub opens : Opens (setting_at place s)
  pub tables : AllByRecursion IsTableWithin s.schema.tables
  pub actions : AllByRecursion HasActionWithin s.actions
  pub locals : AllByRecursion HasStmtsWithin s.locals

-- what an opening leaves of a disk: its size, what it tells and its last pick; its faults don't become fewer
pub record IsOpenedDisk (old new : DiskState) : Type 0 where
  pub rest : KeepsRest old new
  pub faults : old.counts.faults ≤ new.counts.faults

-- ---- loaded

abbrev pub store_in : {D : Type 0} → Loaded D → Store (Stoppable D)
store_in l = l.branches.store

-- its store takes records
abbrev pub IsUp : {D : Type 0} → Loaded D → Type 0
IsUp l = store_is_down (store_in l) ≡ false

-- where it stands
abbrev pub loaded_at : {D : Type 0} → Loaded D → Place
loaded_at l = Res l.branches.setup.number

-- its two disks, in their order
abbrev pub loaded_disks : {D : Type 0} → Loaded D → D × D
loaded_disks l = (below (first_disk (twin (store_in l))), below (second_disk (twin (store_in l))))

-- branches with this number and the rest of a setup
abbrev pub with_setup : {D : Type 0} → ℕ → Setup → Branches D → Branches D
with_setup number s b = record b { setup = record { number = number; tries = s.tries; actions = s.actions; locals = s.locals } }

-- no stop is armed on the disk
abbrev pub IsUnarmed : DiskState → Type 0
IsUnarmed disk = disk.counts.left ≡ None

-- a crash now leaves what stands for the same lists of records
abbrev pub GoOnAs : Setting → (first second now_first now_second : DiskState) → Type 0
GoOnAs t first second now_first now_second =
    (a b c d : List ℕ) → present first ≡ Some a → present second ≡ Some b → now_first.may_leave c → now_second.may_leave d → GoesOnAs t a b c d

-- two disks, read for the resource with this number and setup
pub record IsLoaded {D : Type 0} (state : D → DiskState) (first second : D) (number : ℕ) (s : Setup) (l : Loaded D) : Type 0 where
  pub within : IsSetupWithin number s
  pub is : l.branches ≡ with_setup number s l.branches
  pub setting : setting_of (store_in l) ≡ setting_at number s
  -- it keeps each list of records that the bytes stand for
  pub keeps : (rs : List ResourceRecord) (a b : List ℕ) → present (state first) ≡ Some a → present (state second) ≡ Some b → StandsForRecords (setting_at number s) rs a b
      → KeepsRecords (state_of state) (setting_at number s) rs (store_in l)
  -- the first record that it found is the first one there
  pub place : (a b : List ℕ) → present (state first) ≡ Some a → present (state second) ≡ Some b → FindsFirst a b (store_in l).kept
  -- it knows what the bytes hold, with a snapshot in place of the records where one was due
  pub settles : (a b : List ℕ) → present (state first) ≡ Some a → present (state second) ≡ Some b → IsOf (state_of state) (meaning_of (setting_at number s)) a b (store_in l).kept
  pub sound : (meaning_of (setting_at number s)).IsSound (known (store_in l))
  pub first_unarmed : IsUnarmed (state_of state (first_disk (twin (store_in l))))
  pub second_unarmed : IsUnarmed (state_of state (second_disk (twin (store_in l))))
  pub images : GoOnAs (setting_at number s) (state first) (state second) (state (loaded_disks l).0) (state (loaded_disks l).1)
  pub first_disk : IsOpenedDisk (state first) (state (loaded_disks l).0)
  pub second_disk : IsOpenedDisk (state second) (state (loaded_disks l).1)
  pub up : IsUp l

-- an error and the two disks, which couldn't be loaded: bytes that stand for records are never damaged, a damage is where the
-- bytes have it, and a failure is a fault of a disk
pub record IsNotLoaded {D : Type 0} (state : D → DiskState) (first second : D) (number : ℕ) (s : Setup) (failed : OpenError × D × D) : Type 0 where
  pub recovers : (rs : List ResourceRecord) (a b : List ℕ) → present (state first) ≡ Some a → present (state second) ≡ Some b → StandsForRecords (setting_at number s) rs a b → IsNoDamage failed.0
  pub damaged : (a b : List ℕ) → present (state first) ≡ Some a → present (state second) ≡ Some b → IsDamage (meaning_of (setting_at number s)) a b failed.0
  pub not_full : IsNotFull failed.0
  pub cause : failed.0 ≡ open_error.Failed → Rose (state first).counts.faults (state failed.1).counts.faults ⊎ Rose (state second).counts.faults (state failed.2).counts.faults
  pub images : GoOnAs (setting_at number s) (state first) (state second) (state failed.1) (state failed.2)
  pub first_disk : IsOpenedDisk (state first) (state failed.1)
  pub second_disk : IsOpenedDisk (state second) (state failed.2)

-- ---- opened

-- a crash now leaves what stands for the same lists of records, with one more boot or without
abbrev pub GoOnWithBoot : Setting → (first second now_first now_second : DiskState) → Type 0
GoOnWithBoot t first second now_first now_second =
    (a b c d : List ℕ) → present first ≡ Some a → present second ≡ Some b → now_first.may_leave c → now_second.may_leave d → GoesOnWithBoot t a b c d

-- P is so of each list of records that the bytes of two disks of one size stand for, of where their journal stands, and of that size
abbrev pub WhereTold : {D : Type 0} → (D → DiskState) → (first second : D) → ℕ → Setup → (List ResourceRecord → (start : Extent) → (size : ℕ) → Type 0) → Type 0
WhereTold state first second number s P =
    (size : ℕ) (rs : List ResourceRecord) (a b : List ℕ) (found : Found) → (state first).size ≡ size → (state second).size ≡ size →
    present (state first) ≡ Some a → present (state second) ≡ Some b → PairStandsFor found a b → StandsForRecords (setting_at number s) rs a b → P rs (extent_of found) size

-- the resource on two disks, with this number and setup
pub record IsOpened {D : Type 0} (state : D → DiskState) (first second : D) (number : ℕ) (s : Setup) (r : Resource D) : Type 0 where
  -- it stands for no own entry, over each list of records that the bytes stand for
  pub stands : (rs : List ResourceRecord) (a b : List ℕ) → present (state first) ≡ Some a → present (state second) ≡ Some b → StandsForRecords (setting_at number s) rs a b
      → StandsOver state r (setup_at number s) rs []
  -- and its journal stands behind the boot, which came where these bytes have their end, or behind a snapshot where one was due
  pub lies : WhereTold state first second number s (λ rs start size. LiesAs state r (ResourceRole (setup_at number s) rs) start size [])
  -- the first record that it found is the first one there
  pub place : (a b : List ℕ) → present (state first) ≡ Some a → present (state second) ≡ Some b → FindsFirst a b (store_of r).kept
  -- before its boot it knew what the bytes hold, with a snapshot in place of the records where one was due
  pub settles : (a b : List ℕ) → present (state first) ≡ Some a → present (state second) ≡ Some b → BootsFrom (state_of state) (setting_at number s) a b (store_of r)
  pub images : GoOnWithBoot (setting_at number s) (state first) (state second) (state (below (first_disk (twin (store_of r))))) (state (below (second_disk (twin (store_of r)))))
  pub first_disk : IsOpenedDisk (state first) (state (below (first_disk (twin (store_of r)))))
  pub second_disk : IsOpenedDisk (state second) (state (below (second_disk (twin (store_of r)))))
  pub sound : IsSound r
  pub steps : steps_left r ≡ NODE_STEPS
  pub up : is_down r ≡ false

-- an error and the two disks: bytes that stand for records are never damaged, a damage is where the bytes have it, and a
-- failure is a fault of a disk
pub record HandsBack {D : Type 0} (state : D → DiskState) (first second : D) (number : ℕ) (s : Setup) (failed : OpenError × D × D) : Type 0 where
  pub recovers : (rs : List ResourceRecord) (a b : List ℕ) → present (state first) ≡ Some a → present (state second) ≡ Some b → StandsForRecords (setting_at number s) rs a b
      → IsUndamaged (state failed.1) (state failed.2) failed.0
  -- and a boot that doesn't fit would end behind the last byte, where the journal stands by these bytes
  pub full : WhereTold state first second number s
      (λ rs start size. (full : Full) → failed.0 ≡ open_error.Full full → IsFull (needed (checked size (resource_saving (setup_at number s) rs) start) boot_length) size full)
  pub damaged : (a b : List ℕ) → present (state first) ≡ Some a → present (state second) ≡ Some b → IsBootDamage (meaning_of (setting_at number s)) a b failed.0
  pub cause : failed.0 ≡ open_error.Failed → Rose (state first).counts.faults (state failed.1).counts.faults ⊎ Rose (state second).counts.faults (state failed.2).counts.faults
  pub images : GoOnWithBoot (setting_at number s) (state first) (state second) (state failed.1) (state failed.2)
  pub first_disk : IsOpenedDisk (state first) (state failed.1)
  pub second_disk : IsOpenedDisk (state second) (state failed.2)

-- ---- started

-- a resource whose disks were loaded is the one that is opened on them
abbrev pub Starts : {D : Type 0} → (D → DiskState) → Loaded D → Resource D → Type 0
Starts {D} state l r = (first second : D) (number : ℕ) (s : Setup) → IsLoaded state first second number s l → IsOpened state first second number s r

-- an error and the two disks that were loaded, with the boot or without
abbrev pub FailsStart : {D : Type 0} → (D → DiskState) → Loaded D → OpenError × D × D → Type 0
FailsStart {D} state l failed = (first second : D) (number : ℕ) (s : Setup) → IsLoaded state first second number s l → HandsBack state first second number s failed

-- where no disk failed they are as they were loaded
abbrev pub StaysUnwritten : {D : Type 0} → Loaded D → OpenError × D × D → Type 0
StaysUnwritten l failed = (failed.0 ≡ open_error.Failed) ⊎ ((failed.1 ≡ (loaded_disks l).0) × (failed.2 ≡ (loaded_disks l).1))
