-- What a resource's store on two disks shows of itself and keeps, said of each list of records.
use Rattle.std.specs.Prelude.{◌≡◌, ℕ, ◌≤◌, ◌+◌, Bool, true, List, ◌∷◌, length, Option, Some, Result, Ok, IfOk, IfErr}
use Rattle.std.specs.Borrow.{Lends, Fml, RattleType, MutBor}
use Rattle.disk_model.specs.Disk.{DiskState, present}
use Rattle.seata_types.specs.declared.errors.OpenError.{OpenError}
use Rattle.seata_types.specs.declared.errors.StoreError.{StoreError}
use Rattle.seata_types.specs.declared.limits.TheConstants.{BODY_BYTES}
use Rattle.journal_checkpoint.specs.declared.twin.Twin.{Twin}
use Rattle.journal_checkpoint.specs.Extents.{Extent}
use Rattle.journal_checkpoint.specs.Keeping.{first_disk, second_disk, with_active}
use Rattle.durable_records.specs.declared.resources.ResourceRecord.{ResourceRecord}
use Rattle.durable_records.specs.declared.resources.ResourceRecord.TheVariants as log
use Rattle.durable_records.specs.UndoRecords.{boots}
use Rattle.memory_store.specs.declared.store.Store.{Store as Memory}
use Rattle.memory_store.specs.Keeping.{SameTwins, with_twin, first_handed_on, second_handed_on, twin_of, memory_of, machine_of, found_of as store_found, is_down as store_is_down, IsOf}
pub use Rattle.memory_store.specs.Settling.{IsNoDamage}
pub use Rattle.memory_store.specs.ListKeeping.{has_failed}
use Rattle.memory_store.specs.ListKeeping as lists
use Rattle.memory_store.specs.Lists as standing
use Rattle.resource_log.specs.Records.{FitsRecord, record_bytes}
use Rattle.resource_memory.specs.Changes.{may_come}
use Rattle.resource_memory.specs.Known.{Known}
use Rattle.resource_store.specs.declared.store.Store.{Store}
use Rattle.resource_store.specs.contracts.store.Store.{the_row}
use Rattle.resource_store.specs.Meaning.{Setting, meaning_of}
use Rattle.resource_store.specs.Standing.{StandsForRecords, lists_of}

-- ---- what it shows of itself

-- its memory over its disks
abbrev pub store_of : {D : Type 0} → Store D → Memory Setting Known D
store_of s = s.kept

-- the resource that it is of
abbrev pub setting_of : {D : Type 0} → Store D → Setting
setting_of s = machine_of s.kept

-- what it knows
abbrev pub known : {D : Type 0} → Store D → Known
known s = memory_of s.kept

-- its two disks, with the records on them
abbrev pub twin : {D : Type 0} → Store D → Twin D
twin s = twin_of s.kept

-- the first record that its opening read, if there was one, as a disk and an offset
abbrev pub found_of : {D : Type 0} → Store D → Option (Bool × ℕ)
found_of s = store_found s.kept

-- a call failed, so that it takes no more records
abbrev pub is_down : {D : Type 0} → Store D → Bool
is_down s = store_is_down s.kept

-- ---- the records that it keeps

-- each pair of images of its disks stands for these records of such a resource, and it knows what they say
abbrev pub KeepsRecords : {D : Type 0} → (D → DiskState) → Setting → List ResourceRecord → Store D → Type 0
KeepsRecords state t rs s = lists.KeepsRecords state (lists_of t) rs s.kept

-- ---- one record more

-- the bytes stand for the records, or for these and the new one; or, below, with their journal there
abbrev pub WithOrWithout : Setting → ResourceRecord → List ResourceRecord → List ℕ → List ℕ → Type 0
WithOrWithout t r rs a b = lists.WithOrWithout (lists_of t) r rs a b

abbrev pub StandsAt : Setting → List ResourceRecord → Extent → List ℕ → List ℕ → Type 0
StandsAt t rs e a b = lists.StandsAt (lists_of t) rs e a b

abbrev pub AtOrBehind : Setting → ResourceRecord → List ResourceRecord → Extent → List ℕ → List ℕ → Type 0
AtOrBehind t r rs e a b = lists.AtOrBehind (lists_of t) r rs e a b

-- a crash at any moment of the call leaves the records, with the new one or without
abbrev pub LeavesEither : {D : Type 0} → (D → DiskState) → ResourceRecord → List ResourceRecord → Store D → Store D → Type 0
LeavesEither state r rs old new = lists.LeavesEither state (lists_of (setting_of old)) r rs old.kept new.kept

-- the record ends within the active disk
abbrev pub HasRoom : {D : Type 0} → (D → DiskState) → ResourceRecord → Store D → Type 0
HasRoom state r s = lists.HasRoom state (lists_of (setting_of s)) r s.kept

-- the record is on the disks, and known; or the active disk failed, and may have it
abbrev pub Adds : {D : Type 0} → (D → DiskState) → ResourceRecord → List ResourceRecord → Store D → Store D → Type 0
Adds state r rs old new = lists.Adds state (lists_of (setting_of old)) r rs old.kept new.kept

abbrev pub Loses : {D : Type 0} → (D → DiskState) → ResourceRecord → List ResourceRecord → Store D → Store D → Type 0
Loses state r rs old new = lists.Loses state (lists_of (setting_of old)) r rs old.kept new.kept

-- what a call that makes a record does by its answer: with these records, with the disks, and in all
abbrev pub Makes : {D : Type 0} → (D → DiskState) → ResourceRecord → List ResourceRecord → Result (Unit {0}) StoreError → Store D → Store D → Type 0
Makes state r rs result old new = lists.Makes state (lists_of (setting_of old)) r rs result old.kept new.kept

abbrev pub Moves : {D : Type 0} → (D → DiskState) → Result (Unit {0}) StoreError → Store D → Store D → Type 0
Moves state result old new = lists.Moves state store_of result old new

abbrev pub Changes : {D : Type 0} → (D → DiskState) → ResourceRecord → Result (Unit {0}) StoreError → Store D → Store D → Type 0
Changes state r result old new = lists.Changes state (lists_of (setting_of old)) store_of r result old new

-- a record that is taken: it may come, and it has a place in a journal
pub record IsTaken {D : Type 0} (r : ResourceRecord) (s : Store D) : Type 0 where
  pub allowed : may_come (known s) r ≡ true
  pub fits : FitsRecord r
  pub small : length (record_bytes r) ≤ BODY_BYTES

-- the record of the next boot
abbrev pub boot_record : Known → ResourceRecord
boot_record k = log.Boot (k.boots + 1)

-- ---- openings and restarts

-- it keeps the records with one more boot
abbrev pub BootsAs : {D : Type 0} → (D → DiskState) → Setting → List ResourceRecord → Store D → Type 0
BootsAs state t rs s = KeepsRecords state t (log.Boot (boots rs + 1) ∷ rs) s

-- two disks stay
abbrev pub SameDisks : {D : Type 0} → Store D → Store D → Type 0
SameDisks old new = SameTwins (twin old) (twin new)

-- the records that the one pair of bytes stands for, the other one stands for too
abbrev pub GoesOnAs : Setting → (a b c d : List ℕ) → Type 0
GoesOnAs t a b c d = standing.GoesOnAs (lists_of t) a b c d

-- the records that the one pair of bytes stands for, the other one stands for too, or for these and one more boot
abbrev pub GoesOnWithBoot : Setting → (a b c d : List ℕ) → Type 0
GoesOnWithBoot t a b c d = (rs : List ResourceRecord) → StandsForRecords t rs a b → WithOrWithout t (log.Boot (boots rs + 1)) rs c d

-- each pair of images stands for some records
abbrev pub StandsAlways : {D : Type 0} → (D → DiskState) → Setting → Twin D → Type 0
StandsAlways state t w =
    (a b : List ℕ) → (state (first_disk w)).may_leave a → (state (second_disk w)).may_leave b → (rs : List ResourceRecord) × StandsForRecords t rs a b

-- Two disks of such a resource were read: each list of records that their bytes stand for is kept, and bytes that stand for records are
-- never damaged.
pub record KeepsEach {D : Type 0} (state : D → DiskState) (t : Setting) (first second : D) (result : Result (Store D) (OpenError × D × D)) : Type 0 where
  pub keeps : IfOk result (λ s. (rs : List ResourceRecord) (a b : List ℕ) → present (state first) ≡ Some a → present (state second) ≡ Some b →
      StandsForRecords t rs a b → KeepsRecords state t rs s)
  pub recovers : IfErr result (λ failed. (rs : List ResourceRecord) (a b : List ℕ) → present (state first) ≡ Some a → present (state second) ≡ Some b →
      StandsForRecords t rs a b → IsNoDamage failed.0)
  pub setting : IfOk result (λ s. setting_of s ≡ t)

-- It came back as one of the pairs of images that this pick may give, and keeps each list of records that the pair stands for.
abbrev pub BringsBack : {D : Type 0} → (D → DiskState) → ℕ → Store D → Store D → Type 0
BringsBack state pick old new = lists.BringsBack state (lists_of (setting_of old)) pick old.kept new.kept

-- What an opening of these bytes with a boot left: it knew what they hold, with a snapshot in place of the records where one was
-- due, and then came the record of its boot.
pub record BootsFrom {D : Type 0} (state : D → DiskState) (t : Setting) (a b : List ℕ) (s : Store D) : Type 0 where
  -- the store before its boot
  pub loaded : Store D
  pub is : IsOf state (meaning_of t) a b loaded.kept
  pub boots : Changes state (boot_record (known loaded)) (Ok tt) loaded s

-- the disks that an opening hands on
abbrev pub first_after : {D : Type 0} → Result (Store D) (OpenError × D × D) → D
first_after result = first_handed_on twin result

abbrev pub second_after : {D : Type 0} → Result (Store D) (OpenError × D × D) → D
second_after result = second_handed_on twin result

-- ---- a disk that is lent

abbrev pub with_disk : {D : Type 0} → Store D → D → Store D
with_disk s disk = record s { kept = with_twin s.kept (with_active (twin s) disk) }

module _ (D : RattleType) where
  -- it ends with the last disk behind r as the active one
  abbrev pub LendsActive : MutBor (Store D.Denot) → MutBor D.Denot → Fml
  LendsActive s r = Lends (the_row D) D s r (with_disk s.now)
