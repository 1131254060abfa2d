-- The text that the disk `net` of a shelf keeps, read.
use Rattle.std.specs.Prelude.{◌≡◌, ◌⊎◌, ◌≤◌, ℕ, false, List, Option, Some, Result, IfOk, IfErr}
use Rattle.disk_model.specs.Disk.{DiskState, HasCause, present}
use Rattle.disk_model.specs.Shelf.{KeepsOthers, ShelfState}
use Rattle.disk_journal.specs.Keeping.{IsDamageIn, OnlyReads, StandsFor}
use Rattle.disk_journal.specs.declared.errors.JournalError.{JournalError}
use Rattle.disk_journal.specs.declared.errors.JournalError.TheVariants as why
use Rattle.seata_types.specs.declared.ids.Place.TheVariants as place
use Rattle.node_seat.specs.declared.faults.RunFault.{RunFault}
use Rattle.node_seat.specs.declared.faults.RunFault.TheVariants as fault
use Rattle.base_shelf.specs.Keeping.{NetIs, net_name}
use Rattle.scenario_nodes.specs.Opening.{IsShelfFault}
use Rattle.scenario_nodes.specs.Shelves.{IsGivenIn, ReturnsAll}
use Rattle.store_shown.specs.Texts.{IsKeptIn}

-- ---- why it wasn't read

-- The disk that was taken counted a fault, as it shows now; the bytes that the shelf gave next are no journal; or memory was refused.
abbrev pub IsReadFault : {D : Type 0} → (D → DiskState) → (old : ShelfState D) → (disk : DiskState) → RunFault → Type 0
IsReadFault state old disk (fault.Store at) = (at ≡ place.Net) × (1 ≤ disk.counts.faults)
IsReadFault state old disk (fault.Damaged at second offset) =
    (at ≡ place.Net) × (second ≡ false) × ((bytes : List ℕ) → NetIs state old bytes → IsDamageIn 0 bytes (why.Damaged offset))
IsReadFault state old disk fault.NoMemory = Unit {0}
IsReadFault state old disk _ = ⊥

-- the disk was given back, and shows why
pub record IsUnreadBack {D : Type 0} (state : D → DiskState) (old new : ShelfState D) (missed : RunFault) : Type 0 where
  pub disk : D
  pub back : IsGivenIn old new net_name disk
  pub cause : IsReadFault state old (state disk) missed

-- or it wasn't had
abbrev pub IsNetUnread : {D : Type 0} → (D → DiskState) → (old new : ShelfState D) → RunFault → Type 0
IsNetUnread state old new missed = IsShelfFault place.Net old new missed ⊎ IsUnreadBack state old new missed

-- ---- the records that stand there

-- these bytes are a journal, and this holds of its records
pub record StandsSuch (Is : List (List ℕ) → Type 0) (bytes : List ℕ) : Type 0 where
  pub records : List (List ℕ)
  pub stand : StandsFor 0 records bytes
  pub is : Is records

-- So are the bytes of the disk that the shelf gives next, where it tells them: they are never damaged.
abbrev pub NetHolds : {D : Type 0} → (D → DiskState) → ShelfState D → (List (List ℕ) → Type 0) → Type 0
NetHolds state shelf Is = (bytes : List ℕ) → NetIs state shelf bytes → StandsSuch Is bytes

-- ---- on a shelf

-- The disk was read and given back with the bytes that it had: this is the text that its records keep, or why it wasn't read. Of damaged
-- bytes none is.
pub record ReadsBase {D : Type 0} (state : D → DiskState) (old new : ShelfState D) (result : Result (Option (List ℕ)) RunFault) : Type 0 where
  pub reads : IfOk result (λ found. NetHolds state old (λ records. IsKeptIn records found))
  pub refused : IfErr result (IsNetUnread state old new)
  pub still : (bytes : List ℕ) → NetIs state old bytes → NetIs state new bytes
  pub keeps : KeepsOthers (λ n. n ≡ net_name) old new
  pub returned : ReturnsAll old new

-- ---- for the proofs alone

-- the fault of a disk that is no journal, or can't be read
abbrev pub fault_of : JournalError → RunFault
fault_of why.Failed = fault.Store place.Net
fault_of (why.Damaged at) = fault.Damaged place.Net false at
fault_of why.NoMemory = fault.NoMemory

-- why a disk's text wasn't read
abbrev pub IsTextFault : (old new : DiskState) → RunFault → Type 0
IsTextFault old new (fault.Store at) = (at ≡ place.Net) × HasCause old.counts new.counts
IsTextFault old new (fault.Damaged at second offset) =
    (at ≡ place.Net) × (second ≡ false) × ((bytes : List ℕ) → present old ≡ Some bytes → IsDamageIn 0 bytes (why.Damaged offset))
IsTextFault old new fault.NoMemory = Unit {0}
IsTextFault old new _ = ⊥

-- a disk was read: this is the text that its records keep, or why it wasn't read
pub record ReadsText (old new : DiskState) (result : Result (Option (List ℕ)) RunFault) : Type 0 where
  pub reads : IfOk result (λ found. (bytes : List ℕ) → present old ≡ Some bytes → StandsSuch (λ records. IsKeptIn records found) bytes)
  pub refused : IfErr result (IsTextFault old new)
  pub only_reads : OnlyReads old new
