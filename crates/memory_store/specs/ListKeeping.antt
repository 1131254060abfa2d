-- What a store keeps of lists of records, and what its calls do with them.
use Rattle.std.specs.Prelude.{◌≡◌, ◌⊎◌, ℕ, ◌<◌, Bool, true, false, List, ◌∷◌, length, Some, Result, Ok, Err, OnOk}
use Rattle.disk_model.specs.Disk.{DiskState}
use Rattle.seata_types.specs.declared.errors.StoreError.{StoreError}
use Rattle.seata_types.specs.declared.errors.StoreError.TheVariants as store_error
use Rattle.journal_checkpoint.specs.declared.types.Found.{Found}
use Rattle.journal_checkpoint.specs.Images.{LeavesPairs}
use Rattle.journal_checkpoint.specs.Extents.{Extent, extent_of, longer}
use Rattle.journal_checkpoint.specs.Keeping.{active_disk, first_disk, second_disk, twin_extent, disks}
use Rattle.memory_store.specs.declared.store.Store.{Store}
use Rattle.memory_store.specs.Keeping.{machine_of, memory_of, twin_of, found_of, is_down, Keeps, Takes, Falls, HasRoomFor, IsFullFor, IsOf}
use Rattle.memory_store.specs.Lists.{Lists, IsListOf, StandsForList}

-- each pair of images of its disks stands for these records, and it knows what they say
pub record KeepsRecords {M K D I S : Type 0} (state : D → DiskState) (l : Lists K I S) (rs : List I) (s : Store M K D) : Type 0 where
  pub found : Found
  pub kept : Keeps state l.meaning found s
  pub list : IsListOf l rs found
  pub knows : memory_of s ≡ l.says rs

-- ---- one record more

-- the bytes stand for the records, or for these and the new one
abbrev pub WithOrWithout : {K I S : Type 0} → Lists K I S → I → List I → List ℕ → List ℕ → Type 0
WithOrWithout l r rs a b = StandsForList l rs a b ⊎ StandsForList l (r ∷ rs) a b

-- the bytes stand for these records, and their journal stands there
abbrev pub StandsAt : {K I S : Type 0} → Lists K I S → List I → Extent → List ℕ → List ℕ → Type 0
StandsAt l rs e a b = (h : StandsForList l rs a b) × (extent_of h.found ≡ e)

-- the bytes stand for the records, with their journal there, or for these and the new one behind them
abbrev pub AtOrBehind : {K I S : Type 0} → Lists K I S → I → List I → Extent → List ℕ → List ℕ → Type 0
AtOrBehind l r rs e a b = StandsAt l rs e a b ⊎ StandsAt l (r ∷ rs) (longer (length (l.bytes_of r)) e) a b

-- a crash at any moment of the call leaves the records, with the new one or without
abbrev pub LeavesEither : {M K D I S : Type 0} → (D → DiskState) → Lists K I S → I → List I → Store M K D → Store M K D → Type 0
LeavesEither state l r rs old new = LeavesPairs (disks state (twin_of old)) (disks state (twin_of new)) (AtOrBehind l r rs (twin_extent (twin_of old)))

-- where a stop lets fewer than two calls pass, it leaves the records without the new one
abbrev pub LeavesFirst : {M K D I S : Type 0} → (D → DiskState) → Lists K I S → List I → Store M K D → Store M K D → Type 0
LeavesFirst state l rs old new = (calls : ℕ) → (state (active_disk (twin_of old))).counts.left ≡ Some calls → calls < 2 →
    LeavesPairs (disks state (twin_of old)) (disks state (twin_of new)) (StandsAt l rs (twin_extent (twin_of old)))

-- the record ends within the active disk
abbrev pub HasRoom : {M K D I S : Type 0} → (D → DiskState) → Lists K I S → I → Store M K D → Type 0
HasRoom state l r s = HasRoomFor state (length (l.bytes_of r)) s

-- The record fits, is on the disks, and known.
pub record Adds {M K D I S : Type 0} (state : D → DiskState) (l : Lists K I S) (r : I) (rs : List I) (old new : Store M K D) : Type 0 where
  pub fits : HasRoom state l r old
  -- its journal then stands behind the record
  pub extent : twin_extent (twin_of new) ≡ longer (length (l.bytes_of r)) (twin_extent (twin_of old))
  pub keeps : KeepsRecords state l (r ∷ rs) new
  pub any_moment : LeavesEither state l r rs old new

-- The active disk failed: it may have the record, which fits, or not, and hasn't where a stop let fewer than two calls pass.
pub record Loses {M K D I S : Type 0} (state : D → DiskState) (l : Lists K I S) (r : I) (rs : List I) (old new : Store M K D) : Type 0 where
  pub fits : HasRoom state l r old
  pub any_moment : LeavesEither state l r rs old new
  pub not_begun : LeavesFirst state l rs old new

-- What a call that makes a record leaves of these records, by its answer: the record is added, or may be; or it doesn't fit.
abbrev pub Makes : {M K D I S : Type 0} → (D → DiskState) → Lists K I S → I → List I → Result (Unit {0}) StoreError → Store M K D → Store M K D → Type 0
Makes state l r rs (Ok done) old new = Adds state l r rs old new
Makes state l r rs (Err store_error.Failed) old new = Loses state l r rs old new
Makes state l r rs (Err (store_error.Full full)) old new = IsFullFor state (length (l.bytes_of r)) old full
Makes state l r rs (Err store_error.NoMemory) old new = Unit {0}

-- What it does to the disks of what has a store in it, whatever they hold: the active one takes a record, or fails; or nothing changes.
abbrev pub Moves : {S M K D : Type 0} → (D → DiskState) → (S → Store M K D) → Result (Unit {0}) StoreError → S → S → Type 0
Moves state store (Ok done) old new = Takes state (twin_of (store old)) (twin_of (store new))
Moves state store (Err store_error.Failed) old new = Falls state (twin_of (store old)) (twin_of (store new))
Moves state store (Err (store_error.Full full)) old new = new ≡ old
Moves state store (Err store_error.NoMemory) old new = new ≡ old

-- the disks failed
abbrev pub has_failed : Result (Unit {0}) StoreError → Bool
has_failed (Ok done) = false
has_failed (Err store_error.Failed) = true
has_failed (Err (store_error.Full full)) = false
has_failed (Err store_error.NoMemory) = false

-- What a call that makes a record does. After a failure of the disks it is down, and knows the record.
pub record Changes {O M K D I S : Type 0} (state : D → DiskState) (l : Lists K I S) (store : O → Store M K D) (r : I) (result : Result (Unit {0}) StoreError) (old new : O) : Type 0 where
  pub makes : (rs : List I) → KeepsRecords state l rs (store old) → Makes state l r rs result (store old) (store new)
  pub disks : Moves state store result old new
  pub knows : OnOk result (memory_of (store new) ≡ l.meaning.after r (memory_of (store old)))
  pub lost : result ≡ Err store_error.Failed → memory_of (store new) ≡ l.meaning.after r (memory_of (store old))
  pub down : is_down (store new) ≡ has_failed result
  pub setting : machine_of (store new) ≡ machine_of (store old)
  pub found : found_of (store new) ≡ found_of (store old)

-- ---- restarts

-- It came back as one of the pairs of images that this pick may give: it knows what that pair holds, with a snapshot in place
-- of the records where one was due, and keeps each list of records that the pair stands for.
pub record BringsBack {M K D I S : Type 0} (state : D → DiskState) (l : Lists K I S) (pick : ℕ) (old new : Store M K D) : Type 0 where
  pub a : List ℕ
  pub b : List ℕ
  pub first : (state (first_disk (twin_of old))).may_leave a × (state (first_disk (twin_of old))).comes_back pick a
  pub second : (state (second_disk (twin_of old))).may_leave b × (state (second_disk (twin_of old))).comes_back pick b
  pub is : IsOf state l.meaning a b new
  pub keeps : (rs : List I) → StandsForList l rs a b → KeepsRecords state l rs new
