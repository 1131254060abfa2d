-- What a store shows of itself and keeps, and what its calls do.
use Rattle.std.specs.Prelude.{◌≡◌, ◌⊎◌, ℕ, ◌+◌, ◌*◌, ◌^◌, ◌<◌, ◌≤◌, Bool, true, Option, Some, None, IsSome, List, Result, Ok, Err}
use Rattle.std.specs.Borrow.{Lends, Fml, RattleType, MutBor}
use Rattle.disk_model.specs.Disk.{DiskState, SameKind, KeepsRest, Rose, CountsCalls, last_pick}
use Rattle.disk_model.specs.declared.errors.Failed.{Failed}
use Rattle.disk_journal.specs.Keeping.{IsFull}
use Rattle.disk_journal.specs.Reading.{row_length}
use Rattle.seata_types.specs.declared.errors.Full.{Full}
use Rattle.seata_types.specs.declared.errors.OpenError.{OpenError}
use Rattle.seata_types.specs.declared.errors.OpenError.TheVariants as open_error
use Rattle.seata_types.specs.declared.errors.StoreError.{StoreError}
use Rattle.seata_types.specs.declared.errors.StoreError.TheVariants as store_error
use Rattle.journal_checkpoint.specs.declared.types.Found.{Found}
use Rattle.journal_checkpoint.specs.declared.twin.Twin.{Twin}
use Rattle.journal_checkpoint.specs.Images.{PairStandsFor}
use Rattle.journal_checkpoint.specs.Keeping.{KeepsPair, active_disk, other_disk, first_disk, second_disk, is_second, needed_for, with_active, is_down as twin_is_down}
use Rattle.journal_checkpoint.specs.Extents.{extent_of}
use Rattle.memory_store.specs.declared.store.Store.{Store}
use Rattle.memory_store.specs.contracts.store.Store.{the_row}
use Rattle.memory_store.specs.Meanings.{Meaning}
use Rattle.memory_store.specs.Holdings.{held_in, memory_on, second_in, first_place}
use Rattle.memory_store.specs.Checkpoints.{AreChecked}
use Rattle.memory_store.specs.Settling.{IsShort, CannotSettle, KeepsOrSettled}

-- ---- what it shows of itself

-- the settings of its memory
abbrev pub machine_of : {M K D : Type 0} → Store M K D → M
machine_of s = s.machine

-- what it knows
abbrev pub memory_of : {M K D : Type 0} → Store M K D → K
memory_of s = s.memory

-- its two disks, with the records on them
abbrev pub twin_of : {M K D : Type 0} → Store M K D → Twin D
twin_of s = s.twin

-- the first record that its opening read, as a disk and an offset
abbrev pub found_of : {M K D : Type 0} → Store M K D → Option (Bool × ℕ)
found_of s = s.found

-- a call failed, so that it takes no more records
abbrev pub is_down : {M K D : Type 0} → Store M K D → Bool
is_down s = twin_is_down s.twin

-- Each pair of images of its disks stands for this snapshot and these records, and what they hold is what it knows.
pub record Keeps {M K D I : Type 0} (state : D → DiskState) (m : Meaning K I) (found : Found) (s : Store M K D) : Type 0 where
  pub pair : KeepsPair state found (twin_of s)
  pub held : held_in m found ≡ Ok (memory_of s)

-- ---- one record more

-- The active disk took a record: four writes and syncs went by a stop, if one is armed.
pub record Takes {D : Type 0} (state : D → DiskState) (old new : Twin D) : Type 0 where
  pub counts : CountsCalls {T = Unit {0}} {E = Failed} 4 (Ok tt) (state (active_disk old)).counts (state (active_disk new)).counts
  pub rest : KeepsRest (state (active_disk old)) (state (active_disk new))
  pub other : other_disk new ≡ other_disk old
  pub second : is_second new ≡ is_second old

-- The active disk failed, since a stop let fewer than four calls pass, or by its own fault.
pub record Falls {D : Type 0} (state : D → DiskState) (old new : Twin D) : Type 0 where
  pub cause : Rose (state (active_disk old)).counts.own (state (active_disk new)).counts.own
      ⊎ ((calls : ℕ) × ((state (active_disk old)).counts.left ≡ Some calls) × (calls < 4))
  pub counts : CountsCalls {T = Unit {0}} {E = Failed} 4 (Err (record {})) (state (active_disk old)).counts (state (active_disk new)).counts
  pub rest : KeepsRest (state (active_disk old)) (state (active_disk new))
  pub other : other_disk new ≡ other_disk old
  pub second : is_second new ≡ is_second old

-- its records can't be counted in four bytes; a store that keeps what its disks hold is never there
abbrev pub IsAtEnd : {M K D I : Type 0} → Meaning K I → Store M K D → Type 0
IsAtEnd m s = m.acts (memory_of s) + 1 ≡ 2 ^ 32

-- a record with a body of so many bytes would end behind the active disk's last byte
abbrev pub IsFullFor : {M K D : Type 0} → (D → DiskState) → ℕ → Store M K D → Full → Type 0
IsFullFor state body s full = IsFull (needed_for (twin_of s) body) (state (active_disk (twin_of s))).size full

-- a record with a body of so many bytes ends within the active disk
abbrev pub HasRoomFor : {M K D : Type 0} → (D → DiskState) → ℕ → Store M K D → Type 0
HasRoomFor state body s = needed_for (twin_of s) body ≤ (state (active_disk (twin_of s))).size

-- it has room for a record that was put on the disks, or at which they failed
abbrev pub HasRoomIfTaken : {M K D : Type 0} → (D → DiskState) → ℕ → Result (Unit {0}) StoreError → Store M K D → Type 0
HasRoomIfTaken state body (Ok done) s = HasRoomFor state body s
HasRoomIfTaken state body (Err store_error.Failed) s = HasRoomFor state body s
HasRoomIfTaken state body (Err (store_error.Full full)) s = Unit {0}
HasRoomIfTaken state body (Err store_error.NoMemory) s = Unit {0}

-- what the memory is after a record, where it was put on the disks, or that failed
abbrev pub ChangesMemory : {M K D I : Type 0} → Meaning K I → I → Result (Unit {0}) StoreError → Store M K D → Store M K D → Type 0
ChangesMemory m item (Ok x) old new = memory_of new ≡ m.after item (memory_of old)
ChangesMemory m item (Err store_error.Failed) old new = memory_of new ≡ m.after item (memory_of old)
ChangesMemory m item (Err (store_error.Full full)) old new = new ≡ old
ChangesMemory m item (Err store_error.NoMemory) old new = new ≡ old

-- ---- openings

-- an error is the damage that the bytes have
abbrev pub IsDamage : {K I : Type 0} → Meaning K I → List ℕ → List ℕ → OpenError → Type 0
IsDamage m a b (open_error.Damaged second at) = memory_on m a b ≡ Err (open_error.Damaged second at)
IsDamage m a b open_error.Failed = Unit {0}
IsDamage m a b (open_error.Full full) = ⊥
IsDamage m a b open_error.NoMemory = Unit {0}

-- an opening or a restart is never full
abbrev pub IsNotFull : OpenError → Type 0
IsNotFull (open_error.Full full) = ⊥
IsNotFull (open_error.Damaged second at) = Unit {0}
IsNotFull open_error.Failed = Unit {0}
IsNotFull open_error.NoMemory = Unit {0}

-- What these bytes hold is what it knows, and its disks keep it.
pub record IsRead {M K D I : Type 0} (state : D → DiskState) (m : Meaning K I) (a b : List ℕ) (s : Store M K D) : Type 0 where
  pub found : Found
  pub stands : PairStandsFor found a b
  pub keeps : Keeps state m found s

-- a crash now leaves these bytes and no others
abbrev pub LeavesAlone : List ℕ → DiskState → Type 0
LeavesAlone a disk = (c : List ℕ) → disk.may_leave c → c ≡ a

-- What these bytes hold is what it knows, and its disks keep it, as the bytes have it or as a snapshot.
pub record IsOf {M K D I : Type 0} (state : D → DiskState) (m : Meaning K I) (a b : List ℕ) (s : Store M K D) : Type 0 where
  pub found : Found
  pub stands : PairStandsFor found a b
  pub held : held_in m found ≡ Ok (memory_of s)
  pub kept : KeepsOrSettled state m found (memory_of s) (twin_of s)
  -- the records past the snapshot take at most half of the disk, unless no snapshot can be put in their place
  pub short : IsShort state (twin_of s) ⊎ CannotSettle m state (memory_of s) (twin_of s)
  pub extent : AreChecked state m (memory_of s) (extent_of found) (twin_of s)
  -- where the records of these bytes take at most half of either disk, no byte was changed: a crash now leaves these and no others
  pub same : 2 * row_length found.records ≤ (state (first_disk (twin_of s))).size → 2 * row_length found.records ≤ (state (second_disk (twin_of s))).size →
      LeavesAlone a (state (first_disk (twin_of s))) × LeavesAlone b (state (second_disk (twin_of s)))

-- the first record that it found is the first one there
abbrev pub FindsFirst : {M K D : Type 0} → List ℕ → List ℕ → Store M K D → Type 0
FindsFirst a b s = (found : Found) → PairStandsFor found a b → found_of s ≡ first_place (second_in a b) found

-- ---- restarts

-- What a restart with this pick, and a checkpoint after it, did to a disk, where it answered Ok or not.
pub record ComesUp (ok : Bool) (pick : ℕ) (old new : DiskState) : Type 0 where
  pub picked : ok ≡ true → (p : Option ℕ) → last_pick new ≡ Some p → p ≡ Some pick
  pub unarmed : ok ≡ true → new.counts.left ≡ None
  pub faults : old.counts.faults ≤ new.counts.faults
  pub own : old.counts.own ≤ new.counts.own
  pub kind : SameKind old new

-- in each pair of bytes that a crash may leave of two disks the records take at most half of either
abbrev pub AlwaysShort : (first second : DiskState) → Type 0
AlwaysShort first second =
    (a b : List ℕ) (found : Found) → first.may_leave a → second.may_leave b → PairStandsFor found a b → (2 * row_length found.records ≤ first.size) × (2 * row_length found.records ≤ second.size)

-- where that held before, a crash now leaves a pair that it could leave then
abbrev pub StaysWhereShort : {D : Type 0} → (D → DiskState) → (old new : Twin D) → Type 0
StaysWhereShort state old new =
    AlwaysShort (state (first_disk old)) (state (second_disk old)) → (c d : List ℕ) → (state (first_disk new)).may_leave c → (state (second_disk new)).may_leave d →
    (state (first_disk old)).may_leave c × (state (second_disk old)).may_leave d

-- It came back as one of the pairs of images that these picks may give, and knows what that pair holds.
pub record IsBack {M K D I : Type 0} (state : D → DiskState) (m : Meaning K I) (pick : ℕ) (old new : Store M K D) : Type 0 where
  pub a : List ℕ
  pub b : List ℕ
  pub first : (state (first_disk (twin_of old))).may_leave a × (state (first_disk (twin_of old))).comes_back pick a
  pub second : (state (second_disk (twin_of old))).may_leave b × (state (second_disk (twin_of old))).comes_back pick b
  pub is : IsOf state m a b new

-- the disk tells its bytes
abbrev pub IsTold : DiskState → Type 0
IsTold disk = IsSome disk.content

-- ---- what an opening hands on

-- the disks of whatever has two, in their order
abbrev pub first_handed_on : {S D : Type 0} → (S → Twin D) → Result S (OpenError × D × D) → D
first_handed_on twin (Ok s) = first_disk (twin s)
first_handed_on twin (Err failed) = failed.1

abbrev pub second_handed_on : {S D : Type 0} → (S → Twin D) → Result S (OpenError × D × D) → D
second_handed_on twin (Ok s) = second_disk (twin s)
second_handed_on twin (Err failed) = failed.2

-- two disks stay
pub record SameTwins {D : Type 0} (old new : Twin D) : Type 0 where
  pub first : first_disk new ≡ first_disk old
  pub second : second_disk new ≡ second_disk old

-- ---- what is lent

abbrev pub with_twin : {M K D : Type 0} → Store M K D → Twin D → Store M K D
with_twin s t = record s { twin = t }

abbrev pub with_memory : {M K D : Type 0} → Store M K D → K → Store M K D
with_memory s known = record s { memory = known }

module _ (M K D : RattleType) where
  -- it ends with the last memory behind r
  abbrev pub LendsMemory : MutBor (Store M.Denot K.Denot D.Denot) → MutBor K.Denot → Fml
  LendsMemory s r = Lends (the_row M K D) K s r (with_memory s.now)

  -- it ends with the last disk behind r as the active one
  abbrev pub LendsActive : MutBor (Store M.Denot K.Denot D.Denot) → MutBor D.Denot → Fml
  LendsActive s r = Lends (the_row M K D) D s r (λ disk. with_twin s.now (with_active s.now.twin disk))
