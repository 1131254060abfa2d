-- What two disks keep, as their owner sees it.
use Rattle.std.specs.Prelude.{◌≡◌, ℕ, ◌-◌, Bool, true, false, List, Result, Ok, Err}
use Rattle.std.specs.Borrow.{Lends, Fml, RattleType, MutBor}
use Rattle.disk_model.specs.Disk.{DiskState, IsSettled, KeepsRest, CountsCalls}
use Rattle.disk_model.specs.declared.errors.Failed.{Failed}
use Rattle.disk_journal.specs.Journals.{Keeps, disk_of, from_of, end_of, with_disk, is_down as journal_is_down, needed_for as journal_needs}
use Rattle.journal_checkpoint.specs.declared.types.Active.{Active}
use Rattle.journal_checkpoint.specs.declared.types.Found.{Found}
use Rattle.journal_checkpoint.specs.declared.types.TwinError.{TwinError}
use Rattle.journal_checkpoint.specs.declared.types.TwinError.TheVariants as why
use Rattle.journal_checkpoint.specs.declared.twin.Twin.{Twin}
use Rattle.journal_checkpoint.specs.contracts.twin.Twin.{the_row}
use Rattle.journal_checkpoint.specs.Pairs.{chosen, head_of, held}
use Rattle.journal_checkpoint.specs.Images.{Pair, IsActiveDisk, IsOtherHead, checkpoint_calls}
use Rattle.journal_checkpoint.specs.Extents.{Extent, extent_of, on_snapshot}

-- The disks

-- the one with the snapshot and the records, which takes what is added
abbrev pub active_disk : {D : Type 0} → Twin D → D
active_disk t = disk_of t.journal

-- the one that the next checkpoint is written on
abbrev pub other_disk : {D : Type 0} → Twin D → D
other_disk t = t.other

-- the second disk is the active one
abbrev pub is_second : {D : Type 0} → Twin D → Bool
is_second t = t.second

-- the disk that comes first, and the one that comes second
abbrev pub first_disk : {D : Type 0} → Twin D → D
first_disk t = chosen t.second (active_disk t) (other_disk t)

abbrev pub second_disk : {D : Type 0} → Twin D → D
second_disk t = chosen t.second (other_disk t) (active_disk t)

abbrev pub ordered : Bool → DiskState → DiskState → Pair
ordered true active other = record { first = other; second = active }
ordered false active other = record { first = active; second = other }

-- the states of the two disks in their order
abbrev pub disks : {D : Type 0} → (D → DiskState) → Twin D → Pair
disks state t = ordered t.second (state (active_disk t)) (state (other_disk t))

-- What it shows of itself

-- a call failed, so that it takes no more records
abbrev pub is_down : {D : Type 0} → Twin D → Bool
is_down t = journal_is_down t.journal

-- the generation of the active disk's snapshot, 0 where there is none
abbrev pub generation_of : {D : Type 0} → Twin D → ℕ
generation_of t = t.generation

-- the other disk's switch is open, with an older snapshot
abbrev pub other_is_open : {D : Type 0} → Twin D → Bool
other_is_open t = t.other_open

-- where a record with a body of so many bytes would end on the active disk, with the next gate behind it
abbrev pub needed_for : {D : Type 0} → Twin D → ℕ → ℕ
needed_for t body = journal_needs t.journal body

-- how many bytes the records past the snapshot take, up to the next gate
abbrev pub records_length : {D : Type 0} → Twin D → ℕ
records_length t = end_of t.journal - from_of t.journal

-- where its journal stands
abbrev pub twin_extent : {D : Type 0} → Twin D → Extent
twin_extent t = record { second = is_second t; generation = generation_of t; begins = from_of t.journal; end = end_of t.journal }

-- both disks have so many bytes
pub record AreSized {D : Type 0} (state : D → DiskState) (t : Twin D) (size : ℕ) : Type 0 where
  pub first : (state (first_disk t)).size ≡ size
  pub second : (state (second_disk t)).size ≡ size

-- Nothing is pending, each pair of images stands for this snapshot and these records, and the next record goes behind them.
pub record KeepsPair {D : Type 0} (state : D → DiskState) (found : Found) (t : Twin D) : Type 0 where
  pub journal : Keeps state found.records t.journal
  pub settled : IsSettled (state (other_disk t))
  pub active : (c : List ℕ) → (state (active_disk t)).may_leave c → IsActiveDisk t.generation (from_of t.journal) found.snapshot c
  pub passive : (c : List ℕ) → (state (other_disk t)).may_leave c → IsOtherHead t.generation t.other_open (head_of c)
  pub side : t.generation ≡ 0 → t.second ≡ false
  pub extent : twin_extent t ≡ extent_of found

-- Checkpoints

-- A checkpoint of so many bytes was made on the other disk, which is now the active one. No call was made of the disk that was active.
pub record IsExchanged {D : Type 0} (state : D → DiskState) (count : ℕ) (old new : Twin D) : Type 0 where
  pub former : other_disk new ≡ active_disk old
  pub extent : twin_extent new ≡ on_snapshot count (twin_extent old)
  pub counts : CountsCalls {E = Failed} (checkpoint_calls (other_is_open old)) (Ok true) (state (other_disk old)).counts (state (active_disk new)).counts
  pub rest : KeepsRest (state (other_disk old)) (state (active_disk new))

-- The other disk failed in a checkpoint. No call was made of the active one.
pub record IsFallen {D : Type 0} (state : D → DiskState) (error : Failed) (old new : Twin D) : Type 0 where
  pub active : active_disk new ≡ active_disk old
  pub second : is_second new ≡ is_second old
  pub counts : CountsCalls {T = Bool} (checkpoint_calls (other_is_open old)) (Err error) (state (other_disk old)).counts (state (other_disk new)).counts
  pub rest : KeepsRest (state (other_disk old)) (state (other_disk new))

-- Opening

-- an error is the damage that these bytes of the active disk have
abbrev pub IsHeldDamage : Active → List ℕ → TwinError → Type 0
IsHeldDamage active c (why.Damaged second at) = held active c ≡ Err (why.Damaged second at)
IsHeldDamage active c why.Failed = Unit {0}
IsHeldDamage active c why.NoMemory = Unit {0}

-- what an opening read
abbrev pub read_by : {D : Type 0} → Result (Twin D × Found) (TwinError × D × D) → Result Found TwinError
read_by (Ok opened) = Ok opened.1
read_by (Err failed) = Err failed.0

-- the disks that it hands on
abbrev pub first_after : {D : Type 0} → Result (Twin D × Found) (TwinError × D × D) → D
first_after (Ok opened) = first_disk opened.0
first_after (Err failed) = failed.1

abbrev pub second_after : {D : Type 0} → Result (Twin D × Found) (TwinError × D × D) → D
second_after (Ok opened) = second_disk opened.0
second_after (Err failed) = failed.2

-- Disks that are lent

abbrev pub with_active : {D : Type 0} → Twin D → D → Twin D
with_active t disk = record t { journal = with_disk t.journal disk }

abbrev pub with_other : {D : Type 0} → Twin D → D → Twin D
with_other t disk = record t { other = disk }

module _ (D : RattleType) where
  -- it ends with the last disk behind r as the active one
  abbrev pub LendsActive : MutBor (Twin D.Denot) → MutBor D.Denot → Fml
  LendsActive t r = Lends (the_row D) D t r (with_active t.now)

  -- it ends with the last disk behind r as the other one
  abbrev pub LendsOther : MutBor (Twin D.Denot) → MutBor D.Denot → Fml
  LendsOther t r = Lends (the_row D) D t r (with_other t.now)
