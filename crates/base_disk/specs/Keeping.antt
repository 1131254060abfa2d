-- A text on a disk, in the records of a journal from its first byte on.
use Rattle.std.specs.Prelude.{◌≡◌, ◌⊎◌, ◌+◌, ◌≤◌, ℕ, false, List, [], ◌∷◌, ◌++◌, length, Some, Result, Ok, Err, OnOk, OnErr}
use Rattle.disk_model.specs.Disk.{Counts, DiskState, HasCause, KeepsRest, Leaves, present}
use Rattle.seata_types.specs.declared.errors.Full.{Full}
use Rattle.seata_types.specs.declared.limits.TheConstants.{BODY_BYTES}
use Rattle.disk_journal.specs.declared.errors.JournalError.{JournalError}
use Rattle.disk_journal.specs.declared.errors.JournalError.TheVariants as why
use Rattle.disk_journal.specs.declared.journal.Journal.{Journal}
use Rattle.disk_journal.specs.declared.layout.TheConstants.{SHORTEST}
use Rattle.disk_journal.specs.Journals.{Keeps, disk_of, from_of, is_down}
use Rattle.disk_journal.specs.Keeping.{Holds, IsBeforeOrAfter, IsDamageIn, IsFull, OnlyReads, StandsFor}
use Rattle.disk_journal.specs.Reading.{row_length}
use Rattle.base_records.specs.Pieces.{IsFront, records_of}
use Rattle.base_disk.specs.declared.errors.BaseError.{BaseError}
use Rattle.base_disk.specs.declared.errors.BaseError.TheVariants as error
use Rattle.base_disk.specs.declared.marks.Mark.{Mark}
use Rattle.base_disk.specs.Marks.{left_of}

-- ---- what a disk had

-- these bytes are a journal, whose records are the first ones of a text
pub record HoldFirst (text bytes : List ℕ) : Type 0 where
  pub records : List (List ℕ)
  pub stand : StandsFor 0 records bytes
  pub front : IsFront BODY_BYTES records text

-- they are one whose records aren't
pub record HoldOthers (text bytes : List ℕ) : Type 0 where
  pub records : List (List ℕ)
  pub stand : StandsFor 0 records bytes
  pub other : IsFront BODY_BYTES records text → ⊥

-- what the answer says of the bytes that a disk had
abbrev pub Tells : (text bytes : List ℕ) → Result (Unit {0}) BaseError → Type 0
Tells text bytes (Ok done) = HoldFirst text bytes
Tells text bytes (Err (error.Full full)) = HoldFirst text bytes
Tells text bytes (Err error.Other) = HoldOthers text bytes
Tells text bytes (Err (error.Damaged at)) = IsDamageIn 0 bytes (why.Damaged at)
Tells text bytes (Err error.Failed) = Unit {0}
Tells text bytes (Err error.NoMemory) = Unit {0}

-- ---- what it has

-- bytes stand for records that a disk had, or where these are the first ones of a text, for them and some of its missing ones in order
pub record IsOnTheWay (text : List ℕ) (records : List (List ℕ)) (bytes : List ℕ) : Type 0 where
  pub more : List (List ℕ)
  pub stand : StandsFor 0 (records ++ more) bytes
  pub front : (more ≡ []) ⊎ IsFront BODY_BYTES (records ++ more) text

-- the next record of a text, behind these first ones, would end behind the last byte of a disk of so many
pub record LacksRoom (text : List ℕ) (size : ℕ) (full : Full) : Type 0 where
  pub records : List (List ℕ)
  pub next : List ℕ
  pub front : IsFront BODY_BYTES (records ++ next ∷ []) text
  pub is_full : IsFull (row_length records + length next + SHORTEST) size full

-- A text was to be kept on a disk. Where that is done, each image stands for its records; else the answer says why not. However it ends,
-- and at each moment on the way, the images stand for the records that the disk had, or for some of the missing ones besides. Other records and
-- damaged bytes are left alone.
pub record KeepsText (text : List ℕ) (old new : DiskState) (result : Result (Unit {0}) BaseError) : Type 0 where
  pub kept : OnOk result (Holds new 0 (records_of BODY_BYTES text))
  pub tells : (bytes : List ℕ) → present old ≡ Some bytes → Tells text bytes result
  pub images : (bytes : List ℕ) (records : List (List ℕ)) → present old ≡ Some bytes → StandsFor 0 records bytes
      → Leaves old new (IsOnTheWay text records)
  pub other : result ≡ Err error.Other → OnlyReads old new
  pub damaged : (at : ℕ) → result ≡ Err (error.Damaged at) → OnlyReads old new
  pub full : (full : Full) → result ≡ Err (error.Full full) → LacksRoom text new.size full
  pub failed : result ≡ Err error.Failed → HasCause old.counts new.counts
  pub rest : KeepsRest old new

-- ---- for the proofs alone

-- why a disk is no journal
abbrev pub opening_error : JournalError → BaseError
opening_error why.Failed = error.Failed
opening_error (why.Damaged at) = error.Damaged at
opening_error why.NoMemory = error.NoMemory

-- counts that didn't fall
pub record HaveNotFallen (old new : Counts) : Type 0 where
  pub faults : old.faults ≤ new.faults
  pub own : old.own ≤ new.own

-- a record was added behind others, or why it wasn't
pub record Adds {D : Type 0} (state : D → DiskState) (body : List ℕ) (old new : Journal D) (result : Result (Unit {0}) BaseError) : Type 0 where
  pub keeps : OnOk result ((records : List (List ℕ)) → Keeps state records old → Keeps state (records ++ body ∷ []) new)
  pub images : (records : List (List ℕ)) → Keeps state records old → Leaves (state (disk_of old)) (state (disk_of new)) (IsBeforeOrAfter (from_of old) records body)
  pub full : (full : Full) → result ≡ Err (error.Full full) → (records : List (List ℕ)) → Keeps state records old
      → IsFull (from_of old + row_length records + length body + SHORTEST) (state (disk_of old)).size full
  pub failed : result ≡ Err error.Failed → HasCause (state (disk_of old)).counts (state (disk_of new)).counts
  pub known : OnErr result ((result ≡ Err error.Failed) ⊎ ((full : Full) × (result ≡ Err (error.Full full))))
  pub counts : HaveNotFallen (state (disk_of old)).counts (state (disk_of new)).counts
  pub rest : KeepsRest (state (disk_of old)) (state (disk_of new))
  pub begins : from_of new ≡ from_of old
  pub up : OnOk result (is_down new ≡ false)

-- the records of a text from a mark on were added behind its first ones, or why not all
pub record AddsAll {D : Type 0} (state : D → DiskState) (text : List ℕ) (mark : Mark) (old new : Journal D) (result : Result (Unit {0}) BaseError) : Type 0 where
  pub keeps : OnOk result ((records : List (List ℕ)) → Keeps state records old → records_of BODY_BYTES text ≡ records ++ left_of text mark → Keeps state (records_of BODY_BYTES text) new)
  pub images : (records : List (List ℕ)) → Keeps state records old → records_of BODY_BYTES text ≡ records ++ left_of text mark → from_of old ≡ 0
      → Leaves (state (disk_of old)) (state (disk_of new)) (IsOnTheWay text records)
  pub full : (full : Full) → result ≡ Err (error.Full full) → (records : List (List ℕ)) → Keeps state records old → records_of BODY_BYTES text ≡ records ++ left_of text mark → from_of old ≡ 0
      → LacksRoom text (state (disk_of new)).size full
  pub failed : result ≡ Err error.Failed → HasCause (state (disk_of old)).counts (state (disk_of new)).counts
  pub known : OnErr result ((result ≡ Err error.Failed) ⊎ ((full : Full) × (result ≡ Err (error.Full full))))
  pub counts : HaveNotFallen (state (disk_of old)).counts (state (disk_of new)).counts
  pub rest : KeepsRest (state (disk_of old)) (state (disk_of new))
  pub begins : from_of new ≡ from_of old
