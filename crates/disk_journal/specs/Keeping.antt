-- Which records stand on a disk, whatever a crash may leave of it.
use Rattle.std.specs.Prelude.{◌≡◌, ◌⊎◌, ℕ, ◌+◌, ◌<◌, ◌≤◌, Option, Some, None, List, [], ◌∷◌, ◌++◌, length, take, drop, Result, Ok, Err, OnOk}
use Rattle.disk_model.specs.Disk.{DiskState, IsSettled, KeepsContent, KeepsRest, Leaves, Pending, Counts, CountsCalls, put}
use Rattle.disk_model.specs.declared.errors.Failed.{Failed}
use Rattle.seata_types.specs.declared.errors.Full.{Full}
use Rattle.seata_types.specs.declared.limits.TheConstants.{BODY_BYTES}
use Rattle.disk_journal.specs.Reading.{Closed, Record, Damage, found, reading, row_length, staged}
use Rattle.disk_journal.specs.declared.errors.JournalError.{JournalError}
use Rattle.disk_journal.specs.declared.errors.JournalError.TheVariants as why
use Rattle.disk_journal.specs.declared.errors.AppendError.{AppendError}
use Rattle.disk_journal.specs.declared.errors.AppendError.TheVariants as error

-- these bytes stand for these records from an offset on
abbrev pub StandsFor : ℕ → List (List ℕ) → List ℕ → Type 0
StandsFor from bodies bytes = reading from (drop from bytes) ≡ Ok bodies

-- the records from before, or these and the new one
abbrev pub IsBeforeOrAfter : ℕ → List (List ℕ) → List ℕ → List ℕ → Type 0
IsBeforeOrAfter from bodies body bytes = StandsFor from bodies bytes ⊎ StandsFor from (bodies ++ body ∷ []) bytes

-- Nothing is pending, and each image stands for these records.
pub record Holds (disk : DiskState) (from : ℕ) (bodies : List (List ℕ)) : Type 0 where
  pub settled : IsSettled disk
  pub images : (c : List ℕ) → disk.may_leave c → StandsFor from bodies c

-- one of these outcomes, as far as the first n bytes go
abbrev pub SameFront : ℕ → (List ℕ → Type 0) → List ℕ → Type 0
SameFront n outcomes c = (d : List ℕ) × outcomes d × (take n c ≡ take n d) × (length c ≡ length d)

-- A crash at any moment of the call, or after it, leaves the records from before, or these and the new one.
pub record AddsAtMost (from : ℕ) (bodies : List (List ℕ)) (body : List ℕ) (old new : DiskState) : Type 0 where
  pub leaves : Leaves old new (IsBeforeOrAfter from bodies body)
  pub moments : (c : List ℕ) → new.left_since old.moment c → IsBeforeOrAfter from bodies body c

-- What reads in a row leave.
pub record OnlyReads (old new : DiskState) : Type 0 where
  pub content : KeepsContent old new
  pub images : Leaves old new old.may_leave
  pub rest : KeepsRest old new
  pub faults : old.counts.faults ≤ new.counts.faults
  pub own : old.counts.own ≤ new.counts.own
  pub left : new.counts.left ≡ old.counts.left

-- what a write that was made stable leaves: an image from before, with these bytes from an offset on
abbrev pub WrittenThrough : ℕ → List ℕ → DiskState → DiskState → Type 0
WrittenThrough at bytes old new = (c : List ℕ) → new.may_leave c → (p : List ℕ) × old.may_leave p × (c ≡ put at bytes p)

-- These bytes were written from an offset on and made stable, by so many calls, or the disk failed in one of them.
pub record WritesThrough (calls at : ℕ) (bytes : List ℕ) (result : Result (Unit {0}) Failed) (old new : DiskState) : Type 0 where
  pub written : OnOk result (WrittenThrough at bytes old new)
  pub settled : OnOk result (IsSettled new)
  pub images : Leaves old new (Pending at (length bytes) old.may_leave)
  pub counts : CountsCalls calls result old.counts new.counts
  pub rest : KeepsRest old new

-- What an opening finds at a gate is what stands there.
abbrev pub IsFoundAt : ℕ → List ℕ → Result (Option (List ℕ)) JournalError → Type 0
IsFoundAt gate c (Ok None) = found (drop gate c) ≡ Closed
IsFoundAt gate c (Ok (Some body)) = found (drop gate c) ≡ Record body
IsFoundAt gate c (Err (why.Damaged at)) = (at ≡ gate) × (found (drop gate c) ≡ Damage)
IsFoundAt gate c (Err why.Failed) = Unit {0}
IsFoundAt gate c (Err why.NoMemory) = Unit {0}

-- A damage is reported where these bytes have it.
abbrev pub IsDamageIn : ℕ → List ℕ → JournalError → Type 0
IsDamageIn from c (why.Damaged at) = reading from (drop from c) ≡ Err at
IsDamageIn from c why.Failed = Unit {0}
IsDamageIn from c why.NoMemory = Unit {0}

-- A record would end behind the disk's last byte.
pub record IsFull (needed size : ℕ) (full : Full) : Type 0 where
  pub past_end : size < needed
  pub needed_is : full.needed ≡ needed
  pub size_is : full.size ≡ size

-- These bytes, to be written behind the gate at this offset, make a record of this body behind those others.
pub record Stages (gate : ℕ) (bytes : List ℕ) (from : ℕ) (bodies : List (List ℕ)) (body : List ℕ) : Type 0 where
  pub gate_is : gate ≡ from + row_length bodies
  pub bytes_are : bytes ≡ staged body
  pub small : length body ≤ BODY_BYTES

-- A record that doesn't fit makes no call, and any other makes two writes, each with a sync.
abbrev pub CountsAppend : Result (Unit {0}) AppendError → Counts → Counts → Type 0
CountsAppend (Err (error.Full full)) old new = new ≡ old
CountsAppend (Err error.Failed) old new = CountsCalls {T = Unit {0}} 4 (Err error.Failed) old new
CountsAppend (Ok x) old new = CountsCalls {E = AppendError} 4 (Ok x) old new
