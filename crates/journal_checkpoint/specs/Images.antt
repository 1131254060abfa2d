-- What the images of two disks stand for, at the exits of a call and at each moment of it.
use Rattle.std.specs.Prelude.{◌≡◌, ◌⊎◌, ℕ, ◌+◌, ◌-◌, ◌^◌, ◌<◌, ◌≤◌, Bool, true, false, not, if◌then◌else◌, Option, Some, None, option_map, List, [], ◌∷◌, ◌++◌, length, Result, Ok, Err, IfOk, IfErr, OnOk}
use Rattle.disk_model.specs.Disk.{DiskState, Counts, SameKind, CountsCalls, HasCause, IsSettled, IsPicked, KeepsRest, Leaves, Rose, present, last_pick}
use Rattle.disk_model.specs.declared.errors.Failed.{Failed}
use Rattle.disk_journal.specs.Keeping.{OnlyReads, StandsFor}
use Rattle.disk_journal.specs.declared.errors.JournalError.{JournalError}
use Rattle.disk_journal.specs.declared.errors.JournalError.TheVariants as journal_error
use Rattle.journal_checkpoint.specs.declared.layout.TheConstants.{SNAPSHOT_HEAD_BYTES, AROUND}
use Rattle.journal_checkpoint.specs.declared.types.Head.{Head}
use Rattle.journal_checkpoint.specs.declared.types.Head.TheVariants as head
use Rattle.journal_checkpoint.specs.declared.types.Active.{Active}
use Rattle.journal_checkpoint.specs.declared.types.Found.{Found}
use Rattle.journal_checkpoint.specs.declared.types.TwinError.{TwinError}
use Rattle.journal_checkpoint.specs.declared.types.TwinError.TheVariants as why
use Rattle.journal_checkpoint.specs.Pairs.{chosen, head_of, active_of, pair_reading, snapshot_in}

-- the bytes of the two disks stand for a snapshot and records
abbrev pub PairStandsFor : Found → List ℕ → List ℕ → Type 0
PairStandsFor found first second = pair_reading first second ≡ Ok found

-- one record more
abbrev pub with_record : Found → List ℕ → Found
with_record found body = record found { records = found.records ++ body ∷ [] }

-- a snapshot on the other disk, of the next generation, and no record past it
abbrev pub only_snapshot : Found → List ℕ → Found
only_snapshot found snapshot = record { second = not found.second; generation = found.generation + 1; snapshot = Some snapshot; records = [] }

-- the bytes stand for the one or the other
abbrev pub Either : Found → Found → List ℕ → List ℕ → Type 0
Either one two a b = PairStandsFor one a b ⊎ PairStandsFor two a b

-- the two disks in their order
pub record Pair : Type 1 where
  pub first : DiskState
  pub second : DiskState

-- A crash after a call, or at any moment since its start, leaves pairs of bytes that have P.
pub record LeavesPairs (old new : Pair) (P : List ℕ → List ℕ → Type 0) : Type 0 where
  pub now : (a b : List ℕ) → new.first.may_leave a → new.second.may_leave b → P a b
  pub since : (a b : List ℕ) → new.first.left_since old.first.moment a → new.second.left_since old.second.moment b → P a b

-- where one of the two disks tells its bytes the other does
pub record TellAlike (first second : DiskState) : Type 0 where
  pub forth : (a : List ℕ) → present first ≡ Some a → (b : List ℕ) × (present second ≡ Some b)
  pub back : (b : List ℕ) → present second ≡ Some b → (a : List ℕ) × (present first ≡ Some a)

-- The active disk

-- it has this generation and this snapshot, and its records begin at this offset
abbrev pub IsActiveDisk : ℕ → ℕ → Option (List ℕ) → List ℕ → Type 0
IsActiveDisk generation from None c = (generation ≡ 0) × (from ≡ SNAPSHOT_HEAD_BYTES) × (head_of c ≡ head.Shut)
IsActiveDisk generation from (Some s) c = (0 < generation) × (from ≡ SNAPSHOT_HEAD_BYTES + length s) × (head_of c ≡ head.Open generation (length s)) × (snapshot_in c (length s) ≡ s)

-- where neither switch is open it is the first one
abbrev pub IsOnSide : Active → Type 0
IsOnSide active = active.generation ≡ 0 → active.second ≡ false

-- The other disk

-- its switch is closed, or open with an older generation
abbrev pub IsOtherHead : ℕ → Bool → Head → Type 0
IsOtherHead generation false h = h ≡ head.Shut
IsOtherHead generation true h = (g n : ℕ) × (h ≡ head.Open g n) × (g < generation)

abbrev pub IsPassive : ℕ → List ℕ → Type 0
IsPassive generation c = IsOtherHead generation false (head_of c) ⊎ IsOtherHead generation true (head_of c)

-- a new snapshot, and no record
pub record IsFresh (generation : ℕ) (snapshot c : List ℕ) : Type 0 where
  pub active : IsActiveDisk generation (SNAPSHOT_HEAD_BYTES + length snapshot) (Some snapshot) c
  pub empty : StandsFor (SNAPSHOT_HEAD_BYTES + length snapshot) [] c

-- it is passive still, or has the new snapshot
abbrev pub IsOldOrFresh : ℕ → List ℕ → List ℕ → Type 0
IsOldOrFresh generation snapshot c = IsPassive generation c ⊎ IsFresh (generation + 1) snapshot c

-- no checkpoint can be made: the snapshot doesn't fit on a disk of this size, or there is no greater generation
abbrev pub CannotCheckpoint : ℕ → ℕ → ℕ → Type 0
CannotCheckpoint size count generation = (size < count + AROUND) ⊎ (generation ≡ 2 ^ 32 - 1)

-- how many calls of the other disk a checkpoint makes: two more where its switch is open, to close it
abbrev pub checkpoint_calls : Bool → ℕ
checkpoint_calls other_open = if other_open then 8 else 6

-- A snapshot of the generation after this one was written where the switch was open or not, or the disk failed in one of the
-- calls. A crash at any moment leaves the disk passive, or active with this snapshot.
pub record WritesSnapshot (was_open : Bool) (generation : ℕ) (snapshot : List ℕ) (result : Result (Unit {0}) Failed) (old new : DiskState) : Type 0 where
  pub any_moment : ((c : List ℕ) → old.may_leave c → IsOtherHead generation was_open (head_of c)) → Leaves old new (IsOldOrFresh generation snapshot)
  pub written : OnOk result ((c : List ℕ) → new.may_leave c → IsFresh (generation + 1) snapshot c)
  pub settled : OnOk result (IsSettled new)
  pub counts : CountsCalls (checkpoint_calls was_open) result old.counts new.counts
  pub rest : KeepsRest old new

-- Opening

-- an error is the damage that the bytes have
abbrev pub IsPairDamage : List ℕ → List ℕ → TwinError → Type 0
IsPairDamage a b (why.Damaged second at) = pair_reading a b ≡ Err (why.Damaged second at)
IsPairDamage a b why.Failed = Unit {0}
IsPairDamage a b why.NoMemory = Unit {0}

-- it is that of the two heads
abbrev pub IsHeadDamage : List ℕ → List ℕ → TwinError → Type 0
IsHeadDamage a b (why.Damaged second at) = active_of (head_of a) (head_of b) ≡ Err (why.Damaged second at)
IsHeadDamage a b why.Failed = Unit {0}
IsHeadDamage a b why.NoMemory = ⊥

abbrev pub IsNoDamage : TwinError → Type 0
IsNoDamage (why.Damaged second at) = ⊥
IsNoDamage why.Failed = Unit {0}
IsNoDamage why.NoMemory = Unit {0}

-- a journal's error on its disk
abbrev pub error_on : Bool → JournalError → TwinError
error_on second journal_error.Failed = why.Failed
error_on second (journal_error.Damaged at) = why.Damaged second at
error_on second journal_error.NoMemory = why.NoMemory

-- the snapshot that an open head tells lies on a disk of this size
abbrev pub FitsHead : ℕ → Head → Type 0
FitsHead size head.Shut = Unit {0}
FitsHead size head.Broken = Unit {0}
FitsHead size (head.Open g n) = (0 < g) × (n + AROUND ≤ size)

abbrev pub FitsSnapshot : ℕ → Option ℕ → Type 0
FitsSnapshot size None = Unit {0}
FitsSnapshot size (Some n) = n + AROUND ≤ size

-- what was read is of this head
pub record HasHead (active : Active) (found : Found) : Type 0 where
  pub second : found.second ≡ active.second
  pub generation : found.generation ≡ active.generation
  pub snapshot : option_map length found.snapshot ≡ active.snapshot

-- two disks give this, or are not opened for another reason than damage
abbrev pub RecoversPair : Found → Result Found TwinError → Type 0
RecoversPair found (Ok read) = read ≡ found
RecoversPair found (Err error) = IsNoDamage error

-- Which disk is active was read from the heads of two disks: by what their bytes are, or the damage of one of the heads. It failed for
-- one of the disks, and wrote nothing.
pub record FindsActive (first second first_after second_after : DiskState) (result : Result Active TwinError) : Type 0 where
  pub active : IfOk result (λ active. (a b : List ℕ) → present first ≡ Some a → present second ≡ Some b → active_of (head_of a) (head_of b) ≡ Ok active)
  pub damaged : IfErr result (λ error. (a b : List ℕ) → present first ≡ Some a → present second ≡ Some b → IsHeadDamage a b error)
  pub fits : IfOk result (λ active. FitsSnapshot (chosen active.second first.size second.size) active.snapshot)
  pub on_side : IfOk result IsOnSide
  pub first_reads : OnlyReads first first_after
  pub second_reads : OnlyReads second second_after
  pub failed : result ≡ Err why.Failed → HasCause first.counts first_after.counts ⊎ HasCause second.counts second_after.counts

-- This is exactly what the bytes of two disks hold, and the damage is where they have it. What such a pair left is never damaged.
pub record TellsPair (first second : DiskState) (result : Result Found TwinError) : Type 0 where
  pub found : IfOk result (λ found. (a b : List ℕ) → present first ≡ Some a → present second ≡ Some b → PairStandsFor found a b)
  pub damaged : IfErr result (λ error. (a b : List ℕ) → present first ≡ Some a → present second ≡ Some b → IsPairDamage a b error)
  pub recovers : (found : Found) (a b : List ℕ) → present first ≡ Some a → present second ≡ Some b → PairStandsFor found a b → RecoversPair found result

-- Two disks were read to the end. It failed for one of them, and wrote nothing.
pub record ReadsPair (first second first_after second_after : DiskState) (result : Result Found TwinError) : Type 0 where
  pub tells : TellsPair first second result
  pub first_reads : OnlyReads first first_after
  pub second_reads : OnlyReads second second_after
  pub failed : result ≡ Err why.Failed → HasCause first.counts first_after.counts ⊎ HasCause second.counts second_after.counts

-- Restarts

-- What a restart with this pick, and reads after it, did to a disk, where it answered Ok or not.
pub record Restarts (ok : Bool) (pick : ℕ) (old new : DiskState) : Type 0 where
  pub images : (c : List ℕ) → new.may_leave c → old.may_leave c
  pub outcome : ok ≡ true → IsPicked pick old new
  pub settled : ok ≡ true → IsSettled new
  pub picked : ok ≡ true → (p : Option ℕ) → last_pick new ≡ Some p → p ≡ Some pick
  pub unarmed : ok ≡ true → new.counts.left ≡ None
  pub faults : old.counts.faults ≤ new.counts.faults
  pub own : old.counts.own ≤ new.counts.own
  pub kind : SameKind old new

-- the same of two disks
pub record RestartsPair (ok : Bool) (pick : ℕ) (one two one_after two_after : DiskState) : Type 0 where
  pub first : Restarts ok pick one one_after
  pub second : Restarts ok pick two two_after

-- the disk failed by its own fault
pub record FailsItself (old new : Counts) : Type 0 where
  pub fault : Rose old.faults new.faults
  pub own : Rose old.own new.own
