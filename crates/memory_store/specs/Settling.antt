-- A snapshot in place of the records.
use Rattle.std.specs.Prelude.{◌≡◌, ◌⊎◌, ◌*◌, ◌<◌, ◌≤◌, ℕ, true, false, None, List, length, Result, Ok, Err, IfErr, OnOk}
use Rattle.disk_model.specs.Disk.{DiskState, HasCause, KeepsRest}
use Rattle.seata_types.specs.declared.errors.OpenError.{OpenError}
use Rattle.seata_types.specs.declared.errors.OpenError.TheVariants as open_error
use Rattle.journal_checkpoint.specs.declared.types.Found.{Found}
use Rattle.journal_checkpoint.specs.declared.twin.Twin.{Twin}
use Rattle.journal_checkpoint.specs.Images.{PairStandsFor, LeavesPairs, CannotCheckpoint, only_snapshot}
use Rattle.journal_checkpoint.specs.Keeping.{KeepsPair, active_disk, other_disk, first_disk, second_disk, disks, generation_of, is_down, records_length, twin_extent}
use Rattle.seata_types.specs.declared.limits.TheConstants.{ACTS}
use Rattle.memory_store.specs.Meanings.{Meaning}
use Rattle.memory_store.specs.Checkpoints.{AreChecked}
use Rattle.memory_store.specs.Holdings.{held_in}

-- the records past the snapshot take at most half of the active disk
abbrev pub IsShort : {D : Type 0} → (D → DiskState) → Twin D → Type 0
IsShort state t = 2 * records_length t ≤ (state (active_disk t)).size

-- no snapshot can be put in place of the records
abbrev pub CannotSettle : {K I D : Type 0} → Meaning K I → (D → DiskState) → K → Twin D → Type 0
CannotSettle m state known t =
    (ACTS ≤ m.acts known) ⊎ (m.can_write known ≡ false)
    ⊎ CannotCheckpoint (state (other_disk t)).size (length (m.snapshot_bytes known)) (generation_of t)

-- a snapshot of it can be written
pub record IsWritable {K I : Type 0} (m : Meaning K I) (known : K) : Type 0 where
  pub can : m.can_write known ≡ true
  pub few : m.acts known < ACTS
  pub sound : m.IsSound known

-- the snapshot of what is known, and no record past it
abbrev pub settled : {K I : Type 0} → Meaning K I → Found → K → Found
settled m found known = only_snapshot found (m.snapshot_bytes known)

-- two disks keep this, or the snapshot of what is known in its place
abbrev pub KeepsOrSettled : {K I D : Type 0} → (D → DiskState) → Meaning K I → Found → K → Twin D → Type 0
KeepsOrSettled state m found known t = KeepsPair state found t ⊎ (IsWritable m known × KeepsPair state (settled m found known) t)

-- the bytes stand for this, or for the snapshot of what is known in its place
abbrev pub StandsOrSettled : {K I : Type 0} → Meaning K I → Found → K → List ℕ → List ℕ → Type 0
StandsOrSettled m found known a b = PairStandsFor found a b ⊎ (IsWritable m known × PairStandsFor (settled m found known) a b)

-- what a pair of bytes holds is on these bytes too: they are the same, or they stand for what those stand for, or for its
-- snapshot
abbrev pub GoesOn : {K I : Type 0} → Meaning K I → (a b c d : List ℕ) → Type 0
GoesOn {K} m a b c d =
    ((c ≡ a) × (d ≡ b)) ⊎ ((found : Found) × ((known : K) × PairStandsFor found a b × (held_in m found ≡ Ok known) × StandsOrSettled m found known c d))

-- What reads and a checkpoint leave of a disk: its size, what it tells and its last pick stay, and its counts don't fall.
pub record RunsOn (old new : DiskState) : Type 0 where
  pub rest : KeepsRest old new
  pub faults : old.counts.faults ≤ new.counts.faults
  pub own : old.counts.own ≤ new.counts.own
  pub unarmed : old.counts.left ≡ None → new.counts.left ≡ None

-- an opening or a restart fails for its disks or for want of memory alone
abbrev pub IsNoDamage : OpenError → Type 0
IsNoDamage open_error.Failed = Unit {0}
IsNoDamage open_error.NoMemory = Unit {0}
IsNoDamage (open_error.Damaged second at) = ⊥
IsNoDamage (open_error.Full full) = ⊥

-- A snapshot of the memory was put in place of the snapshot and records where these take more than half of the disk and a snapshot can
-- be put in their place, or the disks or memory failed.
pub record Settles {K I D : Type 0} (state : D → DiskState) (m : Meaning K I) (known : K) (result : Result (Unit {0}) OpenError) (old new : Twin D) : Type 0 where
  pub keeps : OnOk result ((found : Found) → KeepsPair state found old → KeepsOrSettled state m found known new)
  -- a crash at any moment of the call, however it ends, leaves the old snapshot and records, or the new snapshot
  pub any_moment : (found : Found) → KeepsPair state found old → LeavesPairs (disks state old) (disks state new) (StandsOrSettled m found known)
  pub short : OnOk result ((found : Found) → KeepsPair state found old → IsShort state new ⊎ CannotSettle m state known new)
  pub extent : OnOk result (AreChecked state m known (twin_extent old) new)
  pub not_due : IsShort state old → new ≡ old
  pub error : IfErr result IsNoDamage
  pub no_memory : result ≡ Err open_error.NoMemory → new ≡ old
  pub failed : result ≡ Err open_error.Failed →
      HasCause (state (first_disk old)).counts (state (first_disk new)).counts ⊎ HasCause (state (second_disk old)).counts (state (second_disk new)).counts
  pub first : RunsOn (state (first_disk old)) (state (first_disk new))
  pub second : RunsOn (state (second_disk old)) (state (second_disk new))
  pub up : OnOk result (is_down new ≡ false)
