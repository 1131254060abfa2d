-- What opening two disks comes to, and coming back on them, for all that have a store in them.
use Rattle.std.specs.Prelude.{◌≡◌, ◌⊎◌, ◌*◌, ◌≤◌, ℕ, false, is_err, is_ok, List, Some, Result, Err, IfOk, IfErr}
use Rattle.disk_model.specs.Disk.{DiskState, HasCause, present}
use Rattle.disk_journal.specs.Keeping.{OnlyReads}
use Rattle.disk_journal.specs.Reading.{row_length}
use Rattle.seata_types.specs.declared.errors.OpenError.{OpenError}
use Rattle.seata_types.specs.declared.errors.OpenError.TheVariants as open_error
use Rattle.journal_checkpoint.specs.declared.types.Found.{Found}
use Rattle.journal_checkpoint.specs.declared.twin.Twin.{Twin}
use Rattle.journal_checkpoint.specs.Images.{FailsItself, PairStandsFor}
use Rattle.journal_checkpoint.specs.Keeping.{KeepsPair, first_disk, second_disk, is_down as twin_is_down}
use Rattle.memory_store.specs.declared.store.Store.{Store}
use Rattle.memory_store.specs.Meanings.{Meaning}
use Rattle.memory_store.specs.Settling.{GoesOn, IsNoDamage, IsShort, RunsOn}
use Rattle.memory_store.specs.Keeping.{twin_of, is_down, first_handed_on, second_handed_on, ComesUp, FindsFirst, IsDamage, IsNotFull, IsOf, IsRead, StaysWhereShort}

-- the disks of what has a store in it
abbrev pub twin_in : {S M K D : Type 0} → (S → Store M K D) → S → Twin D
twin_in store s = twin_of (store s)

-- the disks in their order that an opening hands on
abbrev pub first_by : {S M K D : Type 0} → (S → Store M K D) → Result S (OpenError × D × D) → D
first_by store result = first_handed_on (twin_in store) result

abbrev pub second_by : {S M K D : Type 0} → (S → Store M K D) → Result S (OpenError × D × D) → D
second_by store result = second_handed_on (twin_in store) result

-- an opening failed for one of the disks
abbrev pub FailsByDisks : {S D : Type 0} → (D → DiskState) → (one two : D) → Result S (OpenError × D × D) → Type 0
FailsByDisks state one two result =
    IfErr result (λ failed. failed.0 ≡ open_error.Failed → HasCause (state one).counts (state failed.1).counts ⊎ HasCause (state two).counts (state failed.2).counts)

-- Two disks were read, and no byte was changed: what it knows is exactly what the bytes hold, and the damage is where they have it.
pub record ReadsDisks {S M K D I : Type 0} (state : D → DiskState) (m : Meaning K I) (store : S → Store M K D) (one two : D) (result : Result S (OpenError × D × D)) : Type 0 where
  pub read : IfOk result (λ s. (a b : List ℕ) → present (state one) ≡ Some a → present (state two) ≡ Some b → IsRead state m a b (store s))
  pub place : IfOk result (λ s. (a b : List ℕ) → present (state one) ≡ Some a → present (state two) ≡ Some b → FindsFirst a b (store s))
  pub damaged : IfErr result (λ failed. (a b : List ℕ) → present (state one) ≡ Some a → present (state two) ≡ Some b → IsDamage m a b failed.0)
  pub failed : FailsByDisks state one two result
  pub not_full : IfErr result (λ failed. IsNotFull failed.0)
  pub first_reads : OnlyReads (state one) (state (first_by store result))
  pub second_reads : OnlyReads (state two) (state (second_by store result))
  pub up : IfOk result (λ s. is_down (store s) ≡ false)

-- Two disks were opened: read, and a snapshot put in place of the records where these had grown long.
pub record OpensDisks {S M K D I : Type 0} (state : D → DiskState) (m : Meaning K I) (store : S → Store M K D) (GoesOnAs : (a b c d : List ℕ) → Type 0) (one two : D)
    (result : Result S (OpenError × D × D)) : Type 0 where
  -- what it knows is what the bytes hold, and the records past a snapshot take at most half of the disk, unless no snapshot can be put
  -- in their place
  pub opened : IfOk result (λ s. (a b : List ℕ) → present (state one) ≡ Some a → present (state two) ≡ Some b → IsOf state m a b (store s))
  pub place : IfOk result (λ s. (a b : List ℕ) → present (state one) ≡ Some a → present (state two) ≡ Some b → FindsFirst a b (store s))
  pub damaged : IfErr result (λ failed. (a b : List ℕ) → present (state one) ≡ Some a → present (state two) ≡ Some b → IsDamage m a b failed.0)
  -- a crash after it, however it ended, leaves what goes on as the bytes do
  pub images : (a b c d : List ℕ) → present (state one) ≡ Some a → present (state two) ≡ Some b →
      (state (first_by store result)).may_leave c → (state (second_by store result)).may_leave d → GoesOnAs a b c d
  -- where the records take at most half of either disk it changes no byte
  pub not_due : (a b : List ℕ) (found : Found) → present (state one) ≡ Some a → present (state two) ≡ Some b → PairStandsFor found a b →
      2 * row_length found.records ≤ (state one).size → 2 * row_length found.records ≤ (state two).size →
      OnlyReads (state one) (state (first_by store result)) × OnlyReads (state two) (state (second_by store result))
  pub failed : FailsByDisks state one two result
  pub not_full : IfErr result (λ failed. IsNotFull failed.0)
  pub first_disk : RunsOn (state one) (state (first_by store result))
  pub second_disk : RunsOn (state two) (state (second_by store result))
  pub up : IfOk result (λ s. is_down (store s) ≡ false)

-- Two disks came back after a crash, in place, however that ended.
pub record ComesBack {S D K I : Type 0} (state : D → DiskState) (m : Meaning K I) (twin : S → Twin D) (GoesOnAs : (a b c d : List ℕ) → Type 0) (pick : ℕ) (old new : S)
    (result : Result (Unit {0}) OpenError) : Type 0 where
  pub damaged : IfErr result (λ error. (a b : List ℕ) → present (state (first_disk (twin new))) ≡ Some a → present (state (second_disk (twin new))) ≡ Some b → IsDamage m a b error)
  -- a crash after it leaves what goes on as a pair of images from before
  pub images : (c d : List ℕ) → (state (first_disk (twin new))).may_leave c → (state (second_disk (twin new))).may_leave d →
      (a b : List ℕ) × (state (first_disk (twin old))).may_leave a × (state (second_disk (twin old))).may_leave b × GoesOnAs a b c d
  -- where the records of each such pair take at most half of either disk, it leaves one of these
  pub not_due : StaysWhereShort state (twin old) (twin new)
  pub failed : result ≡ Err open_error.Failed →
      FailsItself (state (first_disk (twin old))).counts (state (first_disk (twin new))).counts ⊎ FailsItself (state (second_disk (twin old))).counts (state (second_disk (twin new))).counts
  pub not_full : IfErr result IsNotFull
  pub first : ComesUp (is_ok result) pick (state (first_disk (twin old))) (state (first_disk (twin new)))
  pub second : ComesUp (is_ok result) pick (state (second_disk (twin old))) (state (second_disk (twin new)))
  pub up : twin_is_down (twin new) ≡ is_err result

-- What two disks were read to hold was taken over, and a snapshot put in its place where it had grown long.
pub record TakesOver {D K I : Type 0} (state : D → DiskState) (m : Meaning K I) (found : Found) (old new : Twin D) (result : Result (Unit {0}) OpenError) : Type 0 where
  pub damaged : IfErr result (λ error. IsNoDamage error ⊎ ((new ≡ old) × ((a b : List ℕ) → present (state (first_disk old)) ≡ Some a → present (state (second_disk old)) ≡ Some b →
      PairStandsFor found a b → KeepsPair state found old → IsDamage m a b error)))
  pub images : (a b c d : List ℕ) → present (state (first_disk old)) ≡ Some a → present (state (second_disk old)) ≡ Some b → PairStandsFor found a b → KeepsPair state found old →
      (state (first_disk new)).may_leave c → (state (second_disk new)).may_leave d → GoesOn m a b c d
  pub failed : result ≡ Err open_error.Failed →
      HasCause (state (first_disk old)).counts (state (first_disk new)).counts ⊎ HasCause (state (second_disk old)).counts (state (second_disk new)).counts
  pub not_due : IsShort state old → new ≡ old
  pub first : RunsOn (state (first_disk old)) (state (first_disk new))
  pub second : RunsOn (state (second_disk old)) (state (second_disk new))
  pub not_full : IfErr result IsNotFull
