-- Which records the bytes of two disks stand for, by how the records and snapshots of a node are read. Lists of records stand
-- newest first.
use Rattle.std.specs.Prelude.{◌≡◌, ℕ, List, [], ◌∷◌, Option, Some, None, option_and_then}
use Rattle.journal_checkpoint.specs.declared.types.Found.{Found}
use Rattle.journal_checkpoint.specs.Images.{PairStandsFor}

-- how the disks of a node are read: the record that bytes are, the snapshot that bytes are, in any of their layouts, and the
-- snapshot that a list of records has
pub record Reading (R S : Type 0) : Type 0 where
  pub record_of : List ℕ → Option R
  pub snapshot_in : List ℕ → Option S
  pub snapshot_of : List R → S

-- the records that these bodies are, on top of others
abbrev pub records_on : {R : Type 0} → (List ℕ → Option R) → List R → List (List ℕ) → Option (List R)
records_on record_of before [] = Some before
records_on record_of before (body ∷ bodies) = option_and_then (λ r. records_on record_of (r ∷ before) bodies) (record_of body)

-- the bodies are these records, over none; or behind a snapshot, over those that have it
abbrev pub AreRecords : {R S : Type 0} → Reading R S → Option (List ℕ) → List (List ℕ) → List R → Type 0
AreRecords reading None bodies rs = records_on reading.record_of [] bodies ≡ Some rs
AreRecords {R} reading (Some bytes) bodies rs =
    (first : List R) × (reading.snapshot_in bytes ≡ Some (reading.snapshot_of first)) × (records_on reading.record_of first bodies ≡ Some rs)

-- the bytes of two disks stand for these records
pub record StandsForRecords {R S : Type 0} (reading : Reading R S) (rs : List R) (a b : List ℕ) : Type 0 where
  pub found : Found
  pub pair : PairStandsFor found a b
  pub records : AreRecords reading found.snapshot found.records rs
