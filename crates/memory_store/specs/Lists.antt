-- What lists of records say, and for which lists the bytes of two disks stand. Lists of records stand newest first.
use Rattle.std.specs.Prelude.{◌≡◌, ◌⊎◌, ℕ, ◌+◌, ◌^◌, ◌<◌, ◌≤◌, false, true, Option, Some, None, List, [], ◌∷◌, length, Ok, Err}
use Rattle.disk_journal.specs.Reading.{row_length}
use Rattle.seata_types.specs.declared.limits.TheConstants.{ACTS}
use Rattle.journal_checkpoint.specs.declared.types.Found.{Found}
use Rattle.journal_checkpoint.specs.Images.{PairStandsFor, with_record}
use Rattle.memory_store.specs.Meanings.{Meaning, IsLawful}
use Rattle.memory_store.specs.Holdings.{held_in, records_at}
use Rattle.memory_store.specs.Readings.{Reading, AreRecords, StandsForRecords}
use Rattle.memory_store.specs.Settling.{GoesOn, IsWritable}

-- how lists of records make a memory, and how they stand as bytes
pub record Lists (Memory Item Snapshot : Type 0) : Type 1 where
  -- how one record changes the memory
  pub meaning : Meaning Memory Item
  -- the records and snapshots that bytes are, whatever memory may take them
  pub reading : Reading Item Snapshot
  -- the bytes that are written of a record
  pub bytes_of : Item → List ℕ
  -- the memory that a list makes
  pub says : List Item → Memory
  -- a list that can have been made, and a record that may not come behind it
  pub AreMade : List Item → Type 0
  pub MayNotCome : List Item → Item → Type 0

-- ---- which lists two disks stand for

-- a snapshot, if there is one, is that of fewer records than one may stand for
abbrev pub HasFewRecords : {I S : Type 0} → Reading I S → Option (List ℕ) → Type 0
HasFewRecords reading None = Unit {0}
HasFewRecords {I} reading (Some bytes) = (rs : List I) → reading.snapshot_in bytes ≡ Some (reading.snapshot_of rs) → length rs < ACTS

-- what two disks hold is these records, and an opening takes them
pub record IsListOf {K I S : Type 0} (l : Lists K I S) (rs : List I) (found : Found) : Type 0 where
  pub records : AreRecords l.reading found.snapshot found.records rs
  pub made : l.AreMade rs
  pub few : HasFewRecords l.reading found.snapshot

-- the bytes of two disks stand for these records, and an opening takes them
pub record StandsForList {K I S : Type 0} (l : Lists K I S) (rs : List I) (a b : List ℕ) : Type 0 where
  pub found : Found
  pub pair : PairStandsFor found a b
  pub list : IsListOf l rs found

-- each list of records that the one pair of bytes stands for, the other one stands for too
abbrev pub GoesOnAs : {K I S : Type 0} → Lists K I S → (a b c d : List ℕ) → Type 0
GoesOnAs {I = I} l a b c d = (rs : List I) → StandsForList l rs a b → StandsForList l rs c d

-- a body that is no record, or a record that may not come after these
abbrev pub MayNotFollow : {K I S : Type 0} → Lists K I S → List I → Option I → Type 0
MayNotFollow l rs None = Unit {0}
MayNotFollow l rs (Some r) = l.MayNotCome rs r ⊎ (2 ^ 32 ≤ length rs + 1)

-- what two disks hold is what each list says that they stand for; a body behind these that may not follow is the damage; and
-- what goes on stands for the same lists
pub record HoldsRecords {K I S : Type 0} (l : Lists K I S) : Type 0 where
  pub holds : (rs : List I) (found : Found) → IsListOf l rs found → held_in l.meaning found ≡ Ok (l.says rs)
  pub damaged : (rs : List I) (found : Found) (body : List ℕ) → IsListOf l rs found → MayNotFollow l rs (l.reading.record_of body) →
      held_in l.meaning (with_record found body) ≡ Err (records_at found.snapshot + row_length found.records)
  pub goes_on : (a b c d : List ℕ) → GoesOn l.meaning a b c d → GoesOnAs l a b c d
  pub records : (rs : List I) (a b : List ℕ) → StandsForList l rs a b → StandsForRecords l.reading rs a b

-- ---- what always holds of lists

pub record AreLawful {K I S : Type 0} (l : Lists K I S) : Type 0 where
  pub lawful : IsLawful l.meaning
  pub none : l.says [] ≡ l.meaning.empty
  pub counted : (rs : List I) → l.meaning.acts (l.says rs) ≡ length rs
  pub few : (rs : List I) → l.AreMade rs → length rs < 2 ^ 32
  pub before : (r : I) (rs : List I) → l.AreMade (r ∷ rs) → l.AreMade rs
  -- a record is read as it is, may come, and is taken in, where it can have been made
  pub read : (r : I) (rs : List I) (body : List ℕ) → l.AreMade (r ∷ rs) → l.reading.record_of body ≡ Some r → l.meaning.record_of body ≡ Some r
  pub may : (r : I) (rs : List I) → l.AreMade (r ∷ rs) → l.meaning.may_come (l.says rs) r ≡ true
  pub next : (r : I) (rs : List I) → l.AreMade (r ∷ rs) → l.says (r ∷ rs) ≡ l.meaning.after r (l.says rs)
  -- no other record is read, and one that may not come isn't taken in
  pub alike : (body : List ℕ) → (l.meaning.record_of body ≡ None) ⊎ (l.meaning.record_of body ≡ l.reading.record_of body)
  pub refused : (r : I) (rs : List I) (body : List ℕ) → l.AreMade rs → l.meaning.record_of body ≡ Some r → l.MayNotCome rs r → l.meaning.may_come (l.says rs) r ≡ false
  -- a snapshot is read back, is written of what is known, and tells how many records it is of
  pub read_back : (bytes : List ℕ) (rs : List I) → l.reading.snapshot_in bytes ≡ Some (l.reading.snapshot_of rs) → length rs < ACTS → l.AreMade rs → l.meaning.memory_of bytes ≡ Some (l.says rs)
  pub written : (rs : List I) → l.AreMade rs → IsWritable l.meaning (l.says rs) → l.reading.snapshot_in (l.meaning.snapshot_bytes (l.says rs)) ≡ Some (l.reading.snapshot_of rs)
  pub sized : (rs qs : List I) → l.reading.snapshot_of rs ≡ l.reading.snapshot_of qs → length rs ≡ length qs
