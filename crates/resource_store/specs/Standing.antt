-- Which records two disks stand for. Lists of records stand newest first.
use Rattle.std.specs.Prelude.{ℕ, ◌<◌, ◌^◌, All, List, length}
use Rattle.durable_records.specs.declared.resources.ResourceRecord.{ResourceRecord}
use Rattle.durable_records.specs.ResourceOrder.{Allowed, May}
use Rattle.memory_store.specs.Lists.{Lists, StandsForList}
use Rattle.memory_store.specs.Readings.{Reading}
use Rattle.resource_log.specs.declared.states.ResourceSnapshot.{ResourceSnapshot}
use Rattle.resource_log.specs.Records.{FitsRecord, record_of, record_bytes}
use Rattle.resource_log.specs.Snapshots.{snapshot_in_bytes}
use Rattle.resource_log.specs.SnapshotOf.{snapshot_of}
use Rattle.resource_memory.specs.Known.{Known, known_of}
use Rattle.resource_store.specs.Meaning.{Setting, Opens, opening_of, meaning_of}

-- records that such a resource can have made
pub record AreMade (t : Setting) (rs : List ResourceRecord) : Type 0 where
  pub opens : Opens t
  pub allowed : Allowed (opening_of t) rs
  pub writable : All FitsRecord rs
  pub few : length rs < 2 ^ 32

-- the records and snapshots that its bytes are
abbrev pub reading_of : Setting → Reading ResourceRecord ResourceSnapshot
reading_of t = record { record_of = record_of; snapshot_in = snapshot_in_bytes; snapshot_of = snapshot_of (opening_of t) }

-- what lists of its records say
abbrev pub lists_of : Setting → Lists Known ResourceRecord ResourceSnapshot
lists_of t = record {
  meaning = meaning_of t;
  reading = reading_of t;
  bytes_of = record_bytes;
  says = known_of (opening_of t);
  AreMade = AreMade t;
  MayNotCome = λ rs r. May (opening_of t) rs r → ⊥;
}

-- the bytes of two disks stand for these records of such a resource
abbrev pub StandsForRecords : Setting → List ResourceRecord → List ℕ → List ℕ → Type 0
StandsForRecords t rs a b = StandsForList (lists_of t) rs a b
