-- Which records of a coordinator two disks stand for, so that an opening takes them. Lists of records stand newest first.
use Rattle.std.specs.Prelude.{◌≡◌, ◌⊎◌, ℕ, ◌<◌, ◌^◌, false, true, List, length}
use Rattle.std.specs.List.{list_all}
use Rattle.durable_records.specs.declared.coordinators.SessionRecord.{SessionRecord}
use Rattle.durable_records.specs.SessionOrder.{Allowed, is_within, may}
use Rattle.memory_store.specs.Lists.{Lists, StandsForList}
use Rattle.memory_store.specs.Readings.{Reading}
use Rattle.session_log.specs.declared.sessions.Snapshot.{Snapshot}
use Rattle.session_log.specs.Records.{record_of, record_bytes}
use Rattle.session_log.specs.Snapshots.{snapshot_in_bytes}
use Rattle.session_log.specs.SnapshotOf.{snapshot_of}
use Rattle.session_store.specs.Meaning.{meaning_of}

-- records that a coordinator with so many managers and resources can have made
pub record AreMade (managers resources : ℕ) (rs : List SessionRecord) : Type 0 where
  pub allowed : Allowed rs
  pub within : list_all (is_within managers resources) rs ≡ true
  pub few : length rs < 2 ^ 32

-- the records and snapshots that its bytes are
abbrev pub of_coordinator : Reading SessionRecord Snapshot
of_coordinator = record { record_of = record_of; snapshot_in = snapshot_in_bytes; snapshot_of = snapshot_of }

-- what lists of its records say
abbrev pub lists_of : (managers resources : ℕ) → Lists Snapshot SessionRecord Snapshot
lists_of managers resources = record {
  meaning = meaning_of managers resources;
  reading = of_coordinator;
  bytes_of = record_bytes;
  says = snapshot_of;
  AreMade = AreMade managers resources;
  MayNotCome = λ rs r. (is_within managers resources r ≡ false) ⊎ (may rs r ≡ false);
}

-- the bytes of two disks stand for these records, and an opening takes them
abbrev pub StandsForSessions : (managers resources : ℕ) → List SessionRecord → List ℕ → List ℕ → Type 0
StandsForSessions managers resources rs a b = StandsForList (lists_of managers resources) rs a b
