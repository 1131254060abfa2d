-- How the records of a resource make what it knows, and how both are read.
use Rattle.std.specs.Prelude.{◌≡◌, ℕ, All, Option, option_map, List, []}
use Rattle.seata_types.specs.declared.rows.Row.{Row}
use Rattle.byte_fields.specs.Parts.{FitsNamedRow}
use Rattle.local_tables.specs.Rows.{Database, IsOpening, opened}
use Rattle.local_tables.specs.declared.schemas.Schema.{Schema}
use Rattle.durable_records.specs.declared.resources.ResourceRecord.{ResourceRecord}
use Rattle.memory_store.specs.Meanings.{Meaning}
use Rattle.resource_log.specs.Records.{record_of}
use Rattle.resource_log.specs.Snapshots.{snapshot_in_bytes, snapshot_bytes}
use Rattle.resource_log.specs.Soundness.{if_sound}
use Rattle.resource_memory.specs.Changes.{after, may_come}
use Rattle.resource_memory.specs.Keeping.{IsKept, FitsParts, has_room}
use Rattle.resource_memory.specs.Known.{Known, known_of}
use Rattle.resource_memory.specs.Snapshots.{snapshot_in, known_in}

-- a resource's number, its tables, and the rows that it opened with, each behind its table's name
pub record Setting : Type 0 where
  pub resource : ℕ
  pub schema : Schema
  pub opening : List (List ℕ × Row)

abbrev pub setting : ℕ → Schema → List (List ℕ × Row) → Setting
setting resource schema opening = record { resource = resource; schema = schema; opening = opening }

-- the tables as they opened
abbrev pub opening_of : Setting → Database
opening_of s = opened s.resource s.schema s.opening

-- the rows are an opening of the tables, and have places in a snapshot
pub record Opens (s : Setting) : Type 0 where
  pub opens : IsOpening s.resource s.schema s.opening
  pub fits : All FitsNamedRow s.opening

-- what is known stands in order, has places in a snapshot, and is of these tables
pub record IsOf (s : Setting) (k : Known) : Type 0 where
  pub kept : IsKept k
  pub fits : FitsParts k
  pub resource : k.tables.resource ≡ s.resource
  pub schema : k.tables.schema ≡ s.schema

abbrev pub acts_of : Known → ℕ
acts_of k = k.acts

-- what a snapshot's bytes say
abbrev pub known_in_bytes : Setting → List ℕ → Option Known
known_in_bytes s bytes = option_map (known_in s.resource s.schema) (if_sound s.resource s.schema (snapshot_in_bytes bytes))

abbrev pub known_bytes : Known → List ℕ
known_bytes k = snapshot_bytes (snapshot_in k)

abbrev pub meaning_of : Setting → Meaning Known ResourceRecord
meaning_of s = record {
  empty = known_of (opening_of s) [];
  after = after;
  may_come = may_come;
  acts = acts_of;
  record_of = record_of;
  memory_of = known_in_bytes s;
  snapshot_bytes = known_bytes;
  can_write = has_room;
  IsSound = λ k. Opens s → IsOf s k;
}
