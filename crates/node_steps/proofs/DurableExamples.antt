-- Disks computed over the definitions.
use Rattle.std.proofs.Common.{◌≡◌, inl, ℕ, false, List, [], ◌∷◌, ◌++◌, None, refl, sym, subst₂, arith}
use Rattle.std.specs.Prelude.{replicate}
use Rattle.byte_fields.specs.Reading.{number_at}
use Rattle.byte_fields.specs.Tags.{tagged}
use Rattle.byte_fields.specs.Parts.{xid_at}
use Rattle.disk_journal.specs.Reading.{number_in, record_in, found, reading_from, reading, staged}
use Rattle.journal_checkpoint.specs.Images.{Pair}
use Rattle.journal_checkpoint.specs.Pairs.{head_in, pair_reading}
use Rattle.local_tables.specs.Rows.{Database}
use Rattle.durable_records.specs.declared.coordinators.SessionRecord.{SessionRecord}
use Rattle.durable_records.specs.declared.coordinators.SessionRecord.TheVariants as log
use Rattle.durable_records.specs.declared.resources.ResourceRecord.{ResourceRecord}
use Rattle.durable_records.specs.declared.resources.ResourceRecord.TheVariants as resource_log
use Rattle.session_log.specs.Records as sessions
use Rattle.resource_log.specs.Records as resources
use Rattle.node_steps.specs.Durable.{StandsForRecords, of_coordinator, of_resource, AreCoordinatorDisks}

-- a disk of zero bytes
abbrev zeros : List ℕ
zeros = replicate 48 0

empty_disks : StandsForRecords of_coordinator [] zeros zeros
unfolding pair_reading head_in reading reading_from found
empty_disks = record { found = record { second = false; generation = 0; snapshot = None; records = [] }; pair = refl; records = refl }

-- they are those of a coordinator that did nothing yet
empty_are : (disks : Pair) → ((a : List ℕ) → disks.first.may_leave a → a ≡ zeros) → ((b : List ℕ) → disks.second.may_leave b → b ≡ zeros) → AreCoordinatorDisks [] [] 0 disks
empty_are disks first second = record {
  images = λ a b i j. inl (subst₂ (λ (c d : List ℕ). StandsForRecords of_coordinator [] c d) (sym (first a i)) (sym (second b j)) empty_disks);
  counted = omega arith;
  picked = λ pick e. absurd cc;
}

-- the head of a disk without a snapshot, an open gate, a record behind it, and a closed gate
abbrev with_record : List ℕ → List ℕ
with_record body = replicate 9 0 ++ 1 ∷ staged body

-- transaction 1 of manager 2, begun at moment 3 with a timeout of 4 ticks
abbrev begun : SessionRecord
begun = log.Begun (record { 0 = 1 }) 2 3 4

one_begun : StandsForRecords of_coordinator (begun ∷ []) (with_record (sessions.record_bytes begun)) zeros
unfolding pair_reading head_in reading reading_from found record_in number_in staged sessions.fields_bytes sessions.record_of sessions.record_at sessions.begun_at tagged number_at xid_at
one_begun = record { found = record { second = false; generation = 0; snapshot = None; records = sessions.record_bytes begun ∷ [] }; pair = refl; records = refl }

-- the first boot of a resource
abbrev boot : ResourceRecord
boot = resource_log.Boot 1

one_boot : (opening : Database) → StandsForRecords (of_resource opening) (boot ∷ []) (with_record (resources.record_bytes boot)) zeros
unfolding pair_reading head_in reading reading_from found record_in number_in staged resources.fields_bytes resources.record_of resources.record_at resources.boot_at tagged number_at
one_boot opening = record { found = record { second = false; generation = 0; snapshot = None; records = resources.record_bytes boot ∷ [] }; pair = refl; records = refl }
