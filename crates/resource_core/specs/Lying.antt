-- Where the journal of a resource stands after its own entries, over the records that its disks had before.
use Rattle.std.specs.Prelude.{◌≡◌, ◌⊎◌, ℕ, false, List, ◌∷◌, length, Some}
use Rattle.disk_model.specs.Disk.{DiskState}
use Rattle.journal_checkpoint.specs.Extents.{Extent, longer}
use Rattle.journal_checkpoint.specs.Keeping.{AreSized, first_disk, second_disk, twin_extent}
use Rattle.durable_records.specs.declared.resources.ResourceRecord.{ResourceRecord}
use Rattle.history_rules.specs.Own.{Own, Left}
use Rattle.history_rules.specs.Devices.{is_down}
use Rattle.history_rules.specs.ResourceMemory.{Setup, memory}
use Rattle.node_steps.specs.Ends.{extent, resource_recording}
use Rattle.resource_log.specs.Records.{record_bytes}
use Rattle.resource_store.specs.declared.store.Store.{Store}
use Rattle.resource_store.specs.Keeping.{twin, setting_of, StandsAt}
use Rattle.resource_store.specs.Meaning.{Setting}

-- the bytes stand for the records, with their journal there, or for these and the one in flight, behind them
abbrev pub AtEither : Setting → Left ResourceRecord → Extent → (a b : List ℕ) → Type 0
AtEither t left e a b = StandsAt t left.records e a b ⊎ ((r : ResourceRecord) × (left.flight ≡ Some r) × StandsAt t (r ∷ left.records) (longer (length (record_bytes r)) e) a b)

-- Both disks have this size. While the resource is up its journal stands where the entries leave it; and always each pair of images
-- does, or with the record in flight.
pub record Lies {D : Type 0} (state : D → DiskState) (s : Store D) (setup : Setup) (past : List ResourceRecord) (start : Extent) (size : ℕ) (os : List Own) : Type 0 where
  pub sized : AreSized state (twin s) size
  pub up : is_down os ≡ false → twin_extent (twin s) ≡ extent (resource_recording setup past) start size os
  pub images : (a b : List ℕ) → (state (first_disk (twin s))).may_leave a → (state (second_disk (twin s))).may_leave b →
      AtEither (setting_of s) (memory setup past os).left (extent (resource_recording setup past) start size os) a b
