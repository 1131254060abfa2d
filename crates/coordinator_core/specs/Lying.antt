-- Where the journal of a coordinator stands after its own entries, over the records that its disks had before.
use Rattle.std.specs.Prelude.{◌≡◌, ◌⊎◌, ℕ, false, List, ◌∷◌, length, Some}
use Rattle.disk_model.specs.Disk.{DiskState}
use Rattle.journal_checkpoint.specs.Extents.{Extent, longer}
use Rattle.journal_checkpoint.specs.Keeping.{AreSized, first_disk, second_disk, twin_extent}
use Rattle.durable_records.specs.declared.coordinators.SessionRecord.{SessionRecord}
use Rattle.session_log.specs.Records.{record_bytes}
use Rattle.session_store.specs.declared.sessions.Sessions.{Sessions}
use Rattle.session_store.specs.Keeping.{twin, StandsAt}
use Rattle.history_rules.specs.Own.{Own, Left}
use Rattle.history_rules.specs.Devices.{is_down}
use Rattle.history_rules.specs.CoordinatorMemory.{sessions_left}
use Rattle.node_steps.specs.Ends.{extent, session_recording}

-- where its entries leave it
abbrev pub extent_after : List SessionRecord → (start : Extent) → (size : ℕ) → List Own → Extent
extent_after past start size os = extent (session_recording past) start size os

-- the bytes stand for the records, with their journal there, or for these and the one in flight, behind them
abbrev pub AtEither : {D : Type 0} → Sessions D → Left SessionRecord → Extent → (a b : List ℕ) → Type 0
AtEither s left e a b =
    StandsAt s left.records e a b ⊎ ((r : SessionRecord) × (left.flight ≡ Some r) × StandsAt s (r ∷ left.records) (longer (length (record_bytes r)) e) a b)

-- On two disks of this size: while it is up it stands where the entries leave it, and always each pair of images does, or has the record
-- in flight behind that.
pub record Lies {D : Type 0} (state : D → DiskState) (s : Sessions D) (past : List SessionRecord) (start : Extent) (size : ℕ) (os : List Own) : Type 0 where
  pub sized : AreSized state (twin s) size
  pub up : is_down os ≡ false → twin_extent (twin s) ≡ extent_after past start size os
  pub images : (a b : List ℕ) → (state (first_disk (twin s))).may_leave a → (state (second_disk (twin s))).may_leave b
      → AtEither s (sessions_left past os) (extent_after past start size os) a b
