-- Which snapshots are read: those of a resource with this number and these tables.
use Rattle.std.specs.Prelude.{◌≡◌, ◌≢◌, ℕ, ◌&&◌, nat_le, nat_lt, Bool, true, false, if◌then◌else◌, Option, Some, None, List, [], ◌∷◌, Result, Ok, Err}
use Rattle.std.specs.List.{list_all}
use Rattle.seata_types.specs.declared.rows.Row.{Row}
use Rattle.seata_types.specs.declared.rows.RowKey.{RowKey}
use Rattle.byte_fields.specs.declared.errors.FieldError.{FieldError}
use Rattle.byte_fields.specs.declared.errors.FieldError.TheVariants as field
use Rattle.byte_fields.specs.KeyOrder.{is_below}
use Rattle.byte_fields.specs.Layout.{may_come}
use Rattle.local_tables.specs.declared.schemas.Schema.{Schema}
use Rattle.local_tables.specs.Fitting.{row_key, is_image, is_read}
use Rattle.local_tables.specs.Rows.{each_of}
use Rattle.resource_log.specs.declared.states.ResourceSnapshot.{ResourceSnapshot}
use Rattle.resource_log.specs.declared.states.UndoItem.{UndoItem}
use Rattle.resource_log.specs.declared.states.UndoItem.TheVariants as undo
use Rattle.seata_types.specs.declared.limits.TheConstants.{ACTS}
use Rattle.resource_log.specs.declared.errors.SnapshotError.{SnapshotError}
use Rattle.resource_log.specs.declared.errors.SnapshotError.TheVariants as errors
use Rattle.resource_log.specs.Snapshots.{snapshot_in_bytes}

-- ---- counts: fewer acts than 2^31, and no more boots than acts

abbrev pub has_counts : ResourceSnapshot → Bool
has_counts s = nat_lt s.acts ACTS && nat_le s.boots s.acts

-- ---- rows: each fits one of the tables and has a key, and the keys rise

-- each key stands above the one before it, and the first above last
abbrev pub rises_after : Option RowKey → List RowKey → Bool
rises_after last [] = true
rises_after last (key ∷ keys) = may_come is_below last key && rises_after (Some key) keys

abbrev pub are_rising : Option (List RowKey) → Bool
are_rising None = false
are_rising (Some keys) = rises_after None keys

-- the keys of all rows, where each has one
abbrev pub row_keys : ℕ → Schema → List (List ℕ × Row) → Option (List RowKey)
row_keys resource schema rows = each_of (row_key resource schema) rows

-- ---- undo records: their images and reads are of these tables

abbrev pub has_tables : ℕ → Schema → UndoItem → Bool
has_tables resource schema (undo.Normal r) = list_all (is_image resource schema) r.images && list_all (is_read resource schema) r.reads
has_tables resource schema (undo.Finished leg) = true

-- ---- the whole

unfoldable pub is_sound : ℕ → Schema → ResourceSnapshot → Bool
is_sound resource schema s =
    has_counts s && (list_all (has_tables resource schema) s.undos && are_rising (row_keys resource schema s.rows))

abbrev pub if_sound : ℕ → Schema → Option ResourceSnapshot → Option ResourceSnapshot
if_sound resource schema None = None
if_sound resource schema (Some s) = if is_sound resource schema s then Some s else None

-- what a fault of a field says of the snapshot
abbrev pub IsFaultOfSnapshot : FieldError → SnapshotError → Type 0
IsFaultOfSnapshot fault errors.Damaged = fault ≢ field.NoMemory
IsFaultOfSnapshot fault errors.NoMemory = Unit {0}

-- what looking for a snapshot answers
abbrev pub FindsSnapshot : Option ResourceSnapshot → Result ResourceSnapshot SnapshotError → Type 0
FindsSnapshot found (Ok s) = found ≡ Some s
FindsSnapshot found (Err errors.Damaged) = found ≡ None
FindsSnapshot found (Err errors.NoMemory) = Unit {0}

-- what reading a snapshot answers: a sound one, or that there is none. Want of memory alone is free.
abbrev pub ReadsSnapshot : ℕ → Schema → List ℕ → Result ResourceSnapshot SnapshotError → Type 0
ReadsSnapshot resource schema bytes result = FindsSnapshot (if_sound resource schema (snapshot_in_bytes bytes)) result
