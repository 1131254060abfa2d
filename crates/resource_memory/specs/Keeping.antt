-- What holds of all that a resource knows: its parts stand in order, and agree.
use Rattle.std.specs.Prelude.{◌≡◌, ◌≢◌, ℕ, ◌≤◌, ◌<◌, ◌^◌, ◌&&◌, nat_lt, Bool, true, None, length}
use Rattle.std.specs.List.{AllByRecursion}
use Rattle.std.specs.List.Sorted.{IsStrictlySortedBy}
use Rattle.std.specs.Map.{lookup, keys_of}
use Rattle.seata_types.specs.declared.ids.Leg.{Leg}
use Rattle.seata_types.specs.declared.limits.TheConstants.{ACTS}
use Rattle.byte_fields.specs.declared.layouts.KeyLayout.TheVariants as layout
use Rattle.byte_fields.specs.Parts.{FitsLeg, FitsNamedRow}
use Rattle.local_tables.specs.Rows.{Database}
pub use Rattle.local_tables.specs.Rows.{AreRows, HasItsKey}
use Rattle.local_tables.specs.declared.schemas.Schema.{Schema}
use Rattle.durable_records.specs.Fences.{Fence, leg_cmp}
use Rattle.durable_records.specs.ResourceOrder.{image_keys}
use Rattle.undo_log.specs.Entries.{Log, IsInOrder, is_leg, order}
use Rattle.undo_log.specs.declared.records.UndoEntry.{UndoEntry}
use Rattle.undo_log.specs.declared.records.UndoEntry.TheVariants as entry
use Rattle.tcc_fence.specs.Meanings.{Fences, fence_at}
use Rattle.resource_log.specs.SnapshotOf.{named_row, undo_item}
use Rattle.resource_log.specs.Snapshots.{FitsUndoIn}
use Rattle.resource_log.specs.Soundness.{has_tables}
use Rattle.resource_log.specs.declared.states.UndoItem.TheVariants as undo
use Rattle.resource_memory.specs.Changes.{rise}
use Rattle.resource_memory.specs.Known.{Known, Calls}

abbrev pub known_as : (acts boots : ℕ) → Database → Log → Fences → Calls → Known
known_as acts boots db undos fences calls = record { acts = acts; boots = boots; tables = db; undo_log = undos; fences = fences; calls = calls }

-- an undo record names its branch, its images rise, and its images and reads are of rows of the tables
abbrev pub IsEntryOf : ℕ → Schema → Leg → UndoEntry → Type 0
IsEntryOf resource schema leg (entry.Normal r) = (r.leg ≡ leg) × (rise (image_keys r.images) ≡ true) × (has_tables resource schema (undo.Normal r) ≡ true)
IsEntryOf resource schema leg entry.Finished = Unit {0}

pub record AreUndos (resource : ℕ) (schema : Schema) (undos : Log) : Type 0 where
  pub in_order : IsInOrder undos
  pub each : AllByRecursion (λ e. IsEntryOf resource schema e.0 e.1) undos

-- the calls stand in order, none is 0, and each is of a branch with a fence
pub record AreCalls (fences : Fences) (calls : Calls) : Type 0 where
  pub in_order : IsStrictlySortedBy order (keys_of calls)
  pub counted : AllByRecursion (λ e. e.1 ≢ 0) calls
  pub fenced : (leg : Leg) → fence_at fences leg ≡ None → lookup (is_leg leg) calls ≡ None

pub record IsKept (k : Known) : Type 0 where
  pub counted : k.boots ≤ k.acts
  pub rows : AreRows k.tables
  pub undos : AreUndos k.tables.resource k.tables.schema k.undo_log
  pub fences : IsStrictlySortedBy leg_cmp (keys_of k.fences)
  pub calls : AreCalls k.fences k.calls

-- ---- what fits the layout of a snapshot

abbrev pub FitsBranch : (ℕ × ℕ) × Fence → Type 0
FitsBranch f = FitsLeg (record { xid = record { 0 = f.0.0 }; branch = record { 0 = f.0.1 } })

-- each part has a place in a snapshot; how many parts there are is asked of the snapshot itself
pub record FitsParts (k : Known) : Type 0 where
  pub rows : AllByRecursion (λ e. FitsNamedRow (named_row e)) k.tables.rows
  pub undos : AllByRecursion (λ e. FitsUndoIn layout.Counted (undo_item e)) k.undo_log
  pub fences : AllByRecursion FitsBranch k.fences
  pub calls : AllByRecursion (λ e. e.1 < 2 ^ 16) k.calls

-- whether no list is longer than a snapshot counts
abbrev pub has_room : Known → Bool
has_room k = nat_lt (length k.tables.rows) (2 ^ 32) && (nat_lt (length k.undo_log) (2 ^ 32) && nat_lt (length k.fences) (2 ^ 32))

-- fewer acts than a snapshot stands for, and no list is longer than it counts
pub record HasCounts (k : Known) : Type 0 where
  pub acts : k.acts < ACTS
  pub rows : length k.tables.rows < 2 ^ 32
  pub undos : length k.undo_log < 2 ^ 32
  pub fences : length k.fences < 2 ^ 32
