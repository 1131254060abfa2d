-- The bytes of a snapshot: its layout, its counts, and what is known of rows and branches.
use Rattle.std.specs.Prelude.{ℕ, ◌<◌, ◌^◌, Bool, Option, Some, None, List, [], ◌∷◌, ◌++◌}
use Rattle.std.specs.Int.{w16, w32, to_be_bytes}
use Rattle.std.specs.Ordering.{is_lt}
use Rattle.seata_types.specs.declared.ids.Leg.{Leg}
use Rattle.byte_fields.specs.declared.layouts.KeyLayout.{KeyLayout}
use Rattle.byte_fields.specs.declared.layouts.KeyLayout.TheVariants as layout
use Rattle.byte_fields.specs.Layout.{any_order, FitsImagesIn, FitsReadsIn, images_bytes_in, reads_bytes_in}
use Rattle.byte_fields.specs.Reading.{Reader, ◌>>=◌, gives, number_at, images_in, reads_in}
use Rattle.byte_fields.specs.Tags.{tagged, coded}
use Rattle.byte_fields.specs.Parts.{joined, leg_bytes, FitsLeg, leg_at, named_row_bytes, FitsNamedRow, named_row_at}
use Rattle.byte_fields.specs.LongLists.{next_item, long_list_bytes, FitsLongList, long_list_at}
use Rattle.byte_fields.specs.Entire.{entire}
use Rattle.undo_log.specs.Entries.{order}
use Rattle.tcc_fence.specs.declared.statuses.FenceStatus.{FenceStatus}
use Rattle.tcc_fence.specs.declared.statuses.FenceStatus.TheVariants as fence
use Rattle.tcc_fence.specs.Meanings.{code_of}
use Rattle.resource_log.specs.declared.states.Changes.{Changes}
use Rattle.resource_log.specs.declared.states.FenceItem.{FenceItem}
use Rattle.resource_log.specs.declared.states.ResourceSnapshot.{ResourceSnapshot}
use Rattle.resource_log.specs.declared.states.UndoItem.{UndoItem}
use Rattle.resource_log.specs.declared.states.UndoItem.TheVariants as undo

-- branches stand in order of transaction, then number
abbrev pub is_below : Leg → Leg → Bool
is_below last leg = is_lt (order last leg)

-- ---- the undo log: of a branch 0, its call, its images and its reads, or 1 for a marker

abbrev pub undo_leg : UndoItem → Leg
undo_leg (undo.Normal r) = r.leg
undo_leg (undo.Finished leg) = leg

-- what stands behind the branch: the call, the images and the reads of its record, or none for a marker
abbrev pub Kept : Type 0
Kept = Option Changes

abbrev pub kept_of : UndoItem → Kept
kept_of (undo.Normal r) = Some (record { call = r.call; images = r.images; reads = r.reads })
kept_of (undo.Finished leg) = None

abbrev pub item_of : Leg → Kept → UndoItem
item_of leg (Some kept) = undo.Normal (record { leg = leg; call = kept.call; images = kept.images; reads = kept.reads })
item_of leg None = undo.Finished leg

unfoldable pub kept_bytes : KeyLayout → Kept → List ℕ
kept_bytes keys (Some kept) = 0 ∷ (to_be_bytes w16 kept.call ++ (images_bytes_in keys kept.images ++ reads_bytes_in keys kept.reads))
kept_bytes keys None = 1 ∷ []

abbrev pub FitsKept : KeyLayout → Kept → Type 0
FitsKept keys (Some kept) = (kept.call < 2 ^ 16) × (FitsImagesIn keys kept.images × FitsReadsIn keys kept.reads)
FitsKept keys None = Unit {0}

unfoldable pub some_kept_in : KeyLayout → Reader Kept
some_kept_in keys = do
  call ← number_at w16
  images ← images_in keys
  reads ← reads_in keys
  gives (Some (record { call = call; images = images; reads = reads }))

unfoldable pub kept_in : KeyLayout → Reader Kept
kept_in keys = tagged ((0, some_kept_in keys) ∷ (1, gives None) ∷ [])

unfoldable pub undo_fields : KeyLayout → UndoItem → List ℕ
undo_fields keys u = leg_bytes (undo_leg u) ++ kept_bytes keys (kept_of u)

pub record FitsUndoIn (keys : KeyLayout) (u : UndoItem) : Type 0 where
  pub leg : FitsLeg (undo_leg u)
  pub kept : FitsKept keys (kept_of u)

unfoldable pub undo_in : KeyLayout → Reader UndoItem
undo_in keys = do
  leg ← leg_at
  kept ← kept_in keys
  gives (item_of leg kept)

abbrev pub undo_follows : UndoItem → UndoItem → Bool
undo_follows last u = is_below (undo_leg last) (undo_leg u)

-- ---- fences

unfoldable pub fence_status_at : Reader FenceStatus
fence_status_at = coded code_of (fence.Tried ∷ fence.Committed ∷ fence.Rollbacked ∷ fence.Suspended ∷ [])

unfoldable pub fence_fields : FenceItem → List ℕ
fence_fields f = joined (leg_bytes f.leg ∷ (code_of f.status ∷ []) ∷ to_be_bytes w16 f.call ∷ [])

pub record FitsFence (f : FenceItem) : Type 0 where
  pub leg : FitsLeg f.leg
  pub call : f.call < 2 ^ 16

unfoldable pub fence_at : Reader FenceItem
fence_at = do
  leg ← leg_at
  status ← fence_status_at
  call ← number_at w16
  gives (record { leg = leg; status = status; call = call })

abbrev pub fence_follows : FenceItem → FenceItem → Bool
fence_follows last f = is_below last.leg f.leg

-- ---- snapshots, by the layout of the keys in them

abbrev pub layout_code : KeyLayout → ℕ
layout_code layout.Single = 1
layout_code layout.Counted = 2

unfoldable pub snapshot_fields : KeyLayout → ResourceSnapshot → List ℕ
snapshot_fields keys s =
    joined (to_be_bytes w32 s.acts ∷ to_be_bytes w32 s.boots ∷ long_list_bytes named_row_bytes s.rows ∷
    long_list_bytes (undo_fields keys) s.undos ∷ long_list_bytes fence_fields s.fences ∷ [])

abbrev pub snapshot_bytes_in : KeyLayout → ResourceSnapshot → List ℕ
snapshot_bytes_in keys s = layout_code keys ∷ snapshot_fields keys s

pub record FitsSnapshotIn (keys : KeyLayout) (s : ResourceSnapshot) : Type 0 where
  pub acts : s.acts < 2 ^ 32
  pub boots : s.boots < 2 ^ 32
  pub rows : FitsLongList any_order FitsNamedRow s.rows
  pub undos : FitsLongList undo_follows (FitsUndoIn keys) s.undos
  pub fences : FitsLongList fence_follows FitsFence s.fences

unfoldable pub snapshot_in : KeyLayout → Reader ResourceSnapshot
snapshot_in keys = do
  acts ← number_at w32
  boots ← number_at w32
  rows ← long_list_at (next_item any_order named_row_at)
  undos ← long_list_at (next_item undo_follows (undo_in keys))
  fences ← long_list_at (next_item fence_follows fence_at)
  gives (record { acts = acts; boots = boots; rows = rows; undos = undos; fences = fences })

-- what stands behind the number of a layout
abbrev pub snapshots : List (ℕ × Reader ResourceSnapshot)
snapshots = (1, snapshot_in layout.Single) ∷ (2, snapshot_in layout.Counted) ∷ []

unfoldable pub snapshot_at : Reader ResourceSnapshot
snapshot_at = tagged snapshots

-- the snapshot that the bytes are
unfoldable pub snapshot_in_bytes : List ℕ → Option ResourceSnapshot
snapshot_in_bytes bytes = entire snapshot_at bytes

-- the layout that is written
abbrev pub snapshot_bytes : ResourceSnapshot → List ℕ
snapshot_bytes s = snapshot_bytes_in layout.Counted s

abbrev pub FitsSnapshot : ResourceSnapshot → Type 0
FitsSnapshot s = FitsSnapshotIn layout.Counted s
