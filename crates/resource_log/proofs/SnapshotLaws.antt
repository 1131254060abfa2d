-- Snapshots are read back in their layouts, and what is read as one stands there.
use Rattle.std.proofs.Common.{◌≡◌, ℕ, ◌+◌, ◌^◌, ◌<◌, Some, None, List, [], ◌∷◌, ◌++◌, ◌≢◌, length, Ok, Err, refl}
use Rattle.std.specs.Int.{w16, w32, to_be_bytes}
use Rattle.seata_types.specs.declared.ids.Leg.{Leg}
use Rattle.seata_types.specs.declared.rows.Image.{Image}
use Rattle.seata_types.specs.declared.rows.ReadRow.{ReadRow}
use Rattle.seata_types.specs.declared.rows.Row.{Row}
use Rattle.byte_fields.specs.declared.errors.FieldError.{FieldError}
use Rattle.byte_fields.specs.declared.errors.FieldError.TheVariants as errors
use Rattle.byte_fields.specs.declared.layouts.KeyLayout.{KeyLayout}
use Rattle.byte_fields.specs.declared.layouts.KeyLayout.TheVariants as layout
use Rattle.byte_fields.specs.Layout.{any_order, FitsImagesIn, FitsReadsIn, images_bytes_in, reads_bytes_in}
use Rattle.byte_fields.specs.Reading.{Position, gives}
use Rattle.byte_fields.specs.Exactness.{ReadsExactly}
use Rattle.byte_fields.specs.Tags.{look_up}
use Rattle.byte_fields.specs.Parts.{leg_bytes, FitsLeg, named_row_bytes, FitsNamedRow, named_row_at}
use Rattle.byte_fields.specs.LongLists.{next_item, long_list_bytes, FitsLongList, long_list_at}
use Rattle.byte_fields.specs.Entire.{ReadsLayouts, IsOfLayouts}
use Rattle.byte_fields.proofs.Chains.{ReadsParts, part, last_part, no_part, whole}
use Rattle.byte_fields.proofs.Numbers.{two_bytes_exact, four_bytes_exact}
use Rattle.byte_fields.proofs.Records.{images_exact, reads_exact}
use Rattle.byte_fields.proofs.StatusCodes.{by_code}
use Rattle.byte_fields.proofs.Tables.{IsComplete, sound, tagged_exact, coded_exact}
use Rattle.byte_fields.proofs.PartLaws.{leg_exact, named_row_exact}
use Rattle.byte_fields.proofs.LongListLaws.{next_exact, long_list_exact}
use Rattle.byte_fields.proofs.LaidTables.{AreLaid, HasEach, laid, tagged_layouts, entire_layouts, entire_some, entire_longer, entire_none}
use Rattle.tcc_fence.specs.declared.statuses.FenceStatus.{FenceStatus}
use Rattle.tcc_fence.specs.declared.statuses.FenceStatus.TheVariants as fence
use Rattle.tcc_fence.specs.Meanings.{code_of}
use Rattle.resource_log.specs.declared.states.FenceItem.{FenceItem}
use Rattle.resource_log.specs.declared.states.ResourceSnapshot.{ResourceSnapshot}
use Rattle.resource_log.specs.declared.states.UndoItem.{UndoItem}
use Rattle.resource_log.specs.declared.states.UndoItem.TheVariants as undo
use Rattle.resource_log.specs.declared.errors.SnapshotError.{SnapshotError}
use Rattle.resource_log.specs.declared.errors.SnapshotError.TheVariants as refusals
use Rattle.resource_log.specs.Snapshots.{undo_leg, Kept, kept_of, item_of, kept_bytes, FitsKept, some_kept_in, kept_in, undo_fields, FitsUndoIn, undo_in, undo_follows, fence_status_at, fence_fields, FitsFence, fence_at, fence_follows, layout_code, snapshot_fields, snapshot_bytes_in, FitsSnapshotIn, snapshot_in, snapshots, snapshot_at, snapshot_in_bytes}
use Rattle.resource_log.specs.Soundness.{IsFaultOfSnapshot, FindsSnapshot}

-- ---- the undo log

abbrev kept_tag : Kept → ℕ
kept_tag (Some kept) = 0
kept_tag None = 1

abbrev kept_rest : KeyLayout → Kept → List ℕ
kept_rest keys (Some kept) = to_be_bytes w16 kept.call ++ (images_bytes_in keys kept.images ++ reads_bytes_in keys kept.reads)
kept_rest keys None = []

kept_laid : (keys : KeyLayout) (k : Kept) → kept_bytes keys k ≡ kept_tag k ∷ kept_rest keys k
unfolding kept_bytes
kept_laid keys (Some kept) = refl
kept_laid keys None = refl

some_kept_part : (keys : KeyLayout) → ReadsParts (some_kept_in keys) (λ (t : ℕ × (List Image × List ReadRow)). Some (record { call = t.0; images = t.1.0; reads = t.1.1 }))
    (λ t. to_be_bytes w16 t.0 ++ (images_bytes_in keys t.1.0 ++ reads_bytes_in keys t.1.1)) (λ t. (t.0 < 2 ^ 16) × (FitsImagesIn keys t.1.0 × FitsReadsIn keys t.1.1))
unfolding some_kept_in
some_kept_part keys = part two_bytes_exact (λ call. part (images_exact keys) (λ images. last_part (λ reads. Some (record { call = call; images = images; reads = reads })) (reads_exact keys)))

kept_complete : (keys : KeyLayout) → IsComplete kept_tag (kept_rest keys) (FitsKept keys) ((0, some_kept_in keys) ∷ (1, gives None) ∷ [])
kept_complete keys (Some kept) fits = (some_kept_in keys, refl, λ at rest. (some_kept_part keys).back (kept.call, (kept.images, kept.reads)) at rest fits)
kept_complete keys None fits = (gives None, refl, λ at rest. (no_part None).back tt at rest tt)

kept_exact : (keys : KeyLayout) → ReadsExactly (kept_in keys) (kept_bytes keys) (FitsKept keys)
unfolding kept_in
kept_exact keys =
    let law : ReadsExactly (kept_in keys) (λ k. kept_tag k ∷ kept_rest keys k) (FitsKept keys) =
    tagged_exact kept_tag (kept_rest keys) (FitsKept keys) ((0, some_kept_in keys) ∷ (1, gives None) ∷ []) (kept_complete keys) (
      sound kept_tag (kept_rest keys) (FitsKept keys) 0 (some_kept_part keys) (λ t fits. fits) (λ t. refl) (λ t. refl),
      (sound kept_tag (kept_rest keys) (FitsKept keys) 1 (no_part None) (λ u fits. tt) (λ u. refl) (λ u. refl), tt),
    ) in
    record {
      back = λ k at rest fits. rw (kept_laid keys k) (law.back k at rest fits);
      only = λ k place after all e.
          let found = law.only k place after all e in
          (found.0, rw (kept_laid keys k) found.1);
    }

item_again : (u : UndoItem) → item_of (undo_leg u) (kept_of u) ≡ u
item_again (undo.Normal r) = refl
item_again (undo.Finished leg) = refl

item_fields : (keys : KeyLayout) (t : Leg × Kept) → undo_fields keys (item_of t.0 t.1) ≡ leg_bytes t.0 ++ kept_bytes keys t.1
unfolding undo_fields
item_fields keys (leg, Some kept) = refl
item_fields keys (leg, None) = refl

item_fits : (keys : KeyLayout) (t : Leg × Kept) → FitsLeg t.0 × FitsKept keys t.1 → FitsUndoIn keys (item_of t.0 t.1)
item_fits keys (leg, Some kept) fits = record { leg = fits.0; kept = fits.1 }
item_fits keys (leg, None) fits = record { leg = fits.0; kept = tt }

fields_apart : (keys : KeyLayout) (u : UndoItem) → undo_fields keys u ≡ leg_bytes (undo_leg u) ++ kept_bytes keys (kept_of u)
unfolding undo_fields
fields_apart keys u = refl

undo_part : (keys : KeyLayout) → ReadsParts (undo_in keys) (λ (t : Leg × Kept). item_of t.0 t.1) (λ t. leg_bytes t.0 ++ kept_bytes keys t.1) (λ t. FitsLeg t.0 × FitsKept keys t.1)
unfolding undo_in
undo_part keys = part leg_exact (λ leg. last_part (λ kept. item_of leg kept) (kept_exact keys))

undo_exact : (keys : KeyLayout) → ReadsExactly (undo_in keys) (undo_fields keys) (FitsUndoIn keys)
undo_exact keys = whole (undo_fields keys) (FitsUndoIn keys) (λ (u : UndoItem). (undo_leg u, kept_of u))
    (undo_part keys) item_again (fields_apart keys) (item_fields keys)
    (λ u fits. (fits.leg, fits.kept))
    (item_fits keys)

-- ---- fences

status_found : (x : FenceStatus) → look_up (code_of x) (by_code code_of (fence.Tried ∷ fence.Committed ∷ fence.Rollbacked ∷ fence.Suspended ∷ [])) ≡ Some (gives x)
status_found fence.Tried = refl
status_found fence.Committed = refl
status_found fence.Rollbacked = refl
status_found fence.Suspended = refl

fence_status_exact : ReadsExactly fence_status_at (λ x. code_of x ∷ []) (λ x. Unit {0})
unfolding fence_status_at
fence_status_exact = coded_exact code_of (fence.Tried ∷ fence.Committed ∷ fence.Rollbacked ∷ fence.Suspended ∷ []) status_found

fence_exact : ReadsExactly fence_at fence_fields FitsFence
unfolding fence_at fence_fields
fence_exact = whole fence_fields FitsFence (λ (f : FenceItem). (f.leg, (f.status, f.call)))
    (part leg_exact (λ leg. part fence_status_exact (λ status. last_part (λ call. record { leg = leg; status = status; call = call }) two_bytes_exact)))
    (λ f. refl) (λ f. refl) (λ t. refl)
    (λ f fits. (fits.leg, (tt, fits.call)))
    (λ t fits. record { leg = fits.0; call = fits.1.1 })

-- ---- the lists of a snapshot

rows_exact : ReadsExactly (long_list_at (next_item any_order named_row_at)) (long_list_bytes named_row_bytes) (FitsLongList any_order FitsNamedRow)
rows_exact = long_list_exact any_order (next_item any_order named_row_at) named_row_bytes FitsNamedRow (next_exact any_order named_row_at named_row_bytes FitsNamedRow named_row_exact)

undos_exact : (keys : KeyLayout) → ReadsExactly (long_list_at (next_item undo_follows (undo_in keys))) (long_list_bytes (undo_fields keys)) (FitsLongList undo_follows (FitsUndoIn keys))
undos_exact keys = long_list_exact undo_follows (next_item undo_follows (undo_in keys)) (undo_fields keys) (FitsUndoIn keys)
    (next_exact undo_follows (undo_in keys) (undo_fields keys) (FitsUndoIn keys) (undo_exact keys))

fences_exact : ReadsExactly (long_list_at (next_item fence_follows fence_at)) (long_list_bytes fence_fields) (FitsLongList fence_follows FitsFence)
fences_exact = long_list_exact fence_follows (next_item fence_follows fence_at) fence_fields FitsFence (next_exact fence_follows fence_at fence_fields FitsFence fence_exact)

-- ---- snapshots

abbrev Parts : Type 0
Parts = ℕ × (ℕ × (List (List ℕ × Row) × (List UndoItem × List FenceItem)))

abbrev snapshot_made : Parts → ResourceSnapshot
snapshot_made t = record { acts = t.0; boots = t.1.0; rows = t.1.1.0; undos = t.1.1.1.0; fences = t.1.1.1.1 }

snapshot_part : (keys : KeyLayout) → ReadsParts (snapshot_in keys) snapshot_made
    (λ t. to_be_bytes w32 t.0 ++ (to_be_bytes w32 t.1.0 ++ (long_list_bytes named_row_bytes t.1.1.0 ++ (long_list_bytes (undo_fields keys) t.1.1.1.0 ++ long_list_bytes fence_fields t.1.1.1.1))))
    (λ t. (t.0 < 2 ^ 32) × ((t.1.0 < 2 ^ 32) × (FitsLongList any_order FitsNamedRow t.1.1.0 × (FitsLongList undo_follows (FitsUndoIn keys) t.1.1.1.0 × FitsLongList fence_follows FitsFence t.1.1.1.1))))
unfolding snapshot_in
snapshot_part keys = part four_bytes_exact (λ acts. part four_bytes_exact (λ boots. part rows_exact (λ rows. part (undos_exact keys) (λ undos. last_part (λ fences. snapshot_made (acts, (boots, (rows, (undos, fences))))) fences_exact))))

abbrev layout_tag : KeyLayout → ResourceSnapshot → ℕ
layout_tag keys s = layout_code keys

behind_layout : (keys : KeyLayout) (s : ResourceSnapshot) (at : ℕ) (rest : List ℕ) → FitsSnapshotIn keys s → snapshot_in keys (record { at = at; rest = snapshot_fields keys s ++ rest }) ≡ Ok (s, record { at = at + length (snapshot_fields keys s); rest = rest })
unfolding snapshot_fields
behind_layout keys s at rest fits = (snapshot_part keys).back (s.acts, (s.boots, (s.rows, (s.undos, s.fences)))) at rest (fits.acts, (fits.boots, (fits.rows, (fits.undos, fits.fences))))

snapshots_have : HasEach layout_tag snapshot_fields FitsSnapshotIn snapshots
snapshots_have layout.Single s fits = (snapshot_in layout.Single, refl, λ at rest. behind_layout layout.Single s at rest fits)
snapshots_have layout.Counted s fits = (snapshot_in layout.Counted, refl, λ at rest. behind_layout layout.Counted s at rest fits)

snapshots_laid : AreLaid layout_tag snapshot_fields FitsSnapshotIn snapshots
unfolding snapshot_fields
snapshots_laid = (
  laid layout_tag snapshot_fields FitsSnapshotIn layout.Single 1 (snapshot_part layout.Single) (λ t fits. record { acts = fits.0; boots = fits.1.0; rows = fits.1.1.0; undos = fits.1.1.1.0; fences = fits.1.1.1.1 }) (λ t. refl) (λ t. refl),
  (
    laid layout_tag snapshot_fields FitsSnapshotIn layout.Counted 2 (snapshot_part layout.Counted) (λ t fits. record { acts = fits.0; boots = fits.1.0; rows = fits.1.1.0; undos = fits.1.1.1.0; fences = fits.1.1.1.1 }) (λ t. refl) (λ t. refl),
    tt,
  ),
)

snapshot_layouts : ReadsLayouts snapshot_at snapshot_bytes_in FitsSnapshotIn
unfolding snapshot_at
snapshot_layouts = tagged_layouts layout_tag snapshot_fields FitsSnapshotIn snapshots snapshots_have snapshots_laid

pub snapshots_are_of_layouts : IsOfLayouts snapshot_in_bytes snapshot_bytes_in FitsSnapshotIn
unfolding snapshot_in_bytes
snapshots_are_of_layouts = entire_layouts snapshot_at snapshot_bytes_in FitsSnapshotIn snapshot_layouts

pub snapshot_fault : (bytes : List ℕ) (start : Position) (fault : FieldError) (e : SnapshotError) → start ≡ record { at = 0; rest = bytes } → (fault ≢ errors.NoMemory → snapshot_at start ≡ Err fault) → IsFaultOfSnapshot fault e → FindsSnapshot (snapshot_in_bytes bytes) (Err e)
unfolding snapshot_in_bytes
snapshot_fault bytes start fault refusals.Damaged is read why = entire_none snapshot_at bytes start fault is (read why)
snapshot_fault bytes start fault refusals.NoMemory is read why = tt

pub snapshot_some : (bytes : List ℕ) (start : Position) (s : ResourceSnapshot) (after : Position) → start ≡ record { at = 0; rest = bytes } → snapshot_at start ≡ Ok (s, after) → after.at ≡ length bytes → snapshot_in_bytes bytes ≡ Some s
unfolding snapshot_in_bytes
snapshot_some bytes start s after is read last = entire_some snapshot_at bytes start s after is read last

pub snapshot_none : (bytes : List ℕ) (start : Position) (s : ResourceSnapshot) (after : Position) → start ≡ record { at = 0; rest = bytes } → snapshot_at start ≡ Ok (s, after) → (after.at ≡ length bytes → ⊥) → snapshot_in_bytes bytes ≡ None
unfolding snapshot_in_bytes
snapshot_none bytes start s after is read other = entire_longer snapshot_at bytes start s after is read other
