-- The parts of a snapshot, appended one after the other, are its fields.
use Rattle.std.proofs.Common.{◌≡◌, ℕ, List, ◌++◌, append_assoc}
use Rattle.std.specs.Int.{w32, to_be_bytes}
use Rattle.seata_types.specs.declared.rows.Row.{Row}
use Rattle.byte_fields.specs.declared.layouts.KeyLayout.TheVariants as layout
use Rattle.byte_fields.specs.Parts.{named_row_bytes}
use Rattle.byte_fields.specs.LongLists.{long_list_bytes}
use Rattle.resource_log.specs.declared.states.FenceItem.{FenceItem}
use Rattle.resource_log.specs.declared.states.ResourceSnapshot.{ResourceSnapshot}
use Rattle.resource_log.specs.declared.states.UndoItem.{UndoItem}
use Rattle.resource_log.specs.Snapshots.{undo_fields, fence_fields, snapshot_fields}

regroup : (out acts boots rows undos fences : List ℕ) → (((out ++ (acts ++ boots)) ++ rows) ++ undos) ++ fences ≡ out ++ (acts ++ (boots ++ (rows ++ (undos ++ fences))))
regroup out acts boots rows undos fences = simp append_assoc

pub are_fields : (out first second third fourth : List ℕ) (s : ResourceSnapshot) (rows : List (List ℕ × Row)) (undos : List UndoItem) (fences : List FenceItem) →
    first ≡ out ++ (to_be_bytes w32 s.acts ++ to_be_bytes w32 s.boots) → rows ≡ s.rows → undos ≡ s.undos → fences ≡ s.fences →
    second ≡ first ++ long_list_bytes named_row_bytes rows → third ≡ second ++ long_list_bytes (undo_fields layout.Counted) undos → fourth ≡ third ++ long_list_bytes fence_fields fences →
    fourth ≡ out ++ snapshot_fields layout.Counted s
unfolding snapshot_fields
are_fields out first second third fourth s rows undos fences counts same_rows same_undos same_fences two three four =
    rw (four, three, two, counts, same_rows, same_undos, same_fences)
    (regroup out (to_be_bytes w32 s.acts) (to_be_bytes w32 s.boots) (long_list_bytes named_row_bytes s.rows) (long_list_bytes (undo_fields layout.Counted) s.undos) (long_list_bytes fence_fields s.fences))
