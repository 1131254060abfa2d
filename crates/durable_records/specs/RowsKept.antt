-- The rows of a resource by its records: as they are now, and as the commits that stand left them.
use Rattle.std.specs.Prelude.{ℕ, ◌==◌, ◌&&◌, Bool, true, not, List, [], ◌∷◌, filter, find, Option, Some, None}
use Rattle.seata_types.specs.declared.rows.Image.{Image}
use Rattle.seata_types.specs.declared.rows.Row.{Row}
use Rattle.seata_types.specs.declared.rows.RowKey.{RowKey}
use Rattle.local_tables.specs.Rows.{Database, is_key, row_at, applied}
use Rattle.local_tables.specs.declared.schemas.Way.TheVariants as way
use Rattle.durable_records.specs.declared.resources.ResourceRecord.{ResourceRecord}
use Rattle.durable_records.specs.declared.resources.ResourceRecord.TheVariants as log
use Rattle.durable_records.specs.UndoRecords.{Undo, undo_of}

-- ---- the rows as they are now

-- the images of an undo record, and none where there is none
abbrev pub images_of : Option Undo → List Image
images_of None = []
images_of (Some u) = u.images

-- the tables now: over the opening rows each record puts the afters of its images, and an undo their befores
abbrev pub tables : Database → List ResourceRecord → Database
tables opening [] = opening
tables opening (log.Committed xid branch call images reads ∷ rs) = applied way.Do images (tables opening rs)
tables opening (log.Undone xid branch ∷ rs) = applied way.Undo (images_of (undo_of rs xid.0 branch.0)) (tables opening rs)
tables opening (log.Tried xid branch call images ∷ rs) = applied way.Do images (tables opening rs)
tables opening (log.Confirmed xid branch images ∷ rs) = applied way.Do images (tables opening rs)
tables opening (log.Cancelled xid branch images ∷ rs) = applied way.Do images (tables opening rs)
tables opening (log.LocalCommitted number images ∷ rs) = applied way.Do images (tables opening rs)
tables opening (log.Outside number images ∷ rs) = applied way.Do images (tables opening rs)
tables opening (_ ∷ rs) = tables opening rs

-- the row at a key now
abbrev pub now_value : Database → List ResourceRecord → RowKey → Option Row
now_value opening rs key = row_at (tables opening rs).rows key

-- ---- the rows that are kept

-- a change of a row: by the local commit of a branch, by a local transaction, or by an outside write
pub data Change : Type 0 where
  ByBranch : (xid branch : ℕ) → (before after : Option Row) → Change
  ByLocal : (after : Option Row) → Change
  ByOutside : (after : Option Row) → Change

-- the image of a row
abbrev pub image_at : List Image → RowKey → Option Image
image_at images key = find (λ i. is_key key i.key) images

-- one change more where a record has an image of the row
abbrev pub changed : (Image → Change) → Option Image → List Change → List Change
changed by None rest = rest
changed by (Some image) rest = by image ∷ rest

-- the change that an image is, by who made it
abbrev pub by_branch : ℕ → ℕ → Image → Change
by_branch x b image = ByBranch x b image.before image.after

abbrev pub by_local : Image → Change
by_local image = ByLocal image.after

abbrev pub by_outside : Image → Change
by_outside image = ByOutside image.after

-- whether a change isn't that of branch b of x
abbrev pub is_by_other : ℕ → ℕ → Change → Bool
is_by_other x b (ByBranch y c before after) = not ((y == x) && (c == b))
is_by_other x b _ = true

-- the changes of a row that aren't undone, the last one first
abbrev pub changes : List ResourceRecord → RowKey → List Change
changes [] key = []
changes (log.Committed xid branch call images reads ∷ rs) key = changed (by_branch xid.0 branch.0) (image_at images key) (changes rs key)
changes (log.Undone xid branch ∷ rs) key = filter (is_by_other xid.0 branch.0) (changes rs key)
changes (log.LocalCommitted number images ∷ rs) key = changed by_local (image_at images key) (changes rs key)
changes (log.Outside number images ∷ rs) key = changed by_outside (image_at images key) (changes rs key)
changes (_ ∷ rs) key = changes rs key

-- the row as a change left it
abbrev pub after_of : Change → Option Row
after_of (ByBranch x b before after) = after
after_of (ByLocal after) = after
after_of (ByOutside after) = after

-- what the last of these changes left, on a row that was so at first; no before-image occurs in it
abbrev pub value_of : Option Row → List Change → Option Row
value_of first [] = first
value_of first (c ∷ cs) = after_of c

-- the row at a key as its last change that isn't undone left it, else as it was at the opening
abbrev pub kept_value : Database → List ResourceRecord → RowKey → Option Row
kept_value opening rs key = value_of (row_at opening.rows key) (changes rs key)
