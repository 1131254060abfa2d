-- When a record of a resource may come after others.
use Rattle.std.specs.Prelude.{◌≡◌, ◌+◌, ◌≤◌, ℕ, true, false, not, List, [], ◌∷◌, length, map, filter, All, None, is_some}
use Rattle.std.specs.List.{IsDistinct}
use Rattle.seata_types.specs.declared.limits.TheConstants.{CALL_ROWS}
use Rattle.seata_types.specs.declared.rows.Image.{Image}
use Rattle.seata_types.specs.declared.rows.ReadRow.{ReadRow}
use Rattle.seata_types.specs.declared.rows.RowKey.{RowKey}
use Rattle.local_tables.specs.Rows.{Database, AreImagesOf, IsReadOf, is_key}
use Rattle.durable_records.specs.declared.resources.ResourceRecord.{ResourceRecord}
use Rattle.durable_records.specs.declared.resources.ResourceRecord.TheVariants as log
use Rattle.durable_records.specs.Locks.{has_key}
use Rattle.durable_records.specs.UndoRecords.{boots, undo_of, is_marked}
use Rattle.durable_records.specs.Fences.{Runs, Suspends, fence, on_try, on_confirm, on_cancel}

-- ---- images and reads of these tables

abbrev pub image_keys : List Image → List RowKey
image_keys images = map (λ i. i.key) images

abbrev pub read_keys : List ReadRow → List RowKey
read_keys reads = map (λ r. r.key) reads

-- the rows that were read and not touched
abbrev pub only_read : List Image → List ReadRow → List RowKey
only_read images reads = filter (λ k. not (has_key (image_keys images) k)) (read_keys reads)

-- images and reads of different rows of these tables, of no more rows than a call may touch or read
pub record FitTables (db : Database) (images : List Image) (reads : List ReadRow) : Type 0 where
  pub touched : AreImagesOf db images
  pub read : All (IsReadOf db) reads
  pub different : IsDistinct is_key (read_keys reads)
  pub few : length images + length (only_read images reads) ≤ CALL_ROWS

-- ---- a record after others

-- branch b of x has neither an undo record nor a marker
abbrev pub HasNoEntry : List ResourceRecord → ℕ → ℕ → Type 0
HasNoEntry rs x b = (undo_of rs x b ≡ None) × (is_marked rs x b ≡ false)

-- branch b of x has an undo record
abbrev pub HasUndo : List ResourceRecord → ℕ → ℕ → Type 0
HasUndo rs x b = is_some (undo_of rs x b) ≡ true

-- a record may come after these, on tables that opened so
abbrev pub May : Database → List ResourceRecord → ResourceRecord → Type 0
May opening rs (log.Boot number) = number ≡ boots rs + 1
May opening rs (log.Committed xid branch call images reads) = HasNoEntry rs xid.0 branch.0 × FitTables opening images reads
May opening rs (log.Undone xid branch) = HasUndo rs xid.0 branch.0
May opening rs (log.Marked xid branch) = HasNoEntry rs xid.0 branch.0
May opening rs (log.Cleared xid branch) = HasUndo rs xid.0 branch.0
May opening rs (log.Tried xid branch call images) = (on_try (fence rs xid.0 branch.0) ≡ Runs) × FitTables opening images []
May opening rs (log.Confirmed xid branch images) = (on_confirm (fence rs xid.0 branch.0) ≡ Runs) × FitTables opening images []
May opening rs (log.Cancelled xid branch images) = (on_cancel (fence rs xid.0 branch.0) ≡ Runs) × FitTables opening images []
May opening rs (log.Suspended xid branch) = on_cancel (fence rs xid.0 branch.0) ≡ Suspends
May opening rs (log.LocalCommitted number images) = FitTables opening images []
May opening rs (log.Outside number images) = FitTables opening images []

-- each record may come after those before it
abbrev pub Allowed : Database → List ResourceRecord → Type 0
Allowed opening [] = Unit {0}
Allowed opening (r ∷ rs) = Allowed opening rs × May opening rs r
