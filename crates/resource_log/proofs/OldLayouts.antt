-- What fits the older layout fits the one that is written.
use Rattle.std.proofs.Common.{◌≡◌, ℕ, All, List, length, get_or, Some, None, arith}
use Rattle.seata_types.specs.declared.rows.Image.{Image}
use Rattle.seata_types.specs.declared.rows.ReadRow.{ReadRow}
use Rattle.seata_types.specs.declared.rows.RowKey.{RowKey}
use Rattle.seata_types.specs.declared.rows.Value.{Value}
use Rattle.byte_fields.specs.declared.layouts.KeyLayout.{KeyLayout}
use Rattle.byte_fields.specs.declared.layouts.KeyLayout.TheVariants as layout
use Rattle.byte_fields.specs.Exactness.{AreBytes}
use Rattle.byte_fields.specs.Layout.{FitsParts, FitsKeyIn, FitsImageIn, FitsReadIn, FitsImages, FitsImagesIn, FitsReads, FitsReadsIn}
use Rattle.durable_records.specs.declared.resources.ResourceRecord.{ResourceRecord}
use Rattle.durable_records.specs.declared.resources.ResourceRecord.TheVariants as log
use Rattle.resource_log.specs.declared.states.ResourceSnapshot.{ResourceSnapshot}
use Rattle.resource_log.specs.declared.states.UndoItem.{UndoItem}
use Rattle.resource_log.specs.Records.{FitsRecord, FitsRecordIn, record_of}
use Rattle.resource_log.specs.Snapshots.{Kept, kept_of, FitsKept, FitsUndoIn, FitsSnapshot, FitsSnapshotIn, snapshot_in_bytes}
use Rattle.resource_log.proofs.RecordLaws.{records_are_of_layouts}
use Rattle.resource_log.proofs.SnapshotLaws.{snapshots_are_of_layouts}

all_wider : {X : Type 0} (F G : X → Type 0) (xs : List X) → ((x : X) → F x → G x) → All F xs → All G xs
all_wider F G xs wider all = λ k d lt. wider (get_or xs k d) (all k d lt)

parts_wider : (pk : List Value) → FitsParts layout.Single pk → FitsParts layout.Counted pk
parts_wider pk fits =
    let one : length pk ≡ 1 = fits.count in
    record { count = (omega (arith, one), omega (arith, one)); each = fits.each }

key_wider : (key : RowKey) → FitsKeyIn layout.Single key → FitsKeyIn layout.Counted key
key_wider key fits = record { resource = fits.resource; table = fits.table; pk = parts_wider key.pk fits.pk }

image_wider : (keys : KeyLayout) (image : Image) → FitsImageIn keys image → FitsImageIn layout.Counted image
image_wider layout.Single image fits = record { key = key_wider image.key fits.key; before = fits.before; after = fits.after }
image_wider layout.Counted image fits = fits

read_wider : (keys : KeyLayout) (read : ReadRow) → FitsReadIn keys read → FitsReadIn layout.Counted read
read_wider layout.Single read fits = record { key = key_wider read.key fits.key; row = fits.row }
read_wider layout.Counted read fits = fits

images_wider : (keys : KeyLayout) (images : List Image) → FitsImagesIn keys images → FitsImages images
images_wider keys images fits =
    record { count = fits.count; each = all_wider (FitsImageIn keys) (FitsImageIn layout.Counted) images (image_wider keys) fits.each; order = fits.order }

reads_wider : (keys : KeyLayout) (reads : List ReadRow) → FitsReadsIn keys reads → FitsReads reads
reads_wider keys reads fits =
    record { count = fits.count; each = all_wider (FitsReadIn keys) (FitsReadIn layout.Counted) reads (read_wider keys) fits.each; order = fits.order }

record_wider : (keys : KeyLayout) (r : ResourceRecord) → FitsRecordIn keys r → FitsRecord r
record_wider keys (log.Boot number) fits = fits
record_wider keys (log.Committed xid branch call images reads) fits = (fits.0, fits.1, images_wider keys images fits.2, reads_wider keys reads fits.3)
record_wider keys (log.Undone xid branch) fits = fits
record_wider keys (log.Marked xid branch) fits = fits
record_wider keys (log.Cleared xid branch) fits = fits
record_wider keys (log.Tried xid branch call images) fits = (fits.0, fits.1, images_wider keys images fits.2)
record_wider keys (log.Confirmed xid branch images) fits = (fits.0, images_wider keys images fits.1)
record_wider keys (log.Cancelled xid branch images) fits = (fits.0, images_wider keys images fits.1)
record_wider keys (log.Suspended xid branch) fits = fits
record_wider keys (log.LocalCommitted number images) fits = fits
record_wider keys (log.Outside number images) fits = fits

kept_wider : (keys : KeyLayout) (k : Kept) → FitsKept keys k → FitsKept layout.Counted k
kept_wider keys (Some kept) fits = (fits.0, (images_wider keys kept.images fits.1.0, reads_wider keys kept.reads fits.1.1))
kept_wider keys None fits = tt

undo_wider : (keys : KeyLayout) (u : UndoItem) → FitsUndoIn keys u → FitsUndoIn layout.Counted u
undo_wider keys u fits = record { leg = fits.leg; kept = kept_wider keys (kept_of u) fits.kept }

snapshot_wider : (keys : KeyLayout) (s : ResourceSnapshot) → FitsSnapshotIn keys s → FitsSnapshot s
snapshot_wider keys s fits = record {
  acts = fits.acts;
  boots = fits.boots;
  rows = fits.rows;
  undos = record { count = fits.undos.count; each = all_wider (FitsUndoIn keys) (FitsUndoIn layout.Counted) s.undos (undo_wider keys) fits.undos.each; order = fits.undos.order };
  fences = fits.fences;
}

-- what is read can be written
pub record_writable : (bytes : List ℕ) (r : ResourceRecord) → AreBytes bytes → record_of bytes ≡ Some r → FitsRecord r
record_writable bytes r all found =
    let read = records_are_of_layouts.only bytes r all found in
    record_wider read.0 r read.1

pub snapshot_writable : (bytes : List ℕ) (s : ResourceSnapshot) → AreBytes bytes → snapshot_in_bytes bytes ≡ Some s → FitsSnapshot s
snapshot_writable bytes s all found =
    let read = snapshots_are_of_layouts.only bytes s all found in
    snapshot_wider read.0 s read.1
