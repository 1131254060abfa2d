-- What is known has a place in a snapshot, record by record.
use Rattle.std.proofs.Common.{◌≡◌, ◌==◌, ◌<◌, ◌^◌, ℕ, Bool, true, false, cond, All, List, [], ◌∷◌, map, Option, Some, None, subst}
use Rattle.std.specs.BTreeMap.{insert_entry}
use Rattle.std.specs.List.{AllByRecursion}
use Rattle.std.proofs.lemmas.List.Elements.{All-head, All-tail, All-nil}
use Rattle.seata_types.specs.declared.ids.Leg.{Leg}
use Rattle.seata_types.specs.declared.rows.Image.{Image}
use Rattle.seata_types.specs.declared.rows.ReadRow.{ReadRow}
use Rattle.seata_types.specs.declared.rows.Row.{Row}
use Rattle.seata_types.specs.declared.rows.RowKey.{RowKey}
use Rattle.byte_fields.specs.declared.layouts.KeyLayout.TheVariants as layout
use Rattle.byte_fields.specs.Layout.{FitsRow, FitsOptionRow, FitsText, FitsImageIn, FitsImagesIn, FitsReadsIn}
use Rattle.byte_fields.specs.Parts.{FitsLeg, FitsNamedRow}
use Rattle.local_tables.specs.declared.schemas.Way.{Way}
use Rattle.local_tables.specs.declared.schemas.Way.TheVariants as way
use Rattle.local_tables.specs.Rows.{Database, applied, side}
use Rattle.durable_records.specs.declared.resources.ResourceRecord.{ResourceRecord}
use Rattle.durable_records.specs.declared.resources.ResourceRecord.TheVariants as log
use Rattle.durable_records.specs.Fences.{Fence, IsTried, IsCommitted, IsRollbacked, IsSuspended, leg_cmp, with_fence}
use Rattle.undo_log.specs.Entries.{Log, order, is_leg, entry_at, with_entry, without_entry}
use Rattle.undo_log.specs.declared.records.UndoEntry.{UndoEntry}
use Rattle.undo_log.specs.declared.records.UndoEntry.TheVariants as entry
use Rattle.tcc_fence.specs.Meanings.{Fences, pair_of}
use Rattle.resource_log.specs.Records.{leg_of, FitsRecord}
use Rattle.resource_log.specs.SnapshotOf.{named_row, undo_item, item_for}
use Rattle.resource_log.specs.Snapshots.{FitsUndoIn}
use Rattle.resource_memory.specs.Changes.{after, undo_images, undo_record}
use Rattle.resource_memory.specs.Keeping.{FitsBranch, FitsParts}
use Rattle.resource_memory.specs.Known.{Known, Calls, with_call}
use Rattle.resource_memory.specs.Laws.{StaysKept}
use Rattle.resource_memory.proofs.KeptLaws.{kept_after}
use Rattle.resource_memory.proofs.Legs.{pair_total, pair_exact, leg_total, leg_exact}
use Rattle.resource_memory.proofs.Maps.{all_insert, all_remove}
use Rattle.resource_memory.proofs.RowLaws.{Puts, all_put_all}

-- ---- rows

abbrev RowFits : RowKey × Row → Type 0
RowFits e = FitsNamedRow (named_row e)

abbrev ImageFits : Image → Type 0
ImageFits i = FitsImageIn layout.Counted i

side_fits : (key : RowKey) (c : Option Row) → FitsText key.table → FitsOptionRow c → (row : Row) → c ≡ Some row → RowFits (key, row)
side_fits key None text fits row is = absurd (none_is row is)
  where
    none_is : (r : Row) → None ≡ Some r → ⊥
    none_is r g = cc
side_fits key (Some r) text fits row is = (text, some_row r row is fits)
  where
    some_row : (a b : Row) → Some a ≡ Some b → FitsRow a → FitsRow b
    some_row a b g fit = let same : a ≡ b = cc in subst (λ (x : Row). FitsRow x) same fit

image_puts : (direction : Way) (i : Image) → ImageFits i → Puts RowFits (side direction i)
image_puts way.Do i fits = side_fits i.key i.after fits.key.table fits.after
image_puts way.Undo i fits = side_fits i.key i.before fits.key.table fits.before

images_put : (direction : Way) (images : List Image) → All ImageFits images → AllByRecursion (Puts RowFits) (map (side direction) images)
images_put direction [] all = tt
images_put direction (i ∷ is) all = (image_puts direction i (All-head ImageFits i is all), images_put direction is (All-tail ImageFits i is all))

rows_fit : (direction : Way) (images : List Image) (db : Database) → All ImageFits images → AllByRecursion RowFits db.rows → AllByRecursion RowFits (applied direction images db).rows
rows_fit direction images db all rows = all_put_all RowFits db.rows (map (side direction) images) rows (images_put direction images all)

-- ---- undo records

abbrev EntryFits : Leg × UndoEntry → Type 0
EntryFits e = FitsUndoIn layout.Counted (undo_item e)

entry_images_fit : (leg : Leg) (e : UndoEntry) → FitsUndoIn layout.Counted (item_for leg e) → All ImageFits (undo_images (Some e))
entry_images_fit leg (entry.Normal r) fits = fits.kept.1.0.each
entry_images_fit leg entry.Finished fits = All-nil ImageFits

images_fit_at : (undos : Log) (leg : Leg) → AllByRecursion EntryFits undos → All ImageFits (undo_images (entry_at undos leg))
images_fit_at [] leg all = All-nil ImageFits
images_fit_at (e ∷ es) leg all = by (is_leg leg e.0) (images_fit_at es leg all.1)
  where
    by : (b : Bool) → All ImageFits (undo_images (entry_at es leg)) → All ImageFits (undo_images (cond b (Some e.1) (entry_at es leg)))
    by true rest = entry_images_fit e.0 e.1 all.0
    by false rest = rest

entry_with : (undos : Log) (leg : Leg) (e : UndoEntry) → AllByRecursion EntryFits undos → EntryFits (leg, e) → AllByRecursion EntryFits (with_entry undos leg e)
entry_with undos leg e all new = all_insert order leg_total leg_exact EntryFits undos leg e all new

entry_without : (undos : Log) (leg : Leg) → AllByRecursion EntryFits undos → AllByRecursion EntryFits (without_entry undos leg)
entry_without undos leg all = all_remove order leg_total leg_exact EntryFits undos leg all

committed_fits : (leg : Leg) (call : ℕ) (images : List Image) (reads : List ReadRow) → FitsLeg leg → call < 2 ^ 16 → FitsImagesIn layout.Counted images → FitsReadsIn layout.Counted reads → EntryFits (leg, undo_record leg call images reads)
committed_fits leg call images reads l c is rs = record { leg = l; kept = (c, (is, rs)) }

-- ---- fences and calls

fence_with : (fences : Fences) (leg : Leg) (here : Fence) → AllByRecursion FitsBranch fences → FitsLeg leg → AllByRecursion FitsBranch (with_fence leg.xid.0 leg.branch.0 here fences)
fence_with fences leg here all new = all_insert leg_cmp pair_total pair_exact FitsBranch fences (pair_of leg) here all new

call_with : (calls : Calls) (leg : Leg) (call : ℕ) → AllByRecursion (λ e. e.1 < 2 ^ 16) calls → call < 2 ^ 16 → AllByRecursion (λ e. e.1 < 2 ^ 16) (with_call calls leg call)
call_with calls leg call all new = by (call == 0)
  where
    by : (b : Bool) → AllByRecursion (λ e. e.1 < 2 ^ 16) (cond b calls (insert_entry order calls leg call))
    by true = all
    by false = all_insert order leg_total leg_exact (λ e. e.1 < 2 ^ 16) calls leg call all new

-- ---- one more record

fits_after : (k : Known) (r : ResourceRecord) → FitsParts k → FitsRecord r → FitsParts (after r k)
fits_after k (log.Boot number) p f = record { rows = p.rows; undos = p.undos; fences = p.fences; calls = p.calls }
fits_after k (log.Committed xid branch call images reads) p f = record {
  rows = rows_fit way.Do images k.tables f.2.each p.rows;
  undos = entry_with k.undo_log (leg_of xid branch) (undo_record (leg_of xid branch) call images reads) p.undos (committed_fits (leg_of xid branch) call images reads f.0 f.1 f.2 f.3);
  fences = p.fences;
  calls = p.calls;
}
fits_after k (log.Undone xid branch) p f = record {
  rows = rows_fit way.Undo (undo_images (entry_at k.undo_log (leg_of xid branch))) k.tables (images_fit_at k.undo_log (leg_of xid branch) p.undos) p.rows;
  undos = entry_without k.undo_log (leg_of xid branch) p.undos;
  fences = p.fences;
  calls = p.calls;
}
fits_after k (log.Marked xid branch) p f = record {
  rows = p.rows;
  undos = entry_with k.undo_log (leg_of xid branch) entry.Finished p.undos (record { leg = f; kept = tt });
  fences = p.fences;
  calls = p.calls;
}
fits_after k (log.Cleared xid branch) p f = record { rows = p.rows; undos = entry_without k.undo_log (leg_of xid branch) p.undos; fences = p.fences; calls = p.calls }
fits_after k (log.Tried xid branch call images) p f = record {
  rows = rows_fit way.Do images k.tables f.2.each p.rows;
  undos = p.undos;
  fences = fence_with k.fences (leg_of xid branch) IsTried p.fences f.0;
  calls = call_with k.calls (leg_of xid branch) call p.calls f.1;
}
fits_after k (log.Confirmed xid branch images) p f = record {
  rows = rows_fit way.Do images k.tables f.1.each p.rows;
  undos = p.undos;
  fences = fence_with k.fences (leg_of xid branch) IsCommitted p.fences f.0;
  calls = p.calls;
}
fits_after k (log.Cancelled xid branch images) p f = record {
  rows = rows_fit way.Do images k.tables f.1.each p.rows;
  undos = p.undos;
  fences = fence_with k.fences (leg_of xid branch) IsRollbacked p.fences f.0;
  calls = p.calls;
}
fits_after k (log.Suspended xid branch) p f = record { rows = p.rows; undos = p.undos; fences = fence_with k.fences (leg_of xid branch) IsSuspended p.fences f; calls = p.calls }
fits_after k (log.LocalCommitted number images) p f = record { rows = rows_fit way.Do images k.tables f.1.each p.rows; undos = p.undos; fences = p.fences; calls = p.calls }
fits_after k (log.Outside number images) p f = record { rows = rows_fit way.Do images k.tables f.1.each p.rows; undos = p.undos; fences = p.fences; calls = p.calls }

pub stays : StaysKept
stays k r kept may = (kept_after k kept r may, fits_after k r)
