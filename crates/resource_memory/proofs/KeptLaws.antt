-- What is known stays in order, record by record.
use Rattle.std.proofs.Common.{◌≡◌, ◌≤◌, ◌+◌, ℕ, true, List, [], refl, arith}
use Rattle.std.specs.List.Sorted.{IsStrictlySortedBy}
use Rattle.std.proofs.lemmas.Bool.{and_parts}
use Rattle.seata_types.specs.declared.ids.Leg.{Leg}
use Rattle.seata_types.specs.declared.rows.Image.{Image}
use Rattle.seata_types.specs.declared.rows.ReadRow.{ReadRow}
use Rattle.local_tables.specs.declared.schemas.Way.TheVariants as way
use Rattle.local_tables.specs.Rows.{Database, AreImagesOf, applied}
use Rattle.durable_records.specs.declared.resources.ResourceRecord.{ResourceRecord}
use Rattle.durable_records.specs.declared.resources.ResourceRecord.TheVariants as log
use Rattle.durable_records.specs.Fences.{Fence, IsTried, IsCommitted, IsRollbacked, IsSuspended, leg_cmp}
use Rattle.undo_log.specs.Entries.{IsInOrder, entry_at, order}
use Rattle.undo_log.specs.declared.records.UndoEntry.TheVariants as entry
use Rattle.resource_log.specs.Records.{leg_of}
use Rattle.resource_memory.specs.Changes.{after, may_come, fit, undo_images, undo_record, with_ran}
use Rattle.resource_memory.specs.Keeping.{AreRows, IsKept}
use Rattle.resource_memory.specs.Known.{Known, known_of}
use Rattle.resource_memory.proofs.Fits.{fits, images_fit}
use Rattle.resource_memory.proofs.RowLaws.{rows_applied}
use Rattle.resource_memory.proofs.UndoLaws.{undos_with, undos_without, images_at, committed_entry}
use Rattle.resource_memory.proofs.CallLaws.{fences_with, calls_fenced, calls_with}

more : (b n : ℕ) → b ≤ n → b ≤ n + 1
more b n le = omega arith

both_more : (b n : ℕ) → b ≤ n → b + 1 ≤ n + 1
both_more b n le = omega arith

-- ---- at the opening

no_legs : IsInOrder []
unfolding IsStrictlySortedBy
no_legs = tt

no_fences : IsStrictlySortedBy leg_cmp []
unfolding IsStrictlySortedBy
no_fences = tt

no_calls : IsStrictlySortedBy order []
unfolding IsStrictlySortedBy
no_calls = tt

pub kept_at_opening : (db : Database) → AreRows db → IsKept (known_of db [])
kept_at_opening db rows = record {
  counted = omega arith;
  rows = rows;
  undos = record { in_order = no_legs; each = tt };
  fences = no_fences;
  calls = record { in_order = no_calls; counted = tt; fenced = λ leg e. refl };
}

-- ---- one more record

module _ (k : Known) (kept : IsKept k) where
  done : (images : List Image) (reads : List ReadRow) → fit k.tables images reads ≡ true → AreRows (applied way.Do images k.tables)
  done images reads e = rows_applied way.Do images k.tables (fits k.tables images reads e).touched kept.rows

  kept_rows : (images : List Image) → fit k.tables images [] ≡ true → IsKept (record k { acts = k.acts + 1; tables = applied way.Do images k.tables })
  kept_rows images e = record {
    counted = more k.boots k.acts kept.counted;
    rows = done images [] e;
    undos = kept.undos;
    fences = kept.fences;
    calls = kept.calls;
  }

  kept_ran : (leg : Leg) (here : Fence) (images : List Image) → fit k.tables images [] ≡ true → IsKept (with_ran k leg here images)
  kept_ran leg here images e = record {
    counted = more k.boots k.acts kept.counted;
    rows = done images [] e;
    undos = kept.undos;
    fences = fences_with k.fences leg here kept.fences;
    calls = calls_fenced k.fences k.calls leg here kept.calls;
  }

  pub kept_after : (r : ResourceRecord) → may_come k r ≡ true → IsKept (after r k)
  kept_after (log.Boot number) may = record {
    counted = both_more k.boots k.acts kept.counted;
    rows = kept.rows;
    undos = kept.undos;
    fences = kept.fences;
    calls = kept.calls;
  }
  kept_after (log.Committed xid branch call images reads) may =
      let e = (and_parts _ _ may).1 in
      let f = fits k.tables images reads e in
      let leg = leg_of xid branch in
      record {
        counted = more k.boots k.acts kept.counted;
        rows = done images reads e;
        undos = undos_with k.tables.resource k.tables.schema k.undo_log leg (undo_record leg call images reads) kept.undos
            (committed_entry k.tables.resource k.tables.schema leg call images reads f.touched f.read f.images_rise);
        fences = kept.fences;
        calls = kept.calls;
      }
  kept_after (log.Undone xid branch) may =
      let leg = leg_of xid branch in
      let images = images_at k.tables.resource k.tables.schema k.undo_log leg kept.undos.each in
      record {
        counted = more k.boots k.acts kept.counted;
        rows = rows_applied way.Undo (undo_images (entry_at k.undo_log leg)) k.tables images.of_tables kept.rows;
        undos = undos_without k.tables.resource k.tables.schema k.undo_log leg kept.undos;
        fences = kept.fences;
        calls = kept.calls;
      }
  kept_after (log.Marked xid branch) may = record {
    counted = more k.boots k.acts kept.counted;
    rows = kept.rows;
    undos = undos_with k.tables.resource k.tables.schema k.undo_log (leg_of xid branch) entry.Finished kept.undos tt;
    fences = kept.fences;
    calls = kept.calls;
  }
  kept_after (log.Cleared xid branch) may = record {
    counted = more k.boots k.acts kept.counted;
    rows = kept.rows;
    undos = undos_without k.tables.resource k.tables.schema k.undo_log (leg_of xid branch) kept.undos;
    fences = kept.fences;
    calls = kept.calls;
  }
  kept_after (log.Tried xid branch call images) may =
      let e = (and_parts _ _ may).1 in
      let leg = leg_of xid branch in
      record {
        counted = more k.boots k.acts kept.counted;
        rows = done images [] e;
        undos = kept.undos;
        fences = fences_with k.fences leg IsTried kept.fences;
        calls = calls_with k.fences k.calls leg call IsTried kept.calls;
      }
  kept_after (log.Confirmed xid branch images) may = kept_ran (leg_of xid branch) IsCommitted images (and_parts _ _ may).1
  kept_after (log.Cancelled xid branch images) may = kept_ran (leg_of xid branch) IsRollbacked images (and_parts _ _ may).1
  kept_after (log.Suspended xid branch) may = record {
    counted = more k.boots k.acts kept.counted;
    rows = kept.rows;
    undos = kept.undos;
    fences = fences_with k.fences (leg_of xid branch) IsSuspended kept.fences;
    calls = calls_fenced k.fences k.calls (leg_of xid branch) IsSuspended kept.calls;
  }
  kept_after (log.LocalCommitted number images) may = kept_rows images may
  kept_after (log.Outside number images) may = kept_rows images may

  -- ---- what a record's parts ask

  -- the images of a branch's undo record can be put back
  pub undo_fits : (leg : Leg) → AreImagesOf k.tables (undo_images (entry_at k.undo_log leg))
  undo_fits leg =
      let images = images_at k.tables.resource k.tables.schema k.undo_log leg kept.undos.each in
      images_fit k.tables (undo_images (entry_at k.undo_log leg)) images.of_tables images.rising
