-- What one more record does to what a resource knows, and when it may come.
use Rattle.std.specs.Prelude.{◌≡◌, ℕ, ◌+◌, ◌<◌, ◌^◌, ◌==◌, ◌&&◌, nat_le, Bool, true, false, List, [], length, Option, Some, None, is_none, Result, OnOk, OnErr}
use Rattle.std.specs.List.{list_all}
use Rattle.seata_types.specs.declared.copies.NoMemory.{NoMemory}
use Rattle.seata_types.specs.declared.ids.Leg.{Leg}
use Rattle.seata_types.specs.declared.limits.TheConstants.{CALL_ROWS}
use Rattle.seata_types.specs.declared.rows.Image.{Image}
use Rattle.seata_types.specs.declared.rows.ReadRow.{ReadRow}
use Rattle.seata_types.specs.declared.rows.RowKey.{RowKey}
use Rattle.local_tables.specs.Fitting.{is_image, is_read}
use Rattle.local_tables.specs.Rows.{Database, applied}
use Rattle.local_tables.specs.declared.schemas.Way.TheVariants as way
use Rattle.durable_records.specs.declared.resources.ResourceRecord.{ResourceRecord}
use Rattle.durable_records.specs.declared.resources.ResourceRecord.TheVariants as log
use Rattle.durable_records.specs.Fences.{Fence, IsTried, IsCommitted, IsRollbacked, IsSuspended, FenceAnswer, Runs, WasDone, Suspends, Refuses, with_fence, on_try, on_confirm, on_cancel}
use Rattle.durable_records.specs.ResourceOrder.{image_keys, read_keys, only_read}
use Rattle.undo_log.specs.Entries.{entry_at, with_entry, without_entry}
use Rattle.undo_log.specs.declared.records.UndoEntry.{UndoEntry}
use Rattle.undo_log.specs.declared.records.UndoEntry.TheVariants as entry
use Rattle.tcc_fence.specs.Meanings.{fence_at}
use Rattle.resource_log.specs.Records.{leg_of}
use Rattle.resource_log.specs.Soundness.{rises_after}
use Rattle.resource_memory.specs.Known.{Known, with_call}

-- ---- images and reads that fit the tables

-- each key stands above the one before it
abbrev pub rise : List RowKey → Bool
rise keys = rises_after None keys

-- no more rows than a call may touch or read
abbrev pub are_few : List Image → List ReadRow → Bool
are_few images reads = nat_le (length images + length (only_read images reads)) CALL_ROWS

-- images and reads are of rows of these tables, each in rising order of its keys, and of no more rows than a call may have
abbrev pub fit : Database → List Image → List ReadRow → Bool
fit db images reads =
    list_all (is_image db.resource db.schema) images
    && (list_all (is_read db.resource db.schema) reads && (rise (image_keys images) && (rise (read_keys reads) && are_few images reads)))

-- ---- when a record may come

-- a branch has an undo record, not a marker
abbrev pub is_undo_record : Option UndoEntry → Bool
is_undo_record None = false
is_undo_record (Some (entry.Normal r)) = true
is_undo_record (Some entry.Finished) = false

abbrev pub runs : FenceAnswer → Bool
runs Runs = true
runs WasDone = false
runs Suspends = false
runs Refuses = false

abbrev pub suspends : FenceAnswer → Bool
suspends Runs = false
suspends WasDone = false
suspends Suspends = true
suspends Refuses = false

abbrev pub has_no_entry : Known → Leg → Bool
has_no_entry k leg = is_none (entry_at k.undo_log leg)

abbrev pub has_undo_record : Known → Leg → Bool
has_undo_record k leg = is_undo_record (entry_at k.undo_log leg)

-- a record may come
abbrev pub may_come : Known → ResourceRecord → Bool
may_come k (log.Boot number) = number == k.boots + 1
may_come k (log.Committed xid branch call images reads) = has_no_entry k (leg_of xid branch) && fit k.tables images reads
may_come k (log.Undone xid branch) = has_undo_record k (leg_of xid branch)
may_come k (log.Marked xid branch) = has_no_entry k (leg_of xid branch)
may_come k (log.Cleared xid branch) = has_undo_record k (leg_of xid branch)
may_come k (log.Tried xid branch call images) = runs (on_try (fence_at k.fences (leg_of xid branch))) && fit k.tables images []
may_come k (log.Confirmed xid branch images) = runs (on_confirm (fence_at k.fences (leg_of xid branch))) && fit k.tables images []
may_come k (log.Cancelled xid branch images) = runs (on_cancel (fence_at k.fences (leg_of xid branch))) && fit k.tables images []
may_come k (log.Suspended xid branch) = suspends (on_cancel (fence_at k.fences (leg_of xid branch)))
may_come k (log.LocalCommitted number images) = fit k.tables images []
may_come k (log.Outside number images) = fit k.tables images []

-- ---- what it does

-- the images of a branch's undo record
abbrev pub undo_images : Option UndoEntry → List Image
undo_images None = []
undo_images (Some (entry.Normal r)) = r.images
undo_images (Some entry.Finished) = []

-- a branch's undo record
abbrev pub undo_record : Leg → (call : ℕ) → List Image → List ReadRow → UndoEntry
undo_record leg call images reads = entry.Normal (record { leg = leg; call = call; images = images; reads = reads })

-- the images of one more record are put
abbrev pub with_rows : Known → List Image → Known
with_rows k images = record k { acts = k.acts + 1; tables = applied way.Do images k.tables }

-- and the branch has this fence
abbrev pub with_ran : Known → Leg → Fence → List Image → Known
with_ran k leg here images = record k {
  acts = k.acts + 1;
  tables = applied way.Do images k.tables;
  fences = with_fence leg.xid.0 leg.branch.0 here k.fences;
}

-- what is known after one more record
abbrev pub after : ResourceRecord → Known → Known
after (log.Boot number) k = record k { acts = k.acts + 1; boots = k.boots + 1 }
after (log.Committed xid branch call images reads) k = record k {
  acts = k.acts + 1;
  tables = applied way.Do images k.tables;
  undo_log = with_entry k.undo_log (leg_of xid branch) (undo_record (leg_of xid branch) call images reads);
}
after (log.Undone xid branch) k = record k {
  acts = k.acts + 1;
  tables = applied way.Undo (undo_images (entry_at k.undo_log (leg_of xid branch))) k.tables;
  undo_log = without_entry k.undo_log (leg_of xid branch);
}
after (log.Marked xid branch) k = record k { acts = k.acts + 1; undo_log = with_entry k.undo_log (leg_of xid branch) entry.Finished }
after (log.Cleared xid branch) k = record k { acts = k.acts + 1; undo_log = without_entry k.undo_log (leg_of xid branch) }
after (log.Tried xid branch call images) k = record k {
  acts = k.acts + 1;
  tables = applied way.Do images k.tables;
  fences = with_fence xid.0 branch.0 IsTried k.fences;
  calls = with_call k.calls (leg_of xid branch) call;
}
after (log.Confirmed xid branch images) k = with_ran k (leg_of xid branch) IsCommitted images
after (log.Cancelled xid branch images) k = with_ran k (leg_of xid branch) IsRollbacked images
after (log.Suspended xid branch) k = record k { acts = k.acts + 1; fences = with_fence xid.0 branch.0 IsSuspended k.fences }
after (log.LocalCommitted number images) k = with_rows k images
after (log.Outside number images) k = with_rows k images

-- ---- taking it in

-- a record that may be taken in: it may come, and there is room to count it
pub record MayTake (k : Known) (r : ResourceRecord) : Type 0 where
  pub allowed : may_come k r ≡ true
  pub room : k.acts + 1 < 2 ^ 32

-- after Ok what is known is that with the record, after an error it is as before
pub record TakesIn (r : ResourceRecord) (result : Result (Unit {0}) NoMemory) (old new : Known) : Type 0 where
  pub ok : OnOk result (new ≡ after r old)
  pub err : OnErr result (new ≡ old)
