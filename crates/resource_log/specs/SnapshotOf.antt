-- The snapshot of a list of records, over the rows of the opening. Lists of records stand newest first, the lists of a
-- snapshot in rising order.
use Rattle.std.specs.Prelude.{ℕ, ◌==◌, ◌&&◌, if◌then◌else◌, List, [], ◌∷◌, length, map}
use Rattle.seata_types.specs.declared.ids.Leg.{Leg}
use Rattle.seata_types.specs.declared.rows.Row.{Row}
use Rattle.seata_types.specs.declared.rows.RowKey.{RowKey}
use Rattle.durable_records.specs.declared.resources.ResourceRecord.{ResourceRecord}
use Rattle.durable_records.specs.declared.resources.ResourceRecord.TheVariants as log
use Rattle.durable_records.specs.Fences.{Fence, IsTried, IsCommitted, IsRollbacked, IsSuspended, fences}
use Rattle.durable_records.specs.RowsKept.{tables}
use Rattle.durable_records.specs.UndoRecords.{boots}
use Rattle.local_tables.specs.Rows.{Database}
use Rattle.tcc_fence.specs.declared.statuses.FenceStatus.{FenceStatus}
use Rattle.tcc_fence.specs.declared.statuses.FenceStatus.TheVariants as status
use Rattle.undo_log.specs.Entries.{Log, with_entry, without_entry}
use Rattle.undo_log.specs.declared.records.UndoEntry.{UndoEntry}
use Rattle.undo_log.specs.declared.records.UndoEntry.TheVariants as entry
use Rattle.resource_log.specs.declared.states.FenceItem.{FenceItem}
use Rattle.resource_log.specs.declared.states.ResourceSnapshot.{ResourceSnapshot}
use Rattle.resource_log.specs.declared.states.UndoItem.{UndoItem}
use Rattle.resource_log.specs.declared.states.UndoItem.TheVariants as undo
use Rattle.resource_log.specs.Records.{leg_of}

-- a row behind its table's name
abbrev pub named_row : RowKey × Row → List ℕ × Row
named_row e = (e.0.table, e.1)

-- ---- the undo log

-- what the records leave in the undo log: a commit puts a record, an undo and a clearing take it out, a marker stays
abbrev pub undo_log_of : List ResourceRecord → Log
undo_log_of [] = []
undo_log_of (log.Committed xid branch call images reads ∷ rs) =
    with_entry (undo_log_of rs) (leg_of xid branch) (entry.Normal (record { leg = leg_of xid branch; call = call; images = images; reads = reads }))
undo_log_of (log.Undone xid branch ∷ rs) = without_entry (undo_log_of rs) (leg_of xid branch)
undo_log_of (log.Cleared xid branch ∷ rs) = without_entry (undo_log_of rs) (leg_of xid branch)
undo_log_of (log.Marked xid branch ∷ rs) = with_entry (undo_log_of rs) (leg_of xid branch) entry.Finished
undo_log_of (_ ∷ rs) = undo_log_of rs

abbrev pub item_for : Leg → UndoEntry → UndoItem
item_for leg (entry.Normal r) = undo.Normal r
item_for leg entry.Finished = undo.Finished leg

abbrev pub undo_item : Leg × UndoEntry → UndoItem
undo_item e = item_for e.0 e.1

-- ---- the fences

abbrev pub status_now : Fence → FenceStatus
status_now IsTried = status.Tried
status_now IsCommitted = status.Committed
status_now IsRollbacked = status.Rollbacked
status_now IsSuspended = status.Suspended

-- the call that branch b of x was tried for, 0 for none
abbrev pub call_tried : List ResourceRecord → (x b : ℕ) → ℕ
call_tried [] x b = 0
call_tried (log.Tried xid branch call images ∷ rs) x b = if (xid.0 == x) && (branch.0 == b) then call else call_tried rs x b
call_tried (_ ∷ rs) x b = call_tried rs x b

abbrev pub fence_now : List ResourceRecord → (ℕ × ℕ) × Fence → FenceItem
fence_now rs f = record {
  leg = record { xid = record { 0 = f.0.0 }; branch = record { 0 = f.0.1 } };
  status = status_now f.1;
  call = call_tried rs f.0.0 f.0.1;
}

-- ---- the whole

-- what these records say
abbrev pub snapshot_of : Database → List ResourceRecord → ResourceSnapshot
snapshot_of opening rs = record {
  acts = length rs;
  boots = boots rs;
  rows = map named_row (tables opening rs).rows;
  undos = map undo_item (undo_log_of rs);
  fences = map (fence_now rs) (fences rs);
}
