-- The snapshot of what a resource knows, and what is known by a snapshot.
use Rattle.std.specs.Prelude.{ℕ, ◌==◌, if◌then◌else◌, List, [], ◌∷◌, map}
use Rattle.seata_types.specs.declared.ids.Leg.{Leg}
use Rattle.local_tables.specs.Rows.{opened}
use Rattle.local_tables.specs.declared.schemas.Schema.{Schema}
use Rattle.durable_records.specs.Fences.{Fence}
use Rattle.undo_log.specs.declared.records.UndoEntry.{UndoEntry}
use Rattle.undo_log.specs.declared.records.UndoEntry.TheVariants as entry
use Rattle.tcc_fence.specs.Meanings.{pair_of, status_of}
use Rattle.resource_log.specs.SnapshotOf.{named_row, undo_item, status_now}
use Rattle.resource_log.specs.declared.states.FenceItem.{FenceItem}
use Rattle.resource_log.specs.declared.states.ResourceSnapshot.{ResourceSnapshot}
use Rattle.resource_log.specs.declared.states.UndoItem.{UndoItem}
use Rattle.resource_log.specs.declared.states.UndoItem.TheVariants as undo
use Rattle.resource_memory.specs.Known.{Known, Calls}
use Rattle.resource_memory.specs.Lookups.{call_at}

-- ---- what is written

-- a fence with the call that its branch was tried for
abbrev pub fence_item : Calls → (ℕ × ℕ) × Fence → FenceItem
fence_item calls f = record {
  leg = record { xid = record { 0 = f.0.0 }; branch = record { 0 = f.0.1 } };
  status = status_now f.1;
  call = call_at calls (record { xid = record { 0 = f.0.0 }; branch = record { 0 = f.0.1 } });
}

abbrev pub snapshot_in : Known → ResourceSnapshot
snapshot_in k = record {
  acts = k.acts;
  boots = k.boots;
  rows = map named_row k.tables.rows;
  undos = map undo_item k.undo_log;
  fences = map (fence_item k.calls) k.fences;
}

-- ---- what is read

abbrev pub undo_entry : UndoItem → Leg × UndoEntry
undo_entry (undo.Normal r) = (r.leg, entry.Normal r)
undo_entry (undo.Finished leg) = (leg, entry.Finished)

abbrev pub fence_entry : FenceItem → (ℕ × ℕ) × Fence
fence_entry f = (pair_of f.leg, status_of f.status)

-- of each branch that was tried its call
abbrev pub calls_in : List FenceItem → Calls
calls_in [] = []
calls_in (f ∷ fs) = if f.call == 0 then calls_in fs else ((f.leg, f.call) ∷ calls_in fs)

abbrev pub known_in : ℕ → Schema → ResourceSnapshot → Known
known_in resource schema s = record {
  acts = s.acts;
  boots = s.boots;
  tables = opened resource schema s.rows;
  undo_log = map undo_entry s.undos;
  fences = map fence_entry s.fences;
  calls = calls_in s.fences;
}
