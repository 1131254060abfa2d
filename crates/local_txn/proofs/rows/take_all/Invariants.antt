use Rattle.std.proofs.Common.{◌≡◌, cond, drop, map, None}
use Rattle.seata_types.specs.declared.rows.RowKey.{RowKey}
use Rattle.durable_records.specs.Locks.{has_key}
use Rattle.local_txn.specs.RowIndex.{at}
use Rattle.local_txn.proofs.rows.take_all.Given as goal

abbrev pub invariant-loop-item : goal.invariant-loop-item
invariant-loop-item g l = (q : RowKey) → cond (has_key (map g.R.OfRow.row_key (drop l.item-index l.items)) q) None (at l.rows.entries q)
    ≡ cond (has_key (map g.R.OfRow.row_key l.items) q) None (at l.initial.rows.entries q)
