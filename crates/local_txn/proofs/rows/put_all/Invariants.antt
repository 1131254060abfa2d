use Rattle.std.proofs.Common.{◌≡◌, true, false, cond, drop, map, Some}
use Rattle.seata_types.specs.declared.rows.RowKey.{RowKey}
use Rattle.durable_records.specs.Locks.{has_key}
use Rattle.local_txn.specs.RowIndex.{at}
use Rattle.local_txn.proofs.rows.put_all.Given as goal

abbrev pub invariant-loop-item : goal.invariant-loop-item
invariant-loop-item g l = record {
  there : (q : RowKey) → cond (has_key (map g.R.OfRow.row_key (drop l.item-index l.items)) q) (Some l.ticket) (at l.rows.entries q)
      ≡ cond (has_key (map g.R.OfRow.row_key l.items) q) (Some l.ticket) (at l.initial.rows.entries q);
  others : (q : RowKey) → has_key (map g.R.OfRow.row_key l.items) q ≡ false → at l.rows.entries q ≡ at l.initial.rows.entries q;
  among : (q : RowKey) → has_key (map g.R.OfRow.row_key (drop l.item-index l.items)) q ≡ true → has_key (map g.R.OfRow.row_key l.items) q ≡ true;
}
