use Rattle.std.proofs.Common.{◌≡◌, drop, map}
use Rattle.local_txn.specs.RowIndex.{first_at}
use Rattle.local_txn.proofs.rows.first_busy.Given as goal

abbrev pub invariant-loop-item : goal.invariant-loop-item
invariant-loop-item g l = first_at l.rows.entries (map g.R.OfRow.row_key (drop l.item-index l.items)) ≡ first_at l.rows.entries (map g.R.OfRow.row_key l.items)
