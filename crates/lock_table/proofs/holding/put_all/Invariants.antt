use Rattle.std.proofs.Common.{◌≡◌, ◌==◌, ℕ, ◌+◌, ◌*◌, ◌^◌, ◌<◌, ◌≤◌, length, cond}
use Rattle.std.specs.Vec.{vec_len, vec_capacity}
use Rattle.std.specs.Vec.Iter.{into_iter_items}
use Rattle.seata_types.specs.declared.ids.Xid.{Xid}
use Rattle.seata_types.specs.declared.rows.RowKey.{RowKey}
use Rattle.local_tables.specs.Lookups.{IsRising}
use Rattle.lock_table.specs.Counts.{count_key, times_at, AreFree}
use Rattle.lock_table.proofs.holding.put_all.Given as goal

abbrev pub invariant-loop-key : goal.invariant-loop-key
invariant-loop-key g l = record {
  order : IsRising l.rows.items;
  room : vec_len l.rows + length (into_iter_items l.key-iterator) ≤ vec_capacity l.rows;
  free : AreFree l.rows.items l.xid (into_iter_items l.key-iterator);
  there : (x : Xid) (q : RowKey) → times_at l.rows.items x q + cond (l.xid.0 == x.0) (count_key (into_iter_items l.key-iterator) q) 0 ≡ times_at l.initial.rows.items x q + cond (l.xid.0 == x.0) (count_key l.fn.keys.items q) 0;
  size : length l.rows.items + length (into_iter_items l.key-iterator) ≤ length l.initial.rows.items + length l.fn.keys.items;
  cost : (d : ℕ) → length l.initial.rows.items + length l.fn.keys.items < 2 ^ d → g.C.Count.count l.steps + length (into_iter_items l.key-iterator) * d ≤ g.C.Count.count l.initial.steps + length l.fn.keys.items * d;
}
