use Rattle.std.proofs.Common.{◌≡◌, ◌==◌, ◌+◌, cond, drop}
use Rattle.seata_types.specs.declared.ids.Xid.{Xid}
use Rattle.seata_types.specs.declared.rows.RowKey.{RowKey}
use Rattle.local_tables.specs.Lookups.{IsRising}
use Rattle.lock_table.specs.Counts.{count_key, times, times_at}
use Rattle.lock_table.proofs.holding.give_leg.Given as goal

abbrev pub invariant-loop-key : goal.invariant-loop-key
invariant-loop-key l = record {
  order : IsRising l.rows.items;
  there : (x : Xid) (q : RowKey) → times_at l.rows.items x q ≡ times l.legs.entries x q + cond (l.fn.leg.xid.0 == x.0) (count_key (drop l.key-index l.key-items) q) 0;
}
