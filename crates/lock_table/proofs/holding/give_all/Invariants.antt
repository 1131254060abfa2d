use Rattle.std.proofs.Common.{◌≡◌, length}
use Rattle.lock_table.specs.Locks.{without_xid}
use Rattle.lock_table.specs.Counts.{IsIndex}
use Rattle.lock_table.proofs.holding.give_all.Given as goal

abbrev pub invariant-loop-leg : goal.invariant-loop-leg
invariant-loop-leg l = record {
  index : IsIndex l.rows.items l.legs.entries;
  left : without_xid l.legs.entries l.xid ≡ without_xid l.initial.legs.entries l.xid;
}

abbrev pub decreases-loop-leg : goal.decreases-loop-leg
decreases-loop-leg l = length l.legs.entries
