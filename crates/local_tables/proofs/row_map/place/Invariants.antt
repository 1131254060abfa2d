use Rattle.std.proofs.Common.{◌-◌}
use Rattle.local_tables.proofs.Searching.{Searching}
use Rattle.local_tables.proofs.row_map.place.Given as goal

abbrev pub invariant-loop-low : goal.invariant-loop-low
invariant-loop-low g l = Searching l.entries l.key l.low l.high

abbrev pub decreases-loop-low : goal.decreases-loop-low
decreases-loop-low g l = l.high - l.low
