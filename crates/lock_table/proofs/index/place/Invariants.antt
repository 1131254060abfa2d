use Rattle.std.proofs.Common.{◌-◌}
use Rattle.lock_table.proofs.Searching.{Searching}
use Rattle.lock_table.proofs.index.place.Given as goal

abbrev pub invariant-loop-low : goal.invariant-loop-low
invariant-loop-low g l = Searching l.rows l.key l.low l.high (g.C.Count.count l.initial.steps) (g.C.Count.count l.steps)

abbrev pub decreases-loop-low : goal.decreases-loop-low
decreases-loop-low g l = l.high - l.low
