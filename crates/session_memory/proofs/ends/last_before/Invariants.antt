use Rattle.std.proofs.Common.{◌≤◌, drop, length}
use Rattle.session_memory.specs.Ends.{IsEnded}
use Rattle.session_memory.specs.Order.{Each}
use Rattle.session_memory.proofs.ends.last_before.Given as goal

abbrev pub invariant-loop-at : goal.invariant-loop-at
invariant-loop-at l = record { within : l.at ≤ length l.branches; ended : Each IsEnded (drop l.at l.branches) }

abbrev pub decreases-loop-at : goal.decreases-loop-at
decreases-loop-at l = l.at
