use Rattle.std.proofs.Common.{◌-◌, length, take}
use Rattle.session_memory.specs.Ends.{IsEnded}
use Rattle.session_memory.specs.Order.{Each}
use Rattle.session_memory.proofs.ends.first_from.Given as goal

abbrev pub invariant-loop-at : goal.invariant-loop-at
invariant-loop-at l = Each IsEnded (take l.at l.branches)

abbrev pub decreases-loop-at : goal.decreases-loop-at
decreases-loop-at l = length l.branches - l.at
