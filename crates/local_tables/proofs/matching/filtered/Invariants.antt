use Rattle.std.proofs.Common.{length}
use Rattle.local_tables.specs.Touches.{is_matched}
use Rattle.local_tables.specs.Lookups.{Passes}
use Rattle.local_tables.proofs.matching.filtered.Given as goal

abbrev pub invariant-loop-key : goal.invariant-loop-key
invariant-loop-key l = Passes (is_matched l.resource l.def l.cond) l.initial.left l.left l.found.entries

abbrev pub decreases-loop-key : goal.decreases-loop-key
decreases-loop-key l = length l.left
