use Rattle.std.proofs.Common.{take}
use Rattle.report_text.specs.Following.{FollowsAll}
use Rattle.report_text.proofs.left.Folded.of_history.Given as goal

abbrev pub invariant-loop-k : goal.invariant-loop-k
invariant-loop-k l = FollowsAll l.scenario l.fn.before (take l.k l.history) l.folded
