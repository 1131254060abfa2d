use Rattle.std.proofs.Common.{◌≡◌, ◌++◌}
use Rattle.undo_log.proofs.logs.UndoLog.entries.Given as goal

abbrev pub invariant-loop-leg : goal.invariant-loop-leg
invariant-loop-leg l = l.all.items ++ l.leg-iterator ≡ l.fn.self
