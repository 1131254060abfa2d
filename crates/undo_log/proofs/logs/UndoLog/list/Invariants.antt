use Rattle.std.proofs.Common.{◌≡◌, ◌++◌}
use Rattle.undo_log.specs.Entries.{records}
use Rattle.undo_log.proofs.logs.UndoLog.list.Given as goal

abbrev pub invariant-loop-leg : goal.invariant-loop-leg
invariant-loop-leg l = l.all.items ++ records l._leg-iterator ≡ records l.fn.self
