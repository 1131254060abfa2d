use Rattle.std.proofs.Common.{◌≡◌}
use Rattle.undo_log.specs.Entries.{record_of_call}
use Rattle.undo_log.proofs.logs.UndoLog.find_call.Given as goal

abbrev pub invariant-loop-leg : goal.invariant-loop-leg
invariant-loop-leg l = record_of_call l.xid.0 l.call l.leg-iterator ≡ record_of_call l.xid.0 l.call l.fn.self
