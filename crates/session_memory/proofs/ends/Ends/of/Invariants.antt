use Rattle.session_memory.specs.Ends.{AreSpans}
use Rattle.session_memory.proofs.ends.Ends.of.Given as goal

abbrev pub invariant-loop-entry : goal.invariant-loop-entry
invariant-loop-entry l = AreSpans l.ends l.sessions
