use Rattle.history_tests.specs.Served.{Serves}
use Rattle.history_tests.proofs.coordinator.answers_each.Given as goal

abbrev pub invariant-loop-now : goal.invariant-loop-now
invariant-loop-now l = Serves l.tc
