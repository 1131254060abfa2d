use Rattle.scenario_nodes.specs.Calls.{IsFramableCall}
use Rattle.scenario_nodes.proofs.Passes.{AllBefore}
use Rattle.scenario_nodes.proofs.types.tell_calls.Given as goal

abbrev pub invariant-loop-work : goal.invariant-loop-work
invariant-loop-work l = AllBefore IsFramableCall l.calls l.work-index
