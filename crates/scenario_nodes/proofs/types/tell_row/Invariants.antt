use Rattle.scenario_nodes.specs.Calls.{HasType}
use Rattle.scenario_nodes.proofs.Passes.{AllBefore}
use Rattle.scenario_nodes.proofs.types.tell_row.Given as goal

abbrev pub invariant-loop-value : goal.invariant-loop-value
invariant-loop-value l = AllBefore HasType l.values l.value-index
