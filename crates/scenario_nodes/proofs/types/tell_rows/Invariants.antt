use Rattle.scenario_nodes.specs.Calls.{HasTypes}
use Rattle.scenario_nodes.proofs.Passes.{AllBefore}
use Rattle.scenario_nodes.proofs.types.tell_rows.Given as goal

abbrev pub invariant-loop-row : goal.invariant-loop-row
invariant-loop-row l = AllBefore HasTypes l.opening l.row-index
