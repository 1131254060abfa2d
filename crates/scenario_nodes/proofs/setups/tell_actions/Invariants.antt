use Rattle.scenario_nodes.specs.Calls.{HasFramableAction}
use Rattle.scenario_nodes.proofs.Passes.{AllBefore}
use Rattle.scenario_nodes.proofs.setups.tell_actions.Given as goal

abbrev pub invariant-loop-action : goal.invariant-loop-action
invariant-loop-action l = AllBefore HasFramableAction l.actions l.action-index
