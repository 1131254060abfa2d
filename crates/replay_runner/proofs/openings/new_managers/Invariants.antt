use Rattle.scenario_nodes.specs.Nodes.{IsNewManager}
use Rattle.replay_runner.proofs.NewNodes.{AreMade}
use Rattle.replay_runner.proofs.openings.new_managers.Given as goal

-- the first managers were made
abbrev pub invariant-loop-k : goal.invariant-loop-k
invariant-loop-k g l = AreMade (IsNewManager l.scenario) l.scenario.managers l.made.items l.k
