use Rattle.scenario_nodes.specs.Nodes.{IsNewManager}
use Rattle.thread_runner.proofs.Managers.{AreMade}
use Rattle.thread_runner.proofs.openings.new_managers.Given as goal

-- the first managers were made
abbrev pub invariant-loop-k : goal.invariant-loop-k
invariant-loop-k l = AreMade (IsNewManager l.scenario) l.scenario.managers l.made.items l.k
