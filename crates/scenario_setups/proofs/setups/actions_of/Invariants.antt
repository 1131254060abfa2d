use Rattle.std.proofs.Common.{◌≡◌, ◌+◌, ◌++◌, drop}
use Rattle.history_text.specs.Worlds.{actions_at}
use Rattle.resource_rules.specs.Setups.{actions_of}
use Rattle.scenario_setups.proofs.setups.actions_of.Given as goal

abbrev pub invariant-loop-k : goal.invariant-loop-k
invariant-loop-k l = actions_of l.made.items ++ actions_at l.resource (l.k + 1) (drop l.k l.managers) ≡ actions_at l.resource 1 l.managers
