use Rattle.std.proofs.Common.{◌≡◌, ◌+◌, ◌++◌, drop}
use Rattle.history_text.specs.Worlds.{locals_at}
use Rattle.scenario_setups.proofs.setups.locals_of.Given as goal

abbrev pub invariant-loop-k : goal.invariant-loop-k
invariant-loop-k l = l.made.items ++ locals_at l.resource (l.k + 1) (drop l.k l.locals) ≡ locals_at l.resource 1 l.locals
