use Rattle.std.proofs.Common.{◌≡◌, ◌+◌, drop}
use Rattle.history_rules.specs.ResourceRules.{untouched}
use Rattle.resource_rules.proofs.meanings.untouched.Given as goal

abbrev pub invariant-loop-at : goal.invariant-loop-at
invariant-loop-at l = untouched (l.at + 1) (drop l.at l.touched) ≡ untouched 1 l.touched
