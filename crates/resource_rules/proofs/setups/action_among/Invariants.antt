use Rattle.std.proofs.Common.{◌≡◌, drop}
use Rattle.history_rules.specs.ResourceMemory.{action_in}
use Rattle.resource_rules.specs.Setups.{actions_of}
use Rattle.resource_rules.proofs.setups.action_among.Given as goal

abbrev pub invariant-loop-of : goal.invariant-loop-of
invariant-loop-of l = action_in l.manager l.call (actions_of (drop l.of-index l.actions)) ≡ action_in l.manager l.call (actions_of l.actions)
