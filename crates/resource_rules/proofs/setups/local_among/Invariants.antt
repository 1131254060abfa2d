use Rattle.std.proofs.Common.{◌≡◌, drop}
use Rattle.history_rules.specs.ResourceMemory.{local_in}
use Rattle.resource_rules.proofs.setups.local_among.Given as goal

abbrev pub invariant-loop-at : goal.invariant-loop-at
invariant-loop-at l = local_in l.number (drop l.at-index l.locals) ≡ local_in l.number l.locals
