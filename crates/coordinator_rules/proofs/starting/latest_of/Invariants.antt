use Rattle.std.proofs.Common.{◌≡◌, max, drop}
use Rattle.coordinator_rules.specs.Starting.{latest_of}
use Rattle.coordinator_rules.proofs.starting.latest_of.Given as goal

abbrev pub invariant-loop-entry : goal.invariant-loop-entry
invariant-loop-entry l = max l.latest (latest_of (drop l.entry-index l.sessions)) ≡ latest_of l.sessions
