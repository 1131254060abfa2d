use Rattle.std.proofs.Common.{◌≡◌, drop}
use Rattle.coordinator_rules.specs.Starting.{started_on, no_moments}
use Rattle.coordinator_rules.proofs.starting.started_on.Given as goal

abbrev pub invariant-loop-entry : goal.invariant-loop-entry
invariant-loop-entry l = started_on l.now (drop l.entry-index l.sessions) l.moments ≡ started_on l.now l.sessions no_moments
