use Rattle.std.proofs.Common.{◌≡◌, drop}
use Rattle.std.specs.Prelude.{find}
use Rattle.coordinator_rules.specs.Choices.{is_late_entry}
use Rattle.coordinator_rules.proofs.choosing.least_late.Given as goal

abbrev pub invariant-loop-entry : goal.invariant-loop-entry
invariant-loop-entry l = find (is_late_entry l.now) (drop l.entry-index l.sessions) ≡ find (is_late_entry l.now) l.sessions
