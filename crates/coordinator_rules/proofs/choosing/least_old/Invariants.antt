use Rattle.std.proofs.Common.{◌≡◌, drop}
use Rattle.std.specs.Prelude.{find}
use Rattle.coordinator_rules.specs.Choices.{is_old_entry}
use Rattle.coordinator_rules.proofs.choosing.least_old.Given as goal

abbrev pub invariant-loop-entry : goal.invariant-loop-entry
invariant-loop-entry l =
    find (is_old_entry l.rests l.forget l.now) (drop l.entry-index l.sessions) ≡ find (is_old_entry l.rests l.forget l.now) l.sessions
