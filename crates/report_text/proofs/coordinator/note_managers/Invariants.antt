use Rattle.std.proofs.Common.{◌≡◌, drop}
use Rattle.report_text.specs.Keeping.{managers_among}
use Rattle.report_text.proofs.coordinator.note_managers.Given as goal

abbrev pub invariant-loop-entry : goal.invariant-loop-entry
invariant-loop-entry l = managers_among (drop l.entry-index l.sessions) l.managers ≡ managers_among l.sessions l.initial.managers
