use Rattle.std.proofs.Common.{◌≡◌, drop}
use Rattle.report_text.specs.Keeping.{calls_among}
use Rattle.report_text.proofs.coordinator.note_calls.Given as goal

abbrev pub invariant-loop-entry : goal.invariant-loop-entry
invariant-loop-entry l = calls_among (drop l.entry-index l.sessions) l.calls ≡ calls_among l.sessions l.initial.calls
