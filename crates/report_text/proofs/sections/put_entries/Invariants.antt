use Rattle.std.proofs.Common.{◌≡◌, ◌++◌, drop, string_bytes}
use Rattle.history_text.specs.Lines.{entry_text}
use Rattle.history_text.specs.Report.{lines}
use Rattle.report_text.proofs.sections.put_entries.Given as goal

abbrev pub invariant-loop-entry : goal.invariant-loop-entry
invariant-loop-entry l =
    string_bytes l.out ++ lines (entry_text l.names) (drop l.entry-index l.entries) ≡ string_bytes l.initial.out ++ lines (entry_text l.names) l.entries
