use Rattle.std.proofs.Common.{◌≡◌, ◌++◌, drop, map, string_bytes}
use Rattle.history_text.specs.Report.{lines, holder_text}
use Rattle.report_text.specs.Sections.{holder_in}
use Rattle.report_text.proofs.sections.put_locks.Given as goal

abbrev pub invariant-loop-key : goal.invariant-loop-key
invariant-loop-key l =
    string_bytes l.out ++ lines (holder_text l.names) (map holder_in (drop l.key-index l.locks)) ≡ string_bytes l.initial.out ++ lines (holder_text l.names) (map holder_in l.locks)
