use Rattle.std.proofs.Common.{◌≡◌, ◌++◌, drop, map, string_bytes}
use Rattle.history_text.specs.Report.{lines, session_text}
use Rattle.report_text.specs.Sections.{line_in}
use Rattle.report_text.proofs.sections.put_sessions.Given as goal

abbrev pub invariant-loop-session : goal.invariant-loop-session
invariant-loop-session l =
    string_bytes l.out ++ lines (session_text l.names) (map line_in (drop l.session-index l.sessions)) ≡ string_bytes l.initial.out ++ lines (session_text l.names) (map line_in l.sessions)
