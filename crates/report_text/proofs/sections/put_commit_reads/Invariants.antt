use Rattle.std.proofs.Common.{◌≡◌, ◌++◌, drop, map, string_bytes}
use Rattle.history_rules.specs.Reports.{read_line}
use Rattle.history_text.specs.Report.{lines, read_text}
use Rattle.report_text.proofs.sections.put_commit_reads.Given as goal

abbrev pub invariant-loop-read : goal.invariant-loop-read
invariant-loop-read l =
    string_bytes l.out ++ lines (read_text l.names) (map (read_line l.xid.0 l.branch.0) (drop l.read-index l.reads)) ≡ string_bytes l.initial.out ++ lines (read_text l.names) (map (read_line l.xid.0 l.branch.0) l.reads)
