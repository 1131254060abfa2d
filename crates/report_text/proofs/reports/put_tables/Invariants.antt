use Rattle.std.proofs.Common.{◌≡◌, ◌++◌, drop, string_bytes}
use Rattle.history_text.specs.Report.{lines, table_row_text}
use Rattle.report_text.specs.Sections.{rows_kept}
use Rattle.report_text.proofs.reports.put_tables.Given as goal

abbrev pub invariant-loop-resource : goal.invariant-loop-resource
invariant-loop-resource l =
    string_bytes l.out ++ lines (table_row_text l.names) (rows_kept (drop l.resource-index l.resources))
    ≡ string_bytes l.initial.out ++ lines (table_row_text l.names) (rows_kept l.resources)
