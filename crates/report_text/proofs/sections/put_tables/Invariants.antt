use Rattle.std.proofs.Common.{◌≡◌, ◌++◌, drop, string_bytes}
use Rattle.history_text.specs.Report.{lines, table_row_text}
use Rattle.report_text.specs.Sections.{rows_of_tables}
use Rattle.report_text.proofs.sections.put_tables.Given as goal

abbrev pub invariant-loop-def : goal.invariant-loop-def
invariant-loop-def l =
    string_bytes l.out ++ lines (table_row_text l.names) (rows_of_tables l.resource l.rows (drop l.def-index l.defs)) ≡ string_bytes l.initial.out ++ lines (table_row_text l.names) (rows_of_tables l.resource l.rows l.defs)
