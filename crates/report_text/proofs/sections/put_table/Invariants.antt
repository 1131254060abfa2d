use Rattle.std.proofs.Common.{◌≡◌, ◌++◌, drop, string_bytes}
use Rattle.std.specs.Prelude.{filter}
use Rattle.local_tables.specs.Rows.{is_in}
use Rattle.history_text.specs.Report.{lines, table_row_text}
use Rattle.report_text.proofs.sections.put_table.Given as goal

abbrev pub invariant-loop-key : goal.invariant-loop-key
invariant-loop-key l =
    string_bytes l.out ++ lines (table_row_text l.names) (filter (λ e. is_in l.resource l.def e.0) (drop l.key-index l.rows)) ≡ string_bytes l.initial.out ++ lines (table_row_text l.names) (filter (λ e. is_in l.resource l.def e.0) l.rows)
