use Rattle.std.proofs.Common.{◌≡◌, ◌++◌, drop}
use Rattle.report_text.specs.Sections.{rows_of_tables}
use Rattle.report_text.specs.Totals.{numbers_in}
use Rattle.report_text.proofs.totals.add_tables.Given as goal

abbrev pub invariant-loop-def : goal.invariant-loop-def
invariant-loop-def l =
    l.numbers.items ++ numbers_in l.name l.column (rows_of_tables l.resource l.rows (drop l.def-index l.defs))
    ≡ l.initial.numbers.items ++ numbers_in l.name l.column (rows_of_tables l.resource l.rows l.defs)
