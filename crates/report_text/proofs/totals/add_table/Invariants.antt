use Rattle.std.proofs.Common.{◌≡◌, ◌++◌, drop}
use Rattle.std.specs.Prelude.{filter}
use Rattle.local_tables.specs.Rows.{is_in}
use Rattle.report_text.specs.Totals.{numbers_in}
use Rattle.report_text.proofs.totals.add_table.Given as goal

abbrev pub invariant-loop-key : goal.invariant-loop-key
invariant-loop-key l =
    l.numbers.items ++ numbers_in l.name l.column (filter (λ e. is_in l.resource l.def e.0) (drop l.key-index l.rows))
    ≡ l.initial.numbers.items ++ numbers_in l.name l.column (filter (λ e. is_in l.resource l.def e.0) l.rows)
