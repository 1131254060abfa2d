use Rattle.std.proofs.Common.{◌≡◌, ◌++◌, drop}
use Rattle.report_text.specs.Sections.{rows_kept}
use Rattle.report_text.specs.Totals.{numbers_in}
use Rattle.report_text.proofs.totals.numbers.Given as goal

abbrev pub invariant-loop-resource : goal.invariant-loop-resource
invariant-loop-resource l =
    l.all.items ++ numbers_in l.name l.column (rows_kept (drop l.resource-index l.resources)) ≡ numbers_in l.name l.column (rows_kept l.resources)
