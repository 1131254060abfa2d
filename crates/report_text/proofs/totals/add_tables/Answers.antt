use Rattle.std.proofs.Common.{◌≡◌, ◌+◌, ◌∷◌, ◌++◌, ◌∙◌, drop, sym, ap, arith}
use Rattle.std.specs.Prelude.{filter}
use Rattle.std.proofs.lemmas.Grind.{common_steps}
use Rattle.local_tables.specs.Rows.{is_in}
use Rattle.report_text.specs.Sections.{rows_of_tables}
use Rattle.report_text.specs.Totals.{number_of, numbers_in}
use Rattle.report_text.proofs.TotalsLaws.{rest_added}
use Rattle.report_text.proofs.totals.add_tables.Goals as goal

pub loop-def-preserved : goal.loop-def-preserved
loop-def-preserved c =
    let rows = rows_of_tables c.args.resource c.args.rows.now in
    let rest = drop (c.loop-def.def-index + 1) c.args.defs.now in
    let left : drop c.loop-def.def-index c.args.defs.now ≡ c.def-item.result ∷ rest = grind (arith, common_steps) in
    rest_added (number_of c.args.name.now c.args.column) (filter (λ e. is_in c.args.resource c.def-item.result e.0) c.args.rows.now) (rows rest) c.loop-def.numbers.items
    c.add_table.new.numbers.items _ c.in_ok-add_table.ensures
    (ap (λ ds. c.loop-def.numbers.items ++ numbers_in c.args.name.now c.args.column (rows ds)) (sym left) ∙ c.loop-def.invariant)
