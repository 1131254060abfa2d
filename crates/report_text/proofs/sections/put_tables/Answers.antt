use Rattle.std.proofs.Common.{◌≡◌, ◌+◌, ◌∷◌, ◌++◌, ◌∙◌, drop, string_bytes, sym, ap, arith}
use Rattle.std.specs.Prelude.{filter}
use Rattle.std.proofs.lemmas.Grind.{common_steps}
use Rattle.local_tables.specs.Rows.{is_in}
use Rattle.history_text.specs.Report.{lines, table_row_text}
use Rattle.report_text.specs.Sections.{rows_of_tables}
use Rattle.report_text.proofs.PrintedLaws.{rest_left}
use Rattle.report_text.proofs.sections.put_tables.Goals as goal

pub loop-def-preserved : goal.loop-def-preserved
loop-def-preserved c =
    let text = table_row_text c.args.names.now in
    let rows = rows_of_tables c.args.resource c.args.rows.now in
    let rest = drop (c.loop-def.def-index + 1) c.args.defs.now in
    let left : drop c.loop-def.def-index c.args.defs.now ≡ c.def-item.result ∷ rest = grind (arith, common_steps) in
    rest_left text (filter (λ e. is_in c.args.resource c.def-item.result e.0) c.args.rows.now) (rows rest) (string_bytes c.loop-def.out) (string_bytes c.put_table.new.out) _
    c.in_ok-put_table.ensures (ap (λ ds. string_bytes c.loop-def.out ++ lines text (rows ds)) (sym left) ∙ c.loop-def.invariant)
