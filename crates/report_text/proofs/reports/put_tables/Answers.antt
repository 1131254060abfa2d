use Rattle.std.proofs.Common.{◌≡◌, ◌+◌, ◌∷◌, ◌++◌, ◌∙◌, drop, string_bytes, sym, ap, arith}
use Rattle.std.proofs.lemmas.Grind.{common_steps}
use Rattle.history_text.specs.Report.{lines, table_row_text}
use Rattle.report_text.specs.Sections.{rows_in, rows_kept}
use Rattle.report_text.proofs.PrintedLaws.{rest_left}
use Rattle.report_text.proofs.reports.put_tables.Goals as goal

pub loop-resource-preserved : goal.loop-resource-preserved
loop-resource-preserved c =
    let text = table_row_text c.args.names.now in
    let rest = drop (c.loop-resource.resource-index + 1) c.args.resources.now in
    let left : drop c.loop-resource.resource-index c.args.resources.now ≡ c.resource-item.result ∷ rest = grind (arith, common_steps) in
    rest_left text (rows_in c.resource-item.result) (rows_kept rest) (string_bytes c.loop-resource.out) (string_bytes c.put_rows.new.out) _ c.in_ok-put_rows.ensures
    (ap (λ rs. string_bytes c.loop-resource.out ++ lines text (rows_kept rs)) (sym left) ∙ c.loop-resource.invariant)
