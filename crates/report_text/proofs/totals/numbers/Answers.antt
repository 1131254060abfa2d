use Rattle.std.proofs.Common.{◌≡◌, ◌+◌, ◌∷◌, ◌++◌, ◌∙◌, drop, sym, ap, arith}
use Rattle.std.proofs.lemmas.Grind.{common_steps}
use Rattle.report_text.specs.Sections.{rows_in, rows_kept}
use Rattle.report_text.specs.Totals.{number_of, numbers_in}
use Rattle.report_text.proofs.TotalsLaws.{rest_added}
use Rattle.report_text.proofs.totals.numbers.Goals as goal

pub loop-resource-preserved : goal.loop-resource-preserved
loop-resource-preserved c =
    let rest = drop (c.loop-resource.resource-index + 1) c.args.resources.now in
    let left : drop c.loop-resource.resource-index c.args.resources.now ≡ c.resource-item.result ∷ rest = grind (arith, common_steps) in
    rest_added (number_of c.args.name.now c.args.column) (rows_in c.resource-item.result) (rows_kept rest) c.loop-resource.all.items c.add_resource.new.numbers.items _
    c.in_ok-add_resource.ensures (ap (λ rs. c.loop-resource.all.items ++ numbers_in c.args.name.now c.args.column (rows_kept rs)) (sym left) ∙ c.loop-resource.invariant)
