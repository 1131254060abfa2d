use Rattle.std.proofs.Common.{◌≡◌, ◌+◌, ◌∷◌, ◌++◌, ◌∙◌, drop, string_bytes, sym, ap, arith}
use Rattle.std.proofs.lemmas.Grind.{common_steps}
use Rattle.history_text.specs.Report.{lines, fence_text}
use Rattle.report_text.specs.Sections.{fences_in, fences_kept}
use Rattle.report_text.proofs.PrintedLaws.{rest_left}
use Rattle.report_text.proofs.reports.put_fences.Goals as goal

pub loop-resource-preserved : goal.loop-resource-preserved
loop-resource-preserved c =
    let text = fence_text c.args.names.now in
    let rest = drop (c.loop-resource.resource-index + 1) c.args.resources.now in
    let left : drop c.loop-resource.resource-index c.args.resources.now ≡ c.resource-item.result ∷ rest = grind (arith, common_steps) in
    rest_left text (fences_in c.resource-item.result) (fences_kept rest) (string_bytes c.loop-resource.out) (string_bytes c.put_resource_fences.new.out) _ c.in_ok-put_resource_fences.ensures
    (ap (λ rs. string_bytes c.loop-resource.out ++ lines text (fences_kept rs)) (sym left) ∙ c.loop-resource.invariant)
