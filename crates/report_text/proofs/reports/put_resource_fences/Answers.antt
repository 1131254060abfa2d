use Rattle.std.proofs.Common.{rules, ◌≡◌, ◌++◌, ◌∙◌, map, string_bytes, ap}
use Rattle.tcc_fence.specs.Meanings.{entry_of, fences_of}
use Rattle.history_text.specs.Report.{lines, fence_text}
use Rattle.report_text.specs.Sections.{fences_in}
use Rattle.report_text.proofs.PrintedLaws.{Numbered, fences_numbered}
use Rattle.report_text.proofs.reports.put_resource_fences.Goals as goal

pub returns-in-Ok : goal.returns-in-Ok
returns-in-Ok c =
    let k = c.args.resource.now in
    let number : c.resource-number.result ≡ k.known.tables.resource = search rules in
    let all : fences_of c.in_ok-fences.fences ≡ k.known.fences = search rules in
    let given : c.as_slice.result.now ≡ c.in_ok-fences.fences = search rules in
    let fences : map {B = Numbered} (λ f. (c.resource-number.result, entry_of f)) c.as_slice.result.now ≡ fences_in k =
    ap (map {B = Numbered} (λ f. (c.resource-number.result, entry_of f))) given ∙ fences_numbered c.resource-number.result c.in_ok-fences.fences
    ∙ ap (map {B = Numbered} (λ f. (c.resource-number.result, f))) all ∙ ap (λ n. map {B = Numbered} (λ f. (n, f)) k.known.fences) number in
    c.in-Ok.ensures ∙ ap (λ fs. string_bytes c.args.out.now ++ lines (fence_text c.args.names.now) fs) fences
