use Rattle.std.proofs.Common.{◌++◌, ◌∙◌, string_bytes, ap}
use Rattle.report_text.specs.Folds.{FoldedKept}
use Rattle.report_text.specs.Sections.{text_kept}
use Rattle.report_text.proofs.PrintedLaws.{text_printed}
use Rattle.report_text.proofs.reports.put_report.Goals as goal

pub returns : goal.returns
returns c =
    let names = c.args.names.now in
    let es = c.args.history.now in
    let out = string_bytes c.args.out.now in
    let f = c.args.folded.now in
    text_printed names f.coordinator f.resources es c.as_str.result.now out (string_bytes c.put_entries.new.out) (string_bytes c.put_state.new.out) (string_bytes c.put.new.out)
    (string_bytes c.put-2.new.out) c.in_ok-put_entries.ensures c.in_ok-put_state.ensures c.in_ok-put.ensures c.in_ok-put-2.ensures
    ∙ ap (λ reads. out ++ text_kept names es f.coordinator f.resources reads) c.as_str.ensures.value
    ∙ ap (λ (g : FoldedKept). out ++ text_kept names es f.coordinator f.resources g.reads) c.folded.view_is
