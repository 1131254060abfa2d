use Rattle.std.proofs.Common.{◌≡◌, [], ◌++◌, ◌∙◌, string_bytes, ap, subst}
use Rattle.report_text.specs.Folds.{FoldedKept}
use Rattle.report_text.specs.Sections.{state_kept}
use Rattle.report_text.proofs.PrintedLaws.{state_printed}
use Rattle.report_text.proofs.reports.put_state.Goals as goal

pub returns : goal.returns
returns c =
    let names = c.args.names.now in
    let out = string_bytes c.args.out.now in
    let whole = string_bytes c.put_fences.new.out in
    let k = c.folded.inside.coordinator in
    subst (λ (f : FoldedKept). whole ≡ out ++ state_kept names f.coordinator f.resources []) c.folded.view_is
    (state_printed names k c.as_slice-resources.result.now out (string_bytes c.put_sessions.new.out) (string_bytes c.put_locks.new.out) (string_bytes c.put_tables.new.out) whole
    c.in_ok-put_sessions.ensures c.in_ok-put_locks.ensures c.in_ok-put_tables.ensures c.in_ok-put_fences.ensures
    ∙ ap (λ ks. out ++ state_kept names k ks []) c.as_slice-resources.ensures.value)
