-- What is kept of the first entries of a history, one after the other.
use Rattle.std.proofs.Common.{◌≡◌, ◌+◌, ℕ, suc, List, [], ◌∷◌, ◌++◌, length, take, slice_get, Some, sym, ap, ◌∙◌, subst, arith}
use Rattle.std.proofs.lemmas.List.{take_all}
use Rattle.scenario_form.specs.declared.scenarios.Scenario.{Scenario}
use Rattle.history_rules.specs.Nodes.{Past}
use Rattle.history_text.specs.declared.entries.Entry.{Entry}
use Rattle.history_text.specs.declared.entries.Names.{Names}
use Rattle.history_text.specs.Report.{names_of}
use Rattle.report_text.specs.declared.before.Before.{Before}
use Rattle.report_text.specs.Folds.{FoldedKept, entry_step}
use Rattle.report_text.specs.Following.{FollowsAll, IsRead, Reports}
use Rattle.report_text.specs.Sections.{text_kept}
use Rattle.report_text.proofs.Lists.{take_snoc}
use Rattle.report_text.proofs.RecordLaws.{has_room, records_may}
use Rattle.report_text.proofs.ReportLaws.{next_folded, reports}
use Rattle.report_text.proofs.StatementLaws.{statements_are}

module _ (s : Scenario) (held : Before) (es : List Entry) (k : ℕ) (f : FoldedKept) (kept : FollowsAll s held (take k es) f) where
  -- one more of them
  pub one_more : (names : Names) (before : List Entry) (e : Entry) (g : FoldedKept) → names ≡ names_of s → before ≡ take k es → slice_get es k ≡ Some e
      → g ≡ entry_step s names before e f → FollowsAll s held (take (k + 1) es) g
  one_more names before e g named front at step =
      let taken : g ≡ entry_step s (names_of s) (take k es) e f =
      step ∙ ap (λ (n : Names). entry_step s n before e f) named ∙ ap (λ (ds : List Entry). entry_step s (names_of s) ds e f) front in
      subst (λ (ds : List Entry). FollowsAll s held ds g) (sym (ap (λ n. take n es) (let next : k + 1 ≡ suc k = omega arith in next) ∙ take_snoc es k e at))
      (subst (FollowsAll s held (take k es ++ e ∷ [])) (sym taken) (next_folded s held (records_may s) (has_room s) (statements_are s) (take k es) e f kept))

  -- all of them
  pub all_taken : k ≡ length es → FollowsAll s held es f
  all_taken end = subst (λ (ds : List Entry). FollowsAll s held ds f) (take_all k es (omega (arith, end))) kept

-- a text of what is kept of all of them, with nothing before it
pub text_reports : (s : Scenario) (held : Before) (es : List Entry) (f : FoldedKept) (names : Names) (before text : List ℕ) → FollowsAll s held es f → names ≡ names_of s → before ≡ []
    → text ≡ before ++ text_kept names es f.coordinator f.resources f.reads → (past : Past) → IsRead s held past → Reports s past es text
text_reports s held es f names before text kept named empty is =
    reports s held es f text kept
    (is ∙ ap (λ front. front ++ text_kept names es f.coordinator f.resources f.reads) empty ∙ ap (λ n. text_kept n es f.coordinator f.resources f.reads) named)
