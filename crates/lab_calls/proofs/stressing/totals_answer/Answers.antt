use Rattle.std.proofs.Common.{◌≡◌, ◌∙◌, true, refl, ap, sym, subst}
use Rattle.report_text.specs.Following.{AreCounted}
use Rattle.lab_calls.specs.Stressing.{totals_text}
use Rattle.lab_calls.proofs.stressing.totals_answer.Goals as goal

pub returns-in-Ok : goal.returns-in-Ok
returns-in-Ok c =
    let counted : c.counts.result ≡ true = search in (
      refl,
      λ past ms read legal same.
          c.in-Ok.ensures ∙ ap totals_text (c.in_ok-totals.ensures past read ms legal (same ∙ sym c.as_slice-2.ensures)
          (subst (AreCounted c.args.scenario.now past) (c.as_slice.ensures ∙ sym c.as_slice-2.ensures) (c.counts.ensures.counted counted c.args.scenario.now past read))),
    )
