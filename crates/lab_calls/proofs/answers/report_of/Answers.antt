use Rattle.std.proofs.Common.{◌≡◌, ◌∙◌, true, refl, sym, subst}
use Rattle.report_text.specs.Following.{AreCounted}
use Rattle.lab_calls.proofs.answers.report_of.Goals as goal

pub returns : goal.returns
returns c =
    let counted : c.counts.result ≡ true = search in (
      refl,
      λ past ms read legal same.
          c.in_ok-text.ensures past read ms legal (same ∙ sym c.as_slice-2.ensures)
          (subst (AreCounted c.args.scenario.now past) (c.as_slice.ensures ∙ sym c.as_slice-2.ensures) (c.counts.ensures.counted counted c.args.scenario.now past read)),
    )
