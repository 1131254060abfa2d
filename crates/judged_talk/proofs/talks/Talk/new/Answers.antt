use Rattle.std.proofs.Common.{ℕ, List, refl, ap, ◌∙◌}
use Rattle.seata_types.specs.declared.statements.Work.{Work}
use Rattle.manager_rules.specs.Within.{settings_with}
use Rattle.judged_talk.proofs.talks.Talk.new.Goals as goal

pub returns : goal.returns
returns c = record {
  settings = c.new-settings.ensures ∙ ap (λ (l : List (ℕ × Work)). settings_with c.args.number c.args.def.now.timeout c.args.tries l c.args.def.now.ending c.args.def.now.silent c.args.def.now.poll) c.in_ok-calls.ensures;
  tracks = record { counted = refl; phased = (refl, refl); up = refl; unarmed = refl };
  taken = refl;
}
