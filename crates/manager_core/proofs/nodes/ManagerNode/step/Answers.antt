use Rattle.std.proofs.Common.{false, sym, subst, ap, ◌∙◌}
use Rattle.history_rules.specs.Own.{Given}
use Rattle.history_rules.specs.Nodes.{happens}
use Rattle.history_rules.specs.Nodes.{Manager as ManagerRole}
use Rattle.node_steps.specs.Ends.{EntryFits}
use Rattle.node_steps.specs.Promises.{own_step}
use Rattle.manager_core.specs.Standing.{StandsFor}
use Rattle.manager_core.proofs.Facts.{happens_answer}
use Rattle.manager_core.proofs.nodes.ManagerNode.step.Goals as goal

pub returns-in-Ok-clause-takes : goal.returns-in-Ok-clause-takes
unfolding StandsFor
returns-in-Ok-clause-takes c = λ owns t.
    let a = c.in-Ok.ensures.answers.takes owns c.args._now t in (a.0 ∙ happens_answer owns c.args._now c.args.input t, a.1)

pub returns-in-Ok-clause-answers : goal.returns-in-Ok-clause-answers
unfolding StandsFor
returns-in-Ok-clause-answers c =
    λ role owns t. let a = c.in-Ok.ensures.answers.takes owns c.args._now t.1 in (
      a.0 ∙ happens_answer owns c.args._now c.args.input t.1 ∙ ap (λ r. happens r owns c.args._now false false (Given c.args.input)) (sym t.0),
      (t.0 ∙ ap (λ s. ManagerRole s) (sym c.in-Ok.ensures.answers.same), a.1),
      λ start size lies. (subst (λ r. EntryFits r start size owns (own_step c.args.input c.args._now c.in-Ok.step)) (sym t.0) tt, tt),
    )
