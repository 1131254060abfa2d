use Rattle.std.proofs.Common.{rules, ◌≡◌, ◌∙◌, Some, ap, sym, subst}
use Rattle.seata_types.specs.declared.statements.Action.{Action}
use Rattle.report_text.specs.Numbered.{AreFew, tries_at}
use Rattle.report_text.proofs.FewLaws.{tries_few}
use Rattle.report_text.proofs.scenarios.tries.Goals as goal

pub returns-in-Some-default-Tcc : goal.returns-in-Some-default-Tcc
returns-in-Some-default-Tcc c =
    let at : Some c.in-Some-default-Tcc.action.tries ≡ tries_at c.args.scenario.now c.args.manager c.args.number = search rules in
    let is : Some c.get.result.now.tries ≡ tries_at c.args.scenario.now c.args.manager c.args.number = ap (λ (a : Action). Some a.tries) c.get.ensures ∙ at in
    record { is = is; few = subst AreFew (sym is) (tries_few c.args.scenario.now c.requires c.args.manager c.args.number) }
