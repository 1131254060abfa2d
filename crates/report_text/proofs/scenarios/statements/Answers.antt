use Rattle.std.proofs.Common.{rules, ◌≡◌, ◌∙◌, List, Some, ap, sym, subst}
use Rattle.seata_types.specs.declared.statements.Stmt.{Stmt}
use Rattle.report_text.specs.Numbered.{AreFew, statements_at}
use Rattle.report_text.proofs.FewLaws.{statements_few}
use Rattle.report_text.proofs.scenarios.statements.Goals as goal

pub returns-in-Some-default-At : goal.returns-in-Some-default-At
returns-in-Some-default-At c =
    let at : Some c.in-Some-default-At.stmts ≡ statements_at c.args.scenario.now c.args.manager c.args.number = search rules in
    let is : Some c.get.result.now ≡ statements_at c.args.scenario.now c.args.manager c.args.number = ap (λ (l : List Stmt). Some l) c.get.ensures ∙ at in
    record { is = is; few = subst AreFew (sym is) (statements_few c.args.scenario.now c.requires c.args.manager c.args.number) }
