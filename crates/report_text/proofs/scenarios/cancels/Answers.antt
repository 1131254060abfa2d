use Rattle.std.proofs.Common.{rules, ◌≡◌, Some, sym, subst}
use Rattle.report_text.specs.Numbered.{AreFew, cancels_at}
use Rattle.report_text.proofs.FewLaws.{cancels_few}
use Rattle.report_text.proofs.scenarios.cancels.Goals as goal

pub returns-in-Some : goal.returns-in-Some
returns-in-Some c =
    let is : Some c.in-Some.field-0.now.cancels ≡ cancels_at c.args.scenario.now c.args.resource c.args.manager c.args.number = search rules in
    record { is = is; few = subst AreFew (sym is) (cancels_few c.args.scenario.now c.requires c.args.resource c.args.manager c.args.number) }
