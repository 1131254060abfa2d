use Rattle.report_text.proofs.TotalsLaws.{counts}
use Rattle.report_text.proofs.totals.count_history.Goals as goal

pub returns : goal.returns
returns c =
    counts c.args.scenario.now c.args.before c.args.history.now c.in_ok-folded.folded c.totals_of-totals.result c.in_ok-folded.ensures c.totals_of-totals.ensures
