use Rattle.report_judge.proofs.Compared.{is_not_told, is_told}
use Rattle.report_judge.proofs.Readings.{few_judged}
use Rattle.report_judge.proofs.judging.judge_report.Goals as goal

pub returns-in-Ok-true : goal.returns-in-Ok-true
returns-in-Ok-true c = (
  c.args.entries.now,
  c.requires.read,
  is_told c.args.scenario.now c.args.entries.now c.args.text.now (few_judged _ c.args.text.now c.args.entries.now c.requires.read c.requires.short) c.requires.legal
      (rw c.in-Ok-true.field-0-test at c.in-Ok-true.ensures),
)

pub returns-in-Ok-false : goal.returns-in-Ok-false
returns-in-Ok-false c = (
  c.args.entries.now,
  c.requires.read,
  is_not_told c.args.scenario.now c.args.entries.now c.args.text.now (few_judged _ c.args.text.now c.args.entries.now c.requires.read c.requires.short) c.requires.legal
      (rw c.in-Ok-false.field-0-test at c.in-Ok-false.ensures),
)
