use Rattle.report_judge.proofs.OneJudgement.{judgements_agree}
use Rattle.report_judge.proofs.laws.judgements_agree.Goals as goal

pub returns : goal.returns
returns c = judgements_agree
