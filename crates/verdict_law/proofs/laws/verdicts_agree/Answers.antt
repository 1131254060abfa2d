use Rattle.verdict_law.proofs.Judged.{agree}
use Rattle.verdict_law.proofs.laws.verdicts_agree.Goals as goal

pub returns : goal.returns
returns c = agree
