use Rattle.verdict_law.proofs.Judged.{exact}
use Rattle.verdict_law.proofs.laws.verdicts_are_exact.Goals as goal

pub returns : goal.returns
returns c = exact
