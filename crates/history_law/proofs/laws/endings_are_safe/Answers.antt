use Rattle.history_law.proofs.EndingHistory.{endings_law}
use Rattle.history_law.proofs.laws.endings_are_safe.Goals as goal

pub returns : goal.returns
returns c = endings_law
