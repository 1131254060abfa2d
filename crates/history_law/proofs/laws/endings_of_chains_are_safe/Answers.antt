use Rattle.history_law.proofs.EndingHistory.{endings_of_chains}
use Rattle.history_law.proofs.laws.endings_of_chains_are_safe.Goals as goal

pub returns : goal.returns
returns c = endings_of_chains
