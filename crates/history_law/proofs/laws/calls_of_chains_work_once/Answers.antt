use Rattle.history_law.proofs.OnceHistory.{once_of_chains}
use Rattle.history_law.proofs.laws.calls_of_chains_work_once.Goals as goal

pub returns : goal.returns
returns c = once_of_chains
