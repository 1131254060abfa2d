use Rattle.history_law.proofs.CallHistory.{calls_of_chains}
use Rattle.history_law.proofs.laws.branches_of_chains_are_of_calls.Goals as goal

pub returns : goal.returns
returns c = calls_of_chains
