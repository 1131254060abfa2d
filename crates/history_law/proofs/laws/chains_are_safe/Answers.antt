use Rattle.history_law.proofs.SafetyHistory.{safety_of_chains}
use Rattle.history_law.proofs.laws.chains_are_safe.Goals as goal

pub returns : goal.returns
returns c = safety_of_chains
