use Rattle.history_law.proofs.LongerChains.{safety_after_chains}
use Rattle.history_law.proofs.laws.histories_are_safe_after_chains.Goals as goal

pub returns : goal.returns
returns c = safety_after_chains
