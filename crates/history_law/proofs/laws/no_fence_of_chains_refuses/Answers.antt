use Rattle.history_law.proofs.CallHistory.{unfenced_of_chains}
use Rattle.history_law.proofs.laws.no_fence_of_chains_refuses.Goals as goal

pub returns : goal.returns
returns c = unfenced_of_chains
