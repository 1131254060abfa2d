use Rattle.history_law.proofs.CallHistory.{unfenced_law}
use Rattle.history_law.proofs.laws.no_fence_refuses.Goals as goal

pub returns : goal.returns
returns c = unfenced_law
