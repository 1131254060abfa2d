use Rattle.history_law.proofs.SafetyHistory.{safety_law}
use Rattle.history_law.proofs.laws.legal_histories_are_safe.Goals as goal

pub returns : goal.returns
returns c = safety_law
