use Rattle.history_law.proofs.CallHistory.{calls_law}
use Rattle.history_law.proofs.laws.branches_are_of_calls.Goals as goal

pub returns : goal.returns
returns c = calls_law
