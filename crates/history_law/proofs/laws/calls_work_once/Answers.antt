use Rattle.history_law.proofs.OnceHistory.{once_law}
use Rattle.history_law.proofs.laws.calls_work_once.Goals as goal

pub returns : goal.returns
returns c = once_law
