use Rattle.history_law.proofs.WorkedRuns.{worked_law}
use Rattle.history_law.proofs.laws.worked_histories_play_safely.Goals as goal

pub returns : goal.returns
returns c = worked_law
