use Rattle.history_law.proofs.PlayedRuns.{played_law}
use Rattle.history_law.proofs.laws.what_is_played_is_a_run.Goals as goal

pub returns : goal.returns
returns c = played_law
