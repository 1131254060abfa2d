use Rattle.history_law.proofs.Works.{commits_law}
use Rattle.history_law.proofs.laws.commits_follow_their_work.Goals as goal

pub returns : goal.returns
returns c = commits_law
