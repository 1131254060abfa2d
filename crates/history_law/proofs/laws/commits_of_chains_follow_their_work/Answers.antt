use Rattle.history_law.proofs.Works.{commits_of_chains}
use Rattle.history_law.proofs.laws.commits_of_chains_follow_their_work.Goals as goal

pub returns : goal.returns
returns c = commits_of_chains
