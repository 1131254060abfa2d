use Rattle.history_law.proofs.CoverChains.{tickets_of_chains}
use Rattle.history_law.proofs.laws.local_commits_of_chains_are_covered.Goals as goal

pub returns : goal.returns
returns c = tickets_of_chains
