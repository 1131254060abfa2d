use Rattle.history_law.proofs.CoverHistory.{tickets_law}
use Rattle.history_law.proofs.laws.local_commits_are_covered.Goals as goal

pub returns : goal.returns
returns c = tickets_law
