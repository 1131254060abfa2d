use Rattle.history_law.proofs.DoneCalls.{asking_law}
use Rattle.history_law.proofs.laws.commits_are_asked_for_when_all_is_done.Goals as goal

pub returns : goal.returns
returns c = asking_law
