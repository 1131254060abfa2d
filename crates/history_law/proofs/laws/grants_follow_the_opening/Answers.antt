use Rattle.history_law.proofs.OpenedGrants.{grants_law}
use Rattle.history_law.proofs.laws.grants_follow_the_opening.Goals as goal

pub returns : goal.returns
returns c = grants_law
