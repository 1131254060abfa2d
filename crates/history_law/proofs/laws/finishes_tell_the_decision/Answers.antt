use Rattle.history_law.proofs.Finishes.{finishes_law}
use Rattle.history_law.proofs.laws.finishes_tell_the_decision.Goals as goal

pub returns : goal.returns
returns c = finishes_law
