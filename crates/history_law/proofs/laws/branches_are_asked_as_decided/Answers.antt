use Rattle.history_law.proofs.SessionHistory.{questions_law}
use Rattle.history_law.proofs.laws.branches_are_asked_as_decided.Goals as goal

pub returns : goal.returns
returns c = questions_law
