use Rattle.history_law.proofs.SessionHistory.{sessions_law}
use Rattle.history_law.proofs.laws.sessions_and_holders_are_safe.Goals as goal

pub returns : goal.returns
returns c = sessions_law
