use Rattle.history_law.proofs.SessionHistory.{sessions_of_chains}
use Rattle.history_law.proofs.laws.sessions_of_chains_are_safe.Goals as goal

pub returns : goal.returns
returns c = sessions_of_chains
