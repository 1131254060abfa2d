use Rattle.history_law.proofs.ValueHistory.{values_of_chains}
use Rattle.history_law.proofs.laws.rows_of_chains_have_their_values.Goals as goal

pub returns : goal.returns
returns c = values_of_chains
