use Rattle.history_law.proofs.ValueHistory.{values_law}
use Rattle.history_law.proofs.laws.rows_have_their_values.Goals as goal

pub returns : goal.returns
returns c = values_law
