use Rattle.history_law.proofs.ValueHistory.{dirty_of_chains}
use Rattle.history_law.proofs.laws.only_outside_writes_make_rows_of_chains_dirty.Goals as goal

pub returns : goal.returns
returns c = dirty_of_chains
