use Rattle.history_law.proofs.RowHistory.{rows_of_chains}
use Rattle.history_law.proofs.laws.changes_of_rows_of_chains_are_in_order.Goals as goal

pub returns : goal.returns
returns c = rows_of_chains
