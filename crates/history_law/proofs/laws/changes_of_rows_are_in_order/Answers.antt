use Rattle.history_law.proofs.RowHistory.{rows_law}
use Rattle.history_law.proofs.laws.changes_of_rows_are_in_order.Goals as goal

pub returns : goal.returns
returns c = rows_law
