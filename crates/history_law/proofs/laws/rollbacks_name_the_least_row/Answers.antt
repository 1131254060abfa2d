use Rattle.history_law.proofs.LeastRows.{rollback_rows_law}
use Rattle.history_law.proofs.laws.rollbacks_name_the_least_row.Goals as goal

pub returns : goal.returns
returns c = rollback_rows_law
