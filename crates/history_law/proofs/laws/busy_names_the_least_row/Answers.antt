use Rattle.history_law.proofs.LeastRows.{busy_law}
use Rattle.history_law.proofs.laws.busy_names_the_least_row.Goals as goal

pub returns : goal.returns
returns c = busy_law
