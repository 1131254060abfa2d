use Rattle.history_law.proofs.ValueHistory.{dirty_law}
use Rattle.history_law.proofs.laws.only_outside_writes_make_rows_dirty.Goals as goal

pub returns : goal.returns
returns c = dirty_law
