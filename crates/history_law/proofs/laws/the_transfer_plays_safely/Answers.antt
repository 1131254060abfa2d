use Rattle.history_law.proofs.WorkedRuns.{transfer_row}
use Rattle.history_law.proofs.laws.the_transfer_plays_safely.Goals as goal

pub returns : goal.returns
returns c = transfer_row
