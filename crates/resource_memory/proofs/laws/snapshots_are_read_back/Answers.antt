use Rattle.resource_memory.proofs.Saved.{saves_known}
use Rattle.resource_memory.proofs.laws.snapshots_are_read_back.Goals as goal

pub returns : goal.returns
returns c = saves_known
