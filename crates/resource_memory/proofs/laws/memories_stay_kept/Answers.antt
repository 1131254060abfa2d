use Rattle.resource_memory.proofs.Room.{stays}
use Rattle.resource_memory.proofs.laws.memories_stay_kept.Goals as goal

pub returns : goal.returns
returns c = stays
