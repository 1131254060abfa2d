use Rattle.resource_memory.proofs.Saved.{loads_sound}
use Rattle.resource_memory.proofs.laws.sound_snapshots_are_kept.Goals as goal

pub returns : goal.returns
returns c = loads_sound
