use Rattle.branch_tests.proofs.SavedMemories.{sound_is}
use Rattle.branch_tests.proofs.kept_snapshots.read.Goals as goal

pub loaded-requires-clause-sound : goal.loaded-requires-clause-sound
loaded-requires-clause-sound c = sound_is 1 _ _ _ c.in-Ok.ensures.exact
