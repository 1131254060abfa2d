use Rattle.std.proofs.Common.{sym, subst}
use Rattle.resource_memory.proofs.Saved.{loads_sound}
use Rattle.branch_tests.specs.Saving.{CanBeSaved}
use Rattle.branch_tests.proofs.kept_snapshots.loaded.Goals as goal

pub returns-in-Ok : goal.returns-in-Ok
returns-in-Ok c = subst CanBeSaved (sym c.in-Ok.ensures) (loads_sound 1 _ _ c.requires.sound c.requires.fits)
