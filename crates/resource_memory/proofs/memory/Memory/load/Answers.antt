use Rattle.std.proofs.Common.{refl}
use Rattle.resource_memory.specs.Snapshots.{known_in}
use Rattle.resource_memory.proofs.Saved.{calls_sorted, fence_legs_sorted, fences_sorted, undos_sorted, loads_sound}
use Rattle.resource_memory.proofs.Steps.{kept_loaded, rows_open}
use Rattle.resource_memory.proofs.memory.Memory.load.Goals as goal

pub fences-requires-clause-fences : goal.fences-requires-clause-fences
fences-requires-clause-fences c = fences_sorted c.args.snapshot.fences c.requires.fits.fences.order

pub fences-requires-clause-calls : goal.fences-requires-clause-calls
fences-requires-clause-calls c = calls_sorted c.args.snapshot.fences (fence_legs_sorted c.args.snapshot.fences c.requires.fits.fences.order)

pub new-requires : goal.new-requires
new-requires c = rows_open c.args.resource c.args.schema c.args.snapshot c.requires.sound

pub undo_log-requires : goal.undo_log-requires
undo_log-requires c = undos_sorted c.args.snapshot.undos c.requires.fits.undos.order

pub invariant_of-result : goal.invariant_of-result
invariant_of-result c =
    kept_loaded _ (known_in c.args.resource c.args.schema c.args.snapshot) (loads_sound c.args.resource c.args.schema c.args.snapshot c.requires.sound c.requires.fits).0
    c.in_ok-tables.ensures c.in_ok-undo_log.ensures c.in_ok-fence.ensures.fences c.in_ok-fence.ensures.calls refl refl
