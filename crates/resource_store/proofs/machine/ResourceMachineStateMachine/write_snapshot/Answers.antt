use Rattle.std.proofs.Common.{subst}
use Rattle.resource_memory.proofs.Saved.{saves_known}
use Rattle.resource_store.specs.Meaning.{Opens}
use Rattle.resource_store.proofs.ListLaws.{has_counts}
use Rattle.resource_store.proofs.machine.ResourceMachineStateMachine.write_snapshot.Goals as goal

pub write-requires : goal.write-requires
write-requires c =
    let sound = c.requires.sound (subst Opens c.self.view_is c.self.invariant) in
    (saves_known c.args.memory.now sound.kept sound.fits (has_counts c.args.memory.now c.requires.few c.requires.can)).fits
