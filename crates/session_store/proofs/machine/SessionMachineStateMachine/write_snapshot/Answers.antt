use Rattle.std.proofs.Common.{sym, subst}
use Rattle.session_log.specs.Snapshots.{FitsSnapshot}
use Rattle.session_log.specs.declared.sessions.Snapshot.{Snapshot}
use Rattle.session_memory.proofs.WritingLaws.{snapshot_written}
use Rattle.session_store.proofs.machine.SessionMachineStateMachine.write_snapshot.Goals as goal

pub write_snapshot-requires : goal.write_snapshot-requires
write_snapshot-requires c =
    subst (λ (s : Snapshot). FitsSnapshot s) (sym c.snapshot.ensures) (snapshot_written c.args.memory.now c.requires.can c.requires.few c.requires.sound)
