use Rattle.std.proofs.Common.{◌∙◌, rules}
use Rattle.memory_store.proofs.Settled.{disks_failed, settled_or_refused, unsettled, without_memory}
use Rattle.memory_store.proofs.settling.settle.Goals as goal

pub returns-then-not-due : goal.returns-then-not-due
returns-then-not-due g c = unsettled g.D.Disk.state g.met.D.Disk.lawful (g.M.StateMachine.meaning c.args.machine.now) c.args.memory.now c.args.twin.now c.requires.up (search rules)

pub returns-then-acts-ge-ACTS : goal.returns-then-acts-ge-ACTS
returns-then-acts-ge-ACTS g c = unsettled g.D.Disk.state g.met.D.Disk.lawful (g.M.StateMachine.meaning c.args.machine.now) c.args.memory.now c.args.twin.now c.requires.up (search rules)

pub returns-then-not-can_write : goal.returns-then-not-can_write
returns-then-not-can_write g c = unsettled g.D.Disk.state g.met.D.Disk.lawful (g.M.StateMachine.meaning c.args.machine.now) c.args.memory.now c.args.twin.now c.requires.up (search rules)

pub returns-in-Err : goal.returns-in-Err
returns-in-Err g c = without_memory g.D.Disk.state g.met.D.Disk.lawful (g.M.StateMachine.meaning c.args.machine.now) c.args.memory.now c.args.twin.now

pub returns-in-Ok-checkpoint : goal.returns-in-Ok-checkpoint
returns-in-Ok-checkpoint g c =
    settled_or_refused g.D.Disk.state (g.M.StateMachine.meaning c.args.machine.now) c.args.memory.now (record { can = search rules; few = search rules; sound = c.requires.sound }) c.deref.result.now
    (c.deref.ensures.value ∙ c.in-Ok.ensures) c.args.twin.now c.checkpoint.new.self (search rules) c.checkpoint.ensures.any_moment _ c.in-Ok-checkpoint.ensures.done c.in-Ok-checkpoint.ensures.exchanged
    c.in-Ok-checkpoint.ensures.refused c.in-Ok-checkpoint.ensures.unchanged c.in-Ok-checkpoint.ensures.down

pub returns : goal.returns
returns g c =
    disks_failed g.D.Disk.state (g.M.StateMachine.meaning c.args.machine.now) c.args.memory.now (record { can = search rules; few = search rules; sound = c.requires.sound }) c.deref.result.now
    (c.deref.ensures.value ∙ c.in-Ok.ensures) c.args.twin.now c.checkpoint.new.self (search rules) c.checkpoint.ensures.any_moment _ c.in-Err-checkpoint.ensures.fallen
