use Rattle.coordinator_core.proofs.Arms.{arms_by}
use Rattle.coordinator_core.proofs.Disks.{stopped}
use Rattle.coordinator_core.proofs.nodes.CoordinatorNode.arm.Goals as goal

pub returns : goal.returns
returns g c = arms_by g.D.Disk.state (stopped g.D.Disk.state g.met.D.Disk.lawful) c.args.self.now c.arm_active.new.self c.requires.up c.args.calls c.arm_active.ensures
