use Rattle.std.proofs.Common.{refl}
use Rattle.coordinator_core.specs.Standing.{sessions_of}
use Rattle.coordinator_core.proofs.Arms.{arms_sessions}
use Rattle.coordinator_core.proofs.nodes.Coordinator.arm_active.Goals as goal

pub returns : goal.returns
returns g c = record {
  sessions = arms_sessions g.D.Disk.state c.args.calls (sessions_of c.args.self.now) c.disk_mut.result.now c.arm.new.self c.disk_mut.ensures.disk c.arm.ensures.below c.arm.ensures.armed c.arm.ensures.failures;
  moments = refl;
  rest = record { start = refl; retry = refl; forget = refl; flight = refl; records = refl; left = refl };
}
