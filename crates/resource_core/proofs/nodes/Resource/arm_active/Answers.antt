use Rattle.std.proofs.Common.{refl}
use Rattle.resource_core.specs.Shown.{store_of}
use Rattle.resource_core.proofs.NodeArms.{arms_store}
use Rattle.resource_core.proofs.nodes.Resource.arm_active.Goals as goal

pub returns : goal.returns
returns g c = record {
  store = arms_store g.D.Disk.state c.args.calls (store_of c.args.self.now) c.disk_mut.result.now c.arm.new.self c.disk_mut.ensures.disk c.arm.ensures.below c.arm.ensures.armed c.arm.ensures.failures;
  rest = refl;
}
