use Rattle.std.proofs.Common.{sym, subst}
use Rattle.resource_core.specs.declared.nodes.Resource.{Resource}
use Rattle.resource_core.specs.NodeStepping.{ArmsBy}
use Rattle.resource_core.specs.Shown.{store_of}
use Rattle.resource_core.proofs.NodeArms.{arms_by}
use Rattle.resource_core.proofs.NodeDisks.{stopped}
use Rattle.resource_core.proofs.nodes.ResourceNode.arm.Goals as goal

pub returns : goal.returns
returns g c =
    subst (λ (r : Resource g.row.D.Denot). ArmsBy g.D.Disk.state c.args.self.now r c.args.calls) (sym c.arm_active.ensures.rest)
    (arms_by g.D.Disk.state (stopped g.D.Disk.state g.met.D.Disk.lawful) c.args.self.now c.requires.up (store_of c.arm_active.new.self) c.args.calls c.arm_active.ensures.store)
