use Rattle.std.proofs.Common.{ap}
use Rattle.resource_core.specs.NodeMoving.{with_store}
use Rattle.resource_core.proofs.NodeDisks.{stopped}
use Rattle.resource_core.proofs.NodeRestarted.{not_back, restarted_by, unit_error, up_armed}
use Rattle.resource_core.proofs.nodes.ResourceNode.restart.Goals as goal

pub returns-in-Err : goal.returns-in-Err
returns-in-Err g c =
    let e = c.in-Err.ensures in
    not_back g.D.Disk.state (stopped g.D.Disk.state g.met.D.Disk.lawful) c.args.self.now c.restart.new.self c.args.pick c.args.now c.args.calls c.requires.down e.setting e.found e.comes.images e.comes.not_due c.in-Err.error
    (record { first = e.comes.first; second = e.comes.second }) (λ told always. e.recovers told.first told.second always) (λ same. e.comes.failed (ap unit_error same))

pub boot-requires-clause-ready : goal.boot-requires-clause-ready
boot-requires-clause-ready g c = up_armed g.D.Disk.state c.args.calls (with_store c.args.self.now c.restart.new.self) c.arm_with.new.self c.arm_with.ensures c.in_default.ensures.comes.up

pub returns : goal.returns
returns g c =
    let e = c.in_default.ensures in
    restarted_by g.D.Disk.state (stopped g.D.Disk.state g.met.D.Disk.lawful) c.args.self.now c.restart.new.self c.args.pick c.args.now c.args.calls c.requires.down e.setting e.found e.comes.images e.comes.not_due
    (record { first = e.comes.first; second = e.comes.second }) e.comes.up (λ told. e.back told.first told.second) e.sound c.arm_with.new.self c.boot.new.self c.arm_with.ensures c.kept-kept.result c.kept-kept.ensures c.boot.result c.boot.ensures
