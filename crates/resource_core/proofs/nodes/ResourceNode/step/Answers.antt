use Rattle.std.proofs.Common.{refl, arith}
use Rattle.resource_core.proofs.NodeDisks.{stopped}
use Rattle.resource_core.proofs.NodeStepped.{ready_by, stepped, missed}
use Rattle.resource_core.proofs.nodes.ResourceNode.step.Goals as goal

pub answer-requires-clause-ready : goal.answer-requires-clause-ready
answer-requires-clause-ready g c = ready_by c.args.self.now c.requires.served.0 c.requires.up c.requires.able

pub returns-in-Ok : goal.returns-in-Ok
returns-in-Ok g c =
    stepped g.D.Disk.state (stopped g.D.Disk.state g.met.D.Disk.lawful) c.args.self.now c.args.input c.args.now c.requires.up c.requires.able c.requires.served _ c.in-Ok.step c.in-Ok.ensures refl
    (omega (arith, c.requires.able))

pub returns-in-Err : goal.returns-in-Err
returns-in-Err g c =
    missed g.D.Disk.state (stopped g.D.Disk.state g.met.D.Disk.lawful) c.args.self.now c.args.input c.args.now c.requires.up c.requires.able c.requires.served c.answer.new.self c.miss.new.self c.records-records.result c.records-records.ensures c.in-Err.error
    c.in-Err.ensures c.miss.ensures
