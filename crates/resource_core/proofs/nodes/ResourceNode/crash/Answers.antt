use Rattle.resource_core.proofs.NodeArms.{crashes_by}
use Rattle.resource_core.proofs.NodeDisks.{stopped}
use Rattle.resource_core.proofs.nodes.ResourceNode.crash.Goals as goal

pub returns : goal.returns
returns g c = crashes_by g.D.Disk.state (stopped g.D.Disk.state g.met.D.Disk.lawful) c.args.self.now c.requires.up c.records-self.result c.records-self.ensures
