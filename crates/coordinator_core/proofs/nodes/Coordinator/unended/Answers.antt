use Rattle.coordinator_core.proofs.Unended.{unended_told}
use Rattle.coordinator_core.proofs.nodes.Coordinator.unended.Goals as goal

pub returns : goal.returns
returns g c = unended_told g.D.Disk.state c.args.self.now c.unended.result c.entries.result.now c.unended.ensures c.entries.ensures c.requires.up
