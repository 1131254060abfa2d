use Rattle.std.proofs.Common.{None, refl}
use Rattle.coordinator_core.proofs.Arms.{crashes_by}
use Rattle.coordinator_core.proofs.Disks.{stopped}
use Rattle.coordinator_core.proofs.nodes.CoordinatorNode.crash.Goals as goal

pub returns : goal.returns
returns g c =
    let s = c.args.self.now in
    crashes_by g.D.Disk.state (stopped g.D.Disk.state g.met.D.Disk.lawful) s (record s { table = record s.table { sessions = c.fall.new.self }; flight = None; records = c.records-self.result }) c.requires.up
    c.fall.ensures.disks c.fall.ensures.opening c.fall.ensures.down refl refl refl c.records-self.ensures refl
