use Rattle.std.proofs.Common.{refl, sym, subst}
use Rattle.seata_types.specs.declared.ids.Place.TheVariants as place
use Rattle.scenario_nodes.specs.Nodes.{coordinator_server}
use Rattle.scenario_nodes.specs.Reading.{ReadsCoordinator, SaysSessions}
use Rattle.scenario_nodes.specs.Shelves.{coordinator_name}
use Rattle.scenario_nodes.proofs.ReadNode.{node_not_had, node_told}
use Rattle.scenario_nodes.proofs.reading.read_coordinator.Goals as goal

-- its disks weren't had
pub returns-in-Err : goal.returns-in-Err
returns-in-Err g c =
    let s = c.args.scenario.now in
    let e = c.in-Err.ensures in
    node_not_had g.H.D.Disk.state s coordinator_name (coordinator_server s) (λ held. refl) place.Tc (λ held. refl) SaysSessions (g.H.Shelf.state c.args.shelf.now) (g.H.Shelf.state c.take_disks.new.shelf)
    (g.met.H.Shelf.lawful c.args.shelf.now) (g.met.H.Shelf.lawful c.take_disks.new.shelf) c.in-Err.fault e.refused e.keeps e.returned

pub returns : goal.returns
returns g c =
    let s = c.args.scenario.now in
    let state = g.H.D.Disk.state in
    let old = g.H.Shelf.state c.args.shelf.now in
    let before = g.H.Shelf.state c.take_disks.new.shelf in
    let after = g.H.Shelf.state c.give_disks.new.shelf in
    let e = c.in-Ok.ensures in
    let gives = c.give_disks.ensures in
    let r = c.read_sessions-read.result in
    subst (ReadsCoordinator state s coordinator_name old after) (sym c.told.ensures)
    (node_told state s coordinator_name (coordinator_server s) (λ held. refl) (λ held. tt) place.Tc (λ held. refl) SaysSessions old before after
    (g.met.H.Shelf.lawful c.args.shelf.now) (g.met.H.Shelf.lawful c.give_disks.new.shelf) c.in-Ok.disks e.taken e.both e.keeps e.out gives.keeps gives.returned r.1 r.2 gives.back r.0 c.read_sessions-read.ensures)
