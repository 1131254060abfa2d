use Rattle.std.proofs.Common.{ap, arith, length, subst, sym}
use Rattle.node_seat.specs.declared.faults.RunFault.TheVariants as fault
use Rattle.scenario_nodes.specs.Nodes.{IsNewCoordinator, IsNewResource, server_names}
use Rattle.scenario_nodes.specs.Together.{numbered}
use Rattle.scenario_nodes.proofs.Together.{each_length, none_taken}
use Rattle.replay_runner.proofs.NewNodes.{length_numbered, new_seated}
use Rattle.replay_runner.proofs.Servers.{none_asked}
use Rattle.replay_runner.proofs.openings.open_nodes.Goals as goal

pub seated-requires-clause-room : goal.seated-requires-clause-room
seated-requires-clause-room g c =
    let s = c.args.scenario.now in
    let one = each_length (λ one r. IsNewResource g.H.D.Disk.state (g.H.Shelf.state c.args.shelf.now) s one.0 one.1 r) (numbered 1 s.resources) c.in-Ok-open_servers.servers.resources.items c.in-Ok-open_servers.ensures.new.resources in
    let two = length_numbered 1 s.resources in
    let room = c.in-Ok.ensures.capacity in
    let size = ap length c.as_slice.ensures in
    omega (arith, one, two, room, size)

pub returns-in_default : goal.returns-in_default
returns-in_default g c =
    let shelf = g.H.Shelf.state c.args.shelf.now in
    record { nodes = tt; refused = none_asked g.H.D.Disk.state c.args.scenario.now shelf; shelf = none_taken (server_names c.args.scenario.now) shelf fault.NoMemory }

pub returns-in-Err : goal.returns-in-Err
returns-in-Err g c =
    let e = c.in-Err.ensures in
    record { nodes = tt; refused = e.refused; shelf = record { takes = tt; keeps = e.shelf.keeps; returned = e.shelf.returned } }

pub returns-in-Ok-open_servers : goal.returns-in-Ok-open_servers
returns-in-Ok-open_servers g c =
    let s = c.args.scenario.now in
    let state = g.H.D.Disk.state in
    let old = g.H.Shelf.state c.args.shelf.now in
    let o = c.in-Ok-open_servers in record {
      nodes = record {
        coordinator = record {
          node = subst (IsNewCoordinator state old s (length s.managers) (length s.resources)) (sym c.new.ensures.node) o.ensures.new.coordinator;
          traced = c.new.ensures.trace;
          turned = c.new.ensures.turned;
        };
        resources = new_seated (IsNewResource state old s) s.resources o.servers.resources.items c.seated.result.items o.ensures.new.resources c.seated.ensures;
        managers = c.requires.managers;
      };
      refused = tt;
      shelf = record { takes = o.ensures.shelf.takes; keeps = o.ensures.shelf.keeps; returned = tt };
    }
