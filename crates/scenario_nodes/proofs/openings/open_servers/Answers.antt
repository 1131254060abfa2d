use Rattle.std.proofs.Common.{inl, ◌∷◌, [], map, length, rules, ap, arith}
use Rattle.scenario_form.specs.Runnable.{resource_name}
use Rattle.node_seat.specs.declared.faults.RunFault.TheVariants as fault
use Rattle.scenario_nodes.specs.Nodes.{coordinator_disks, coordinator_server, resource_servers, server_names}
use Rattle.scenario_nodes.specs.Shelves.{IsDiskName, coordinator_name, second_name}
use Rattle.scenario_nodes.specs.Together.{IsOfOne}
use Rattle.scenario_nodes.proofs.AllBack.{none_asked}
use Rattle.scenario_nodes.proofs.AllStarted.{all_before}
use Rattle.scenario_nodes.proofs.Apart.{servers_apart}
use Rattle.scenario_nodes.proofs.NewServers.{coordinator_stops, resources_stop}
use Rattle.scenario_nodes.proofs.Returned.{keeps_then, keeps_wider}
use Rattle.scenario_nodes.proofs.Together.{gives_one, none_taken, of_behind, of_front, returned_all, takes_one, takes_then}
use Rattle.scenario_nodes.proofs.openings.open_servers.Goals as goal

pub returns-in_default-clause-refused : goal.returns-in_default-clause-refused
returns-in_default-clause-refused g c =
    let s = c.args.scenario.now in
    λ held. inl (none_asked g.H.D.Disk.state s (g.H.Shelf.state c.args.shelf.now) (coordinator_server s held) (resource_servers s held))

pub returns-in_default-clause-shelf : goal.returns-in_default-clause-shelf
returns-in_default-clause-shelf g c = none_taken (server_names c.args.scenario.now) (g.H.Shelf.state c.args.shelf.now) fault.NoMemory

pub returns-in_default-with_capacity-clause-refused : goal.returns-in_default-with_capacity-clause-refused
returns-in_default-with_capacity-clause-refused g c =
    let s = c.args.scenario.now in
    λ held. inl (none_asked g.H.D.Disk.state s (g.H.Shelf.state c.args.shelf.now) (coordinator_server s held) (resource_servers s held))

pub returns-in_default-with_capacity-clause-shelf : goal.returns-in_default-with_capacity-clause-shelf
returns-in_default-with_capacity-clause-shelf g c = none_taken (server_names c.args.scenario.now) (g.H.Shelf.state c.args.shelf.now) fault.NoMemory

pub returns-in-Err-clause-refused : goal.returns-in-Err-clause-refused
returns-in-Err-clause-refused g c =
    λ held. inl (coordinator_stops g.H.D.Disk.state c.args.scenario.now held (g.H.Shelf.state c.args.shelf.now) (g.H.Shelf.state c.open_coordinator.new.shelf) c.in-Err.fault c.requires.runnable
    c.open_coordinator.ensures.keeps (c.in-Err.ensures.refused held))

pub returns-in-Err-clause-shelf : goal.returns-in-Err-clause-shelf
returns-in-Err-clause-shelf g c = record {
  takes = tt;
  keeps = keeps_wider (IsDiskName coordinator_name) (IsOfOne (server_names c.args.scenario.now)) (g.H.Shelf.state c.args.shelf.now) (g.H.Shelf.state c.open_coordinator.new.shelf) (λ n named. inl named)
      c.open_coordinator.ensures.keeps;
  returned = c.in-Err.ensures.returned;
}

pub open_resources-requires-clause-runnable : goal.open_resources-requires-clause-runnable
open_resources-requires-clause-runnable g c κs within = c.requires.runnable

pub open_resources-requires-clause-seconds : goal.open_resources-requires-clause-seconds
open_resources-requires-clause-seconds g c κs within = c.requires.seconds

pub open_resources-requires-clause-none_loaded : goal.open_resources-requires-clause-none_loaded
open_resources-requires-clause-none_loaded g c κs within = c.in-Ok.ensures.items

pub open_resources-requires-clause-room_loaded : goal.open_resources-requires-clause-room_loaded
open_resources-requires-clause-room_loaded g c κs within =
    let size = ap length c.as_slice-count.ensures in
    let room = c.in-Ok.ensures.capacity in
    omega (arith, size, room)

pub open_resources-requires-clause-none_started : goal.open_resources-requires-clause-none_started
open_resources-requires-clause-none_started g c κs within = c.in-Ok-with_capacity.ensures.items

pub open_resources-requires-clause-room_started : goal.open_resources-requires-clause-room_started
open_resources-requires-clause-room_started g c κs within =
    let size = ap length c.as_slice-count.ensures in
    let room = c.in-Ok-with_capacity.ensures.exact in
    omega (arith, size, room)

pub close_coordinator-requires : goal.close_coordinator-requires
close_coordinator-requires g c =
    let both = c.in-Ok-open_coordinator.ensures.both in
    let places = c.open_resources.ensures.shelf.keeps.places in
    (search rules, record { first = places coordinator_name both.first; second = places (second_name coordinator_name) both.second })

pub returns-in-Err-open_resources-clause-refused : goal.returns-in-Err-open_resources-clause-refused
returns-in-Err-open_resources-clause-refused g c =
    let s = c.args.scenario.now in
    let tc = c.in-Ok-open_coordinator in
    let old = g.H.Shelf.state c.args.shelf.now in
    let now = g.H.Shelf.state c.open_coordinator.new.shelf in
    let mid = g.H.Shelf.state c.open_resources.new.shelf in
    let new = g.H.Shelf.state c.close_coordinator.new.shelf in
    let opened = c.open_coordinator.ensures in
    let closed = c.close_coordinator.ensures in
    λ held. resources_stop g.H.D.Disk.state s held c.requires.runnable (length s.managers) (length s.resources) tc.coordinator old now mid new tc.ensures.new (IsOfOne (map resource_name s.resources))
    c.in-Err-open_resources.fault (takes_one coordinator_name old now tc.ensures.both opened.keeps tc.ensures.out) c.open_resources.ensures.shelf.keeps
    (gives_one coordinator_name (coordinator_disks tc.coordinator) mid new closed.back closed.keeps closed.places closed.returned) (c.in-Err-open_resources.ensures.refused held)

pub returns-in-Err-open_resources-clause-shelf : goal.returns-in-Err-open_resources-clause-shelf
returns-in-Err-open_resources-clause-shelf g c =
    let s = c.args.scenario.now in
    let tc = c.in-Ok-open_coordinator in
    let first = coordinator_name ∷ [] in
    let names = map resource_name s.resources in
    let old = g.H.Shelf.state c.args.shelf.now in
    let now = g.H.Shelf.state c.open_coordinator.new.shelf in
    let mid = g.H.Shelf.state c.open_resources.new.shelf in
    let new = g.H.Shelf.state c.close_coordinator.new.shelf in
    let closed = c.close_coordinator.ensures in
    let shelf = c.open_resources.ensures.shelf in
    let takes = takes_one coordinator_name old now tc.ensures.both c.open_coordinator.ensures.keeps tc.ensures.out in
    let gives = gives_one coordinator_name (coordinator_disks tc.coordinator) mid new closed.back closed.keeps closed.places closed.returned in record {
      takes = tt;
      keeps = keeps_then (IsOfOne first) (IsOfOne (server_names s)) (IsOfOne (server_names s)) old now new (of_front first names) (λ n o. o) takes.keeps
          (keeps_then (IsOfOne names) (IsOfOne first) (IsOfOne (server_names s)) now mid new (of_behind first names) (of_front first names) shelf.keeps gives.keeps);
      returned = returned_all first (coordinator_disks tc.coordinator ∷ []) old now mid new takes shelf.keeps.tells c.in-Err-open_resources.ensures.shelf.returned gives;
    }

-- the resources were opened on the disks that the shelf gave before the coordinator's were taken
pub returns-in-Ok-open_resources-clause-new : goal.returns-in-Ok-open_resources-clause-new
returns-in-Ok-open_resources-clause-new g c =
    let s = c.args.scenario.now in
    let tc = c.in-Ok-open_coordinator in
    let old = g.H.Shelf.state c.args.shelf.now in
    let now = g.H.Shelf.state c.open_coordinator.new.shelf in
    record {
      coordinator = tc.ensures.new;
      resources = all_before g.H.D.Disk.state old now s 1 s.resources c.in-Ok-open_resources.resources.items
          (λ name o. c.open_coordinator.ensures.keeps.others name (λ its. (servers_apart s c.requires.runnable).0 name its o)) c.in-Ok-open_resources.ensures.new;
    }

pub returns-in-Ok-open_resources-clause-shelf : goal.returns-in-Ok-open_resources-clause-shelf
returns-in-Ok-open_resources-clause-shelf g c =
    let s = c.args.scenario.now in
    let tc = c.in-Ok-open_coordinator in
    let first = coordinator_name ∷ [] in
    let names = map resource_name s.resources in
    let old = g.H.Shelf.state c.args.shelf.now in
    let now = g.H.Shelf.state c.open_coordinator.new.shelf in
    let mid = g.H.Shelf.state c.open_resources.new.shelf in
    let takes = takes_then first names old now mid (takes_one coordinator_name old now tc.ensures.both c.open_coordinator.ensures.keeps tc.ensures.out) c.in-Ok-open_resources.ensures.shelf.takes in
    record { takes = takes; keeps = takes.keeps; returned = tt }
