use Rattle.std.proofs.Common.{[], ◌∷◌, inl, inr, length, map, ap, sym, subst, arith}
use Rattle.scenario_form.specs.Runnable.{resource_name}
use Rattle.scenario_nodes.specs.Nodes.{coordinator_server, resource_servers, server_names, servers_of}
use Rattle.scenario_nodes.specs.Reading.{ReadsCoordinator, ReadsResources}
use Rattle.scenario_nodes.specs.Shelves.{IsDiskName, coordinator_name}
use Rattle.scenario_nodes.specs.Together.{AreSecondNames, IsOfOne}
use Rattle.scenario_nodes.proofs.AllBack.{first_stops, none_asked}
use Rattle.scenario_nodes.proofs.NewServers.{names_apart}
use Rattle.scenario_nodes.proofs.ReadAll.{both_hold, both_keep, both_read, rest_stops}
use Rattle.scenario_nodes.proofs.ReadSound.{all_sound_before, cause_wider, place_among}
use Rattle.scenario_nodes.proofs.ReadStill.{still_here, still_then}
use Rattle.scenario_nodes.proofs.Returned.{all_after, all_same, keeps_wider}
use Rattle.scenario_nodes.proofs.Together.{takes_none}
use Rattle.scenario_nodes.proofs.reading.read_servers.Goals as goal

-- memory was refused before any disk was asked for
pub returns-in_default : goal.returns-in_default
returns-in_default g c =
    let s = c.args.scenario.now in
    let a = g.H.Shelf.state c.args.shelf.now in record {
      says = tt;
      sound = tt;
      back = tt;
      refused = λ held. none_asked g.H.D.Disk.state s a (coordinator_server s held) (resource_servers s held);
      cause = λ held. tt;
      still = still_here g.H.D.Disk.state s.disk a;
      keeps = keeps_wider (IsOfOne []) (IsOfOne (server_names s)) a a (λ n none. absurd none) (takes_none a).keeps;
      returned = all_same a;
    }

pub returns-in_default-with_capacity : goal.returns-in_default-with_capacity
returns-in_default-with_capacity g c =
    let s = c.args.scenario.now in
    let a = g.H.Shelf.state c.args.shelf.now in record {
      says = tt;
      sound = tt;
      back = tt;
      refused = λ held. none_asked g.H.D.Disk.state s a (coordinator_server s held) (resource_servers s held);
      cause = λ held. tt;
      still = still_here g.H.D.Disk.state s.disk a;
      keeps = keeps_wider (IsOfOne []) (IsOfOne (server_names s)) a a (λ n none. absurd none) (takes_none a).keeps;
      returned = all_same a;
    }

-- the coordinator's disks weren't read
pub returns-in-Err : goal.returns-in-Err
returns-in-Err g c =
    let s = c.args.scenario.now in
    let state = g.H.D.Disk.state in
    let old = g.H.Shelf.state c.args.shelf.now in
    let new = g.H.Shelf.state c.read_coordinator.new.shelf in
    let r = subst (ReadsCoordinator state s coordinator_name old new) c.in-Err.is c.read_coordinator.ensures in record {
      says = tt;
      sound = tt;
      back = tt;
      refused = λ held. first_stops state s old new (coordinator_server s held) (resource_servers s held) c.in-Err.fault (names_apart s held c.requires) r.keeps (r.refused held);
      cause = λ held. cause_wider (coordinator_server s held ∷ []) (servers_of s held) (place_among [] (coordinator_server s held) (resource_servers s held)) c.in-Err.fault (r.cause held);
      still = r.still;
      keeps = keeps_wider (IsDiskName coordinator_name) (IsOfOne (server_names s)) old new (λ n its. inl its) r.keeps;
      returned = r.returned;
    }

pub read_resources-requires-clause-runnable : goal.read_resources-requires-clause-runnable
read_resources-requires-clause-runnable g c κs within = c.requires

pub read_resources-requires-clause-seconds : goal.read_resources-requires-clause-seconds
read_resources-requires-clause-seconds g c κs within =
    subst (λ ds. AreSecondNames (map resource_name ds) c.as_slice.result.now) c.as_slice-defs.ensures (subst (AreSecondNames (map resource_name c.as_slice-defs.result.now)) (sym c.as_slice.ensures.value) c.in-Ok.ensures)

pub read_resources-requires-clause-none : goal.read_resources-requires-clause-none
read_resources-requires-clause-none g c κs within = c.in-Ok-with_capacity.ensures.items

pub read_resources-requires-clause-room : goal.read_resources-requires-clause-room
read_resources-requires-clause-room g c κs within =
    let size = ap length c.as_slice-defs.ensures in
    let room = c.in-Ok-with_capacity.ensures.exact in
    omega (arith, size, room)

pub returns-in-Ok-read_resources : goal.returns-in-Ok-read_resources
returns-in-Ok-read_resources g c =
    let s = c.args.scenario.now in
    let state = g.H.D.Disk.state in
    let old = g.H.Shelf.state c.args.shelf.now in
    let now = g.H.Shelf.state c.read_coordinator.new.shelf in
    let new = g.H.Shelf.state c.read_resources.new.shelf in
    let one = subst (ReadsCoordinator state s coordinator_name old now) c.in-Ok-read_coordinator.is c.read_coordinator.ensures in
    let two = subst (ReadsResources state s now new) c.in-Ok-read_resources.is c.read_resources.ensures in
    let sessions = c.in-Ok-read_coordinator.sessions in record {
      says = λ held holds. record { sessions = one.says held holds.0; resources = two.says held (both_hold state s c.requires old now new sessions one two.keeps held holds.1) };
      sound = λ held. (one.sound held, all_sound_before state s old now one.still (resource_servers s held) (two.sound held));
      back = λ held. both_read state s c.requires old now new sessions one two.keeps held (two.back held);
      refused = tt;
      cause = tt;
      still = still_then state s.disk old now new one.still two.still;
      keeps = both_keep state s c.requires old now new sessions one two.keeps;
      returned = all_after old now new one.keeps.tells one.returned two.returned;
    }

pub returns : goal.returns
returns g c =
    let s = c.args.scenario.now in
    let state = g.H.D.Disk.state in
    let old = g.H.Shelf.state c.args.shelf.now in
    let now = g.H.Shelf.state c.read_coordinator.new.shelf in
    let new = g.H.Shelf.state c.read_resources.new.shelf in
    let one = subst (ReadsCoordinator state s coordinator_name old now) c.in-Ok-read_coordinator.is c.read_coordinator.ensures in
    let two = subst (ReadsResources state s now new) c.in-Err-read_resources.is c.read_resources.ensures in
    let sessions = c.in-Ok-read_coordinator.sessions in record {
      says = tt;
      sound = tt;
      back = tt;
      refused = λ held. rest_stops state s c.requires old now new sessions one two.keeps held c.in-Err-read_resources.fault (two.refused held);
      cause = λ held. cause_wider (resource_servers s held) (servers_of s held) (λ at its. inr its) c.in-Err-read_resources.fault (two.cause held);
      still = still_then state s.disk old now new one.still two.still;
      keeps = both_keep state s c.requires old now new sessions one two.keeps;
      returned = all_after old now new one.keeps.tells one.returned two.returned;
    }
