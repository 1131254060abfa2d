use Rattle.std.proofs.Common.{◌≡◌, ⊎_elim, ◌∷◌, [], List, map, length, rules, sym, subst}
use Rattle.scenario_form.specs.declared.scenarios.ResourceDef.{ResourceDef}
use Rattle.scenario_form.specs.Runnable.{resource_name}
use Rattle.scenario_nodes.specs.Nodes.{coordinator_disks, resource_disks}
use Rattle.scenario_nodes.specs.Shelves.{coordinator_name}
use Rattle.scenario_nodes.specs.Together.{AreApart, AreSecondNames, GivesBack, HaveBoth}
use Rattle.scenario_nodes.proofs.Apart.{servers_apart}
use Rattle.scenario_nodes.proofs.Together.{gives_one, gives_then, have_still}
use Rattle.scenario_nodes.proofs.closings.close_servers.Goals as goal

pub close_coordinator-requires : goal.close_coordinator-requires
close_coordinator-requires g c = (search rules, c.requires.taken.0)

pub close_resources-requires-clause-seconds : goal.close_resources-requires-clause-seconds
close_resources-requires-clause-seconds g c κs within = subst (λ (ds : List ResourceDef). AreSecondNames (map resource_name ds) c.args.seconds.now) (sym c.as_slice.ensures) c.requires.seconds

pub close_resources-requires-clause-apart : goal.close_resources-requires-clause-apart
close_resources-requires-clause-apart g c κs within = subst (λ (ds : List ResourceDef). AreApart (map resource_name ds)) (sym c.as_slice.ensures) (servers_apart c.args.scenario.now c.requires.runnable).1

pub close_resources-requires-clause-whole : goal.close_resources-requires-clause-whole
close_resources-requires-clause-whole g c κs within = subst (λ (ds : List ResourceDef). length c.args.servers.resources.items ≡ length ds) (sym c.as_slice.ensures) c.requires.whole

pub close_resources-requires-clause-taken : goal.close_resources-requires-clause-taken
close_resources-requires-clause-taken g c κs within =
    let before = g.H.Shelf.state c.args.shelf.now in
    let now = g.H.Shelf.state c.close_coordinator.new.shelf in
    let names = map resource_name c.args.scenario.now.resources in
    subst (λ (ds : List ResourceDef). HaveBoth now (map resource_name ds)) (sym c.as_slice.ensures) (have_still before now names c.close_coordinator.ensures.keeps.places c.requires.taken.1)

pub returns : goal.returns
returns g c =
    let s = c.args.scenario.now in
    let servers = c.args.servers in
    let before = g.H.Shelf.state c.args.shelf.now in
    let now = g.H.Shelf.state c.close_coordinator.new.shelf in
    let after = g.H.Shelf.state c.close_resources.new.shelf in
    let names = map resource_name s.resources in
    let closed = c.close_coordinator.ensures in
    gives_then (coordinator_name ∷ []) names (coordinator_disks servers.coordinator ∷ []) (map resource_disks servers.resources.items) before now after
    (λ n ours. ⊎_elim (λ named. (servers_apart s c.requires.runnable).0 n named) (λ none. absurd none) ours)
    (gives_one coordinator_name (coordinator_disks servers.coordinator) before now closed.back closed.keeps closed.places closed.returned)
    (subst (λ (ds : List ResourceDef). GivesBack (map resource_name ds) (map resource_disks servers.resources.items) now after) c.as_slice.ensures c.close_resources.ensures)
