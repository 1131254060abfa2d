use Rattle.std.proofs.Common.{◌≡◌, ◌∙◌, ◌+◌, inl, inr, ℕ, List, map, length, refl, ap, sym, subst, arith}
use Rattle.seata_types.specs.declared.ids.Place.TheVariants as place
use Rattle.scenario_form.specs.declared.scenarios.ResourceDef.{ResourceDef}
use Rattle.scenario_form.specs.Runnable.{resource_name}
use Rattle.node_seat.specs.Faults.{open_fault}
use Rattle.scenario_nodes.specs.Together.{AreApart, AreSecondNames, GivesBack, HaveBoth, IsOfOne, numbered}
use Rattle.scenario_nodes.proofs.AllLoaded.{IsLoadedAt}
use Rattle.scenario_nodes.proofs.AllStarted.{all_counted, all_disks, all_started, all_up, starting_stops}
use Rattle.scenario_nodes.proofs.Apart.{servers_apart}
use Rattle.scenario_nodes.proofs.Numbered.{length_numbered, names_numbered}
use Rattle.scenario_nodes.proofs.Returned.{all_same, keeps_then}
use Rattle.scenario_nodes.proofs.Together.{each_length, have_still, returned_all}
use Rattle.scenario_nodes.proofs.openings.open_resources.Goals as goal

pub load_resources-requires-clause-runnable : goal.load_resources-requires-clause-runnable
load_resources-requires-clause-runnable g c κs within = c.requires.runnable

pub load_resources-requires-clause-seconds : goal.load_resources-requires-clause-seconds
load_resources-requires-clause-seconds g c κs within = c.requires.seconds

pub load_resources-requires-clause-none : goal.load_resources-requires-clause-none
load_resources-requires-clause-none g c κs within = c.requires.none_loaded

pub load_resources-requires-clause-room : goal.load_resources-requires-clause-room
load_resources-requires-clause-room g c κs within = c.requires.room_loaded

pub returns-in-Err-clause-refused : goal.returns-in-Err-clause-refused
returns-in-Err-clause-refused g c = λ held. inl (c.in-Err.ensures.refused held)

pub returns-in-Err-clause-shelf : goal.returns-in-Err-clause-shelf
returns-in-Err-clause-shelf g c = let shelf = c.in-Err.ensures.shelf in record { takes = tt; keeps = shelf.keeps; returned = shelf.returned }

pub start_resources-requires-clause-up : goal.start_resources-requires-clause-up
start_resources-requires-clause-up g c = all_up g.H.D.Disk.state (g.H.Shelf.state c.args.shelf.now) c.args.scenario.now (numbered 1 c.args.scenario.now.resources) c.in-Ok.loaded.items c.in-Ok.ensures.loaded

pub start_resources-requires-clause-room : goal.start_resources-requires-clause-room
start_resources-requires-clause-room g c =
    let s = c.args.scenario.now in
    let numbers = length_numbered 1 s.resources in
    let each = each_length (IsLoadedAt g.H.D.Disk.state (g.H.Shelf.state c.args.shelf.now) s) (numbered 1 s.resources) c.in-Ok.loaded.items c.in-Ok.ensures.loaded in
    let loaded = c.in-Ok.loaded.ok.0 in
    let started = c.args.started.ok.0 in
    let none = ap length c.requires.none_started in
    let room = c.requires.room_started in
    omega (arith, numbers, each, loaded, started, none, room)

pub returns-in-Ok-start_resources-clause-new : goal.returns-in-Ok-start_resources-clause-new
returns-in-Ok-start_resources-clause-new g c =
    let s = c.args.scenario.now in
    all_started g.H.D.Disk.state (g.H.Shelf.state c.args.shelf.now) s (numbered 1 s.resources) c.in-Ok.loaded.items c.start_resources.new.started.items c.in-Ok.ensures.loaded c.in-Ok-start_resources.ensures

pub returns-in-Ok-start_resources-clause-shelf : goal.returns-in-Ok-start_resources-clause-shelf
returns-in-Ok-start_resources-clause-shelf g c = let shelf = c.in-Ok.ensures.shelf in record { takes = shelf.takes; keeps = shelf.keeps; returned = tt }

pub overflow_cast-place : goal.overflow_cast-place
overflow_cast-place g c =
    let s = c.args.scenario.now in
    let e = c.in-Err-start_resources in
    let whole = all_counted g.H.D.Disk.state (g.H.Shelf.state c.args.shelf.now) s c.in-Ok.loaded.items c.start_resources.new.loaded.items c.start_resources.new.started.items (e.error, e.first, e.second) c.in-Ok.ensures.loaded e.ensures in
    let few = c.requires.runnable.servers in
    let len = c.len.ensures in
    let items = c.start_resources.new.started.ok.0 in
    omega (arith, whole, few, len, items)

pub overflow_add-place : goal.overflow_add-place
overflow_add-place g c =
    let s = c.args.scenario.now in
    let e = c.in-Err-start_resources in
    let whole = all_counted g.H.D.Disk.state (g.H.Shelf.state c.args.shelf.now) s c.in-Ok.loaded.items c.start_resources.new.loaded.items c.start_resources.new.started.items (e.error, e.first, e.second) c.in-Ok.ensures.loaded e.ensures in
    let few = c.requires.runnable.servers in
    let len = c.len.ensures in
    let items = c.start_resources.new.started.ok.0 in
    omega (arith, whole, few, len, items)

pub close_all-requires-clause-seconds : goal.close_all-requires-clause-seconds
close_all-requires-clause-seconds g c κs within = subst (λ (ds : List ResourceDef). AreSecondNames (map resource_name ds) c.args.seconds.now) (sym c.as_slice-defs.ensures) c.requires.seconds

pub close_all-requires-clause-apart : goal.close_all-requires-clause-apart
close_all-requires-clause-apart g c κs within =
    subst (λ (ds : List ResourceDef). AreApart (map resource_name ds)) (sym c.as_slice-defs.ensures) (servers_apart c.args.scenario.now c.requires.runnable).1

pub close_all-requires-clause-whole : goal.close_all-requires-clause-whole
close_all-requires-clause-whole g c κs within =
    let s = c.args.scenario.now in
    let loaded = c.start_resources.new.loaded.items in
    let started = c.start_resources.new.started.items in
    let e = c.in-Err-start_resources in
    subst (λ (ds : List ResourceDef). length started + 1 + length loaded ≡ length ds) (sym c.as_slice-defs.ensures)
    (all_counted g.H.D.Disk.state (g.H.Shelf.state c.args.shelf.now) s c.in-Ok.loaded.items loaded started (e.error, e.first, e.second) c.in-Ok.ensures.loaded e.ensures)

pub close_all-requires-clause-taken : goal.close_all-requires-clause-taken
close_all-requires-clause-taken g c κs within =
    subst (λ (ds : List ResourceDef). HaveBoth (g.H.Shelf.state c.load_resources.new.shelf) (map resource_name ds)) (sym c.as_slice-defs.ensures) c.in-Ok.ensures.shelf.takes.both

pub returns-in-Err-start_resources-clause-refused : goal.returns-in-Err-start_resources-clause-refused
returns-in-Err-start_resources-clause-refused g c =
    let s = c.args.scenario.now in
    let e = c.in-Err-start_resources in
    let names = map resource_name s.resources in
    let loaded = c.start_resources.new.loaded.items in
    let started = c.start_resources.new.started.items in
    let old = g.H.Shelf.state c.args.shelf.now in
    let mid = g.H.Shelf.state c.load_resources.new.shelf in
    let new = g.H.Shelf.state c.close_all.new.shelf in
    let disks = all_disks started (e.first, e.second) loaded in
    let gives = subst (λ (ds : List ResourceDef). GivesBack (map resource_name ds) disks mid new) c.as_slice-defs.ensures c.close_all.ensures in
    let taken = have_still mid new names (λ name had. (gives.places name).1 had) c.in-Ok.ensures.shelf.takes.both in
    λ held. inr (starting_stops g.H.D.Disk.state old s c.in-Ok.loaded.items loaded started (e.error, e.first, e.second) c.in-Ok.ensures.loaded e.ensures held (IsOfOne names) mid new c.open_fault.result
    (c.open_fault.ensures ∙ ap (λ (n : ℕ). open_fault (place.Res (n + 1)) e.error) (c.len.ensures ∙ c.start_resources.new.started.ok.0)) c.in-Ok.ensures.shelf.keeps
    (subst (HaveBoth new) (sym (names_numbered s held 1 s.resources)) taken) (subst (λ (ns : List (List ℕ)). GivesBack ns disks mid new) (sym (names_numbered s held 1 s.resources)) gives))

pub returns-in-Err-start_resources-clause-shelf : goal.returns-in-Err-start_resources-clause-shelf
returns-in-Err-start_resources-clause-shelf g c =
    let e = c.in-Err-start_resources in
    let names = map resource_name c.args.scenario.now.resources in
    let old = g.H.Shelf.state c.args.shelf.now in
    let mid = g.H.Shelf.state c.load_resources.new.shelf in
    let new = g.H.Shelf.state c.close_all.new.shelf in
    let disks = all_disks c.start_resources.new.started.items (e.first, e.second) c.start_resources.new.loaded.items in
    let gives = subst (λ (ds : List ResourceDef). GivesBack (map resource_name ds) disks mid new) c.as_slice-defs.ensures c.close_all.ensures in
    let takes = c.in-Ok.ensures.shelf.takes in record {
      takes = tt;
      keeps = keeps_then (IsOfOne names) (IsOfOne names) (IsOfOne names) old mid new (λ n its. its) (λ n its. its) takes.keeps gives.keeps;
      returned = returned_all names disks old mid mid new takes refl (all_same mid) gives;
    }
