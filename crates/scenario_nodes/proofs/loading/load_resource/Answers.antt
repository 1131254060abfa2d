use Rattle.std.proofs.Common.{[], ◌∷◌, List, ℕ, inl, inr, subst}
use Rattle.seata_types.specs.declared.ids.Place.TheVariants as place
use Rattle.node_seat.specs.Faults.{open_fault}
use Rattle.scenario_nodes.specs.Nodes.{resource_server}
use Rattle.scenario_nodes.specs.Opening.{IsNotHad}
use Rattle.scenario_nodes.specs.Shelves.{AreTaken}
use Rattle.scenario_nodes.specs.Together.{Takes}
use Rattle.scenario_nodes.proofs.LoadedResource.{unread}
use Rattle.scenario_nodes.proofs.NotOpened.{unread_back}
use Rattle.scenario_nodes.proofs.Returned.{node_in}
use Rattle.scenario_nodes.proofs.Together.{takes_one}
use Rattle.scenario_nodes.proofs.loading.load_resource.Goals as goal

pub returns-in-Ok-load-clause-loaded : goal.returns-in-Ok-load-clause-loaded
returns-in-Ok-load-clause-loaded g c =
    let d = c.in-Ok-take_disks in record {
      disks = d.disks;
      taken = subst (λ (name : List ℕ). AreTaken g.H.D.Disk.state (g.H.Shelf.state c.args.shelf.now) c.args.scenario.now.disk name d.disks) c.as_str-name.ensures d.ensures.taken;
      setup = c.in-Ok.setup;
      is = c.in-Ok.ensures.setup;
      loaded = c.in-Ok-load.ensures.loaded;
    }

pub returns-in-Ok-load-clause-takes : goal.returns-in-Ok-load-clause-takes
returns-in-Ok-load-clause-takes g c =
    let d = c.in-Ok-take_disks in
    let before = g.H.Shelf.state c.args.shelf.now in
    let after = g.H.Shelf.state c.take_disks.new.shelf in
    subst (λ (name : List ℕ). Takes (name ∷ []) before after) c.as_str-name.ensures (takes_one c.as_str-name.result.now before after d.ensures.both d.ensures.keeps d.ensures.out)

pub returns-in-Err-load-clause-refused : goal.returns-in-Err-load-clause-refused
returns-in-Err-load-clause-refused g c =
    let s = c.args.scenario.now in
    let n = c.args.number in
    let def = c.args.def.now in
    let state = g.H.D.Disk.state in
    let old = g.H.Shelf.state c.args.shelf.now in
    let d = c.in-Ok-take_disks in
    let e = c.in-Err-load in
    let taken = subst (λ (name : List ℕ). AreTaken state old s.disk name d.disks) c.as_str-name.ensures d.ensures.taken in
    λ held. inr (unread_back state s old (g.H.Shelf.state c.take_disks.new.shelf) (g.H.Shelf.state c.give_disks.new.shelf) (resource_server s held (n, def)) c.as_str-name.result.now
    (open_fault (place.Res n) e.error) c.open_fault.result e.first e.other c.as_str-name.ensures d.ensures.both d.ensures.keeps c.give_disks.ensures.keeps c.give_disks.ensures.back c.open_fault.ensures
    (unread state old s n def d.disks taken c.in-Ok.setup c.in-Ok.ensures.setup c.in-Ok.ensures.within (e.error, e.first, e.other) e.ensures.refused held))

-- its disks weren't had
pub returns-in-Err-take_disks-clause-refused : goal.returns-in-Err-take_disks-clause-refused
returns-in-Err-take_disks-clause-refused g c =
    let old = g.H.Shelf.state c.args.shelf.now in
    let new = g.H.Shelf.state c.take_disks.new.shelf in
    λ held. inl (subst (λ (name : List ℕ). IsNotHad g.H.D.Disk.state c.args.scenario.now.disk (place.Res c.args.number) old new name c.in-Err-take_disks.fault) c.as_str-name.ensures c.in-Err-take_disks.ensures.refused)

pub returns-in-Err-load-clause-returned : goal.returns-in-Err-load-clause-returned
returns-in-Err-load-clause-returned g c =
    let e = c.in-Err-load in
    let d = c.in-Ok-take_disks in
    let state = g.H.Shelf.state in
    node_in c.as_str-name.result.now (e.first, e.other) (state c.args.shelf.now) (state c.take_disks.new.shelf) (state c.give_disks.new.shelf) d.ensures.keeps.tells c.give_disks.ensures.keeps.tells
    d.ensures.out c.give_disks.ensures.returned c.give_disks.ensures.back
