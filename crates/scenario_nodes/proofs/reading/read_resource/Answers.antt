use Rattle.std.proofs.Common.{◌-◌, ℕ, All, List, refl, sym, subst}
use Rattle.seata_types.specs.declared.ids.Place.TheVariants as place
use Rattle.seata_types.specs.declared.rows.Row.{Row}
use Rattle.scenario_nodes.specs.Calls.{HasTypes}
use Rattle.scenario_nodes.specs.Nodes.{resource_server}
use Rattle.scenario_nodes.specs.Opening.{IsNotHad}
use Rattle.scenario_nodes.specs.Reading.{ReadsResource, SaysResource}
use Rattle.scenario_nodes.specs.Shelves.{AreGivenBack, AreTaken, HasBoth, IsDiskName, ReturnsBut}
use Rattle.disk_model.specs.Shelf.{KeepsOthers}
use Rattle.scenario_nodes.proofs.ReadNode.{node_not_had, node_told, resource_opens_at}
use Rattle.scenario_nodes.proofs.reading.read_resource.Goals as goal

-- its disks weren't had
pub returns-in-Err : goal.returns-in-Err
returns-in-Err g c =
    let s = c.args.scenario.now in
    let n = c.args.number in
    let def = c.args.def.now in
    let state = g.H.D.Disk.state in
    let old = g.H.Shelf.state c.args.shelf.now in
    let new = g.H.Shelf.state c.take_disks.new.shelf in
    let e = c.in-Err.ensures in
    node_not_had state s def.name (λ held. resource_server s held (n, def)) (λ held. refl) (place.Res n) (λ held. refl) (SaysResource s (n, def)) old new (g.met.H.Shelf.lawful c.args.shelf.now) (g.met.H.Shelf.lawful c.take_disks.new.shelf) c.in-Err.fault
    (subst (λ (name : List ℕ). IsNotHad state s.disk (place.Res n) old new name c.in-Err.fault) c.as_str-name.ensures e.refused)
    (subst (λ (name : List ℕ). KeepsOthers (IsDiskName name) old new) c.as_str-name.ensures e.keeps) e.returned

pub read_store-read-requires-clause-typed : goal.read_store-read-requires-clause-typed
read_store-read-requires-clause-typed g c = subst (λ (l : List (List ℕ × Row)). All HasTypes l) c.as_slice.ensures c.tell_rows.ensures

pub returns : goal.returns
returns g c =
    let s = c.args.scenario.now in
    let n = c.args.number in
    let def = c.args.def.now in
    let state = g.H.D.Disk.state in
    let old = g.H.Shelf.state c.args.shelf.now in
    let before = g.H.Shelf.state c.take_disks.new.shelf in
    let after = g.H.Shelf.state c.give_disks.new.shelf in
    let e = c.in-Ok.ensures in
    let gives = c.give_disks.ensures in
    let r = c.read_store-read.result in
    let named = c.as_str-name.ensures in
    let typed = subst (λ (l : List (List ℕ × Row)). All HasTypes l) c.as_slice.ensures c.tell_rows.ensures in
    subst (ReadsResource state s (n, def) old after) (sym c.told.ensures)
    (node_told state s def.name (λ held. resource_server s held (n, def)) (λ held. refl) (λ held. resource_opens_at s c.requires.runnable n (n - 1) def c.requires.there typed) (place.Res n) (λ held. refl) (SaysResource s (n, def)) old before after
    (g.met.H.Shelf.lawful c.args.shelf.now) (g.met.H.Shelf.lawful c.give_disks.new.shelf) c.in-Ok.disks (subst (λ (name : List ℕ). AreTaken state old s.disk name c.in-Ok.disks) named e.taken)
    (subst (HasBoth before) named e.both) (subst (λ (name : List ℕ). KeepsOthers (IsDiskName name) old before) named e.keeps) (subst (λ (name : List ℕ). ReturnsBut (IsDiskName name) old before) named e.out)
    (subst (λ (name : List ℕ). KeepsOthers (IsDiskName name) before after) named gives.keeps) gives.returned r.1 r.2
    (subst (λ (name : List ℕ). AreGivenBack before after name (r.1, r.2)) named gives.back) r.0 c.read_store-read.ensures)
