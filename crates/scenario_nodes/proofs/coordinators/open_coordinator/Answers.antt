use Rattle.std.proofs.Common.{inl, inr, ◌≡◌, ℕ, length, refl, ap, subst}
use Rattle.coordinator_core.specs.Opening.{HandsBack, IsOpened}
use Rattle.seata_types.specs.declared.ids.Place.TheVariants as place
use Rattle.node_seat.specs.Faults.{open_fault}
use Rattle.scenario_nodes.specs.Nodes.{coordinator_server}
use Rattle.scenario_nodes.specs.Shelves.{IsDiskName, coordinator_name}
use Rattle.scenario_nodes.proofs.Holding.{failure_counted}
use Rattle.scenario_nodes.proofs.NotOpened.{handed_back}
use Rattle.scenario_nodes.proofs.OpenedCoordinator.{damaged, opened, sized, unopened}
use Rattle.scenario_nodes.proofs.Returned.{keeps_then, node_in}
use Rattle.scenario_nodes.proofs.coordinators.open_coordinator.Goals as goal

pub returns-in-Ok-opened-clause-new : goal.returns-in-Ok-opened-clause-new
returns-in-Ok-opened-clause-new g c =
    let s = c.args.scenario.now in
    let state = g.H.D.Disk.state in
    let d = c.in-Ok.disks in
    let node = c.in-Ok-opened.coordinator in
    let managed : length c.as_slice.result.now ≡ length s.managers = ap length c.as_slice.ensures in
    let served : length c.as_slice-2.result.now ≡ length s.resources = ap length c.as_slice-2.ensures in
    opened state (g.H.Shelf.state c.args.shelf.now) s d c.in-Ok.ensures.taken node c.in-Ok-opened.ensures.times
    (subst (λ (n : ℕ). IsOpened state d.0 d.1 n (length s.resources) node) managed
    (subst (λ (n : ℕ). IsOpened state d.0 d.1 (length c.as_slice.result.now) n node) served c.in-Ok-opened.ensures.opened))

pub returns-in-Err-opened-clause-refused : goal.returns-in-Err-opened-clause-refused
returns-in-Err-opened-clause-refused g c =
    let s = c.args.scenario.now in
    let state = g.H.D.Disk.state in
    let old = g.H.Shelf.state c.args.shelf.now in
    let d = c.in-Ok.disks in
    let e = c.in-Err-opened in
    let managed : length c.as_slice.result.now ≡ length s.managers = ap length c.as_slice.ensures in
    let served : length c.as_slice-2.result.now ≡ length s.resources = ap length c.as_slice-2.ensures in
    let h = subst (λ (n : ℕ). HandsBack state d.0 d.1 n (length s.resources) (e.error, e.first, e.second)) managed
    (subst (λ (n : ℕ). HandsBack state d.0 d.1 (length c.as_slice.result.now) n (e.error, e.first, e.second)) served e.ensures.refused) in
    λ held. inr (handed_back state s old (g.H.Shelf.state c.take_disks.new.shelf) (g.H.Shelf.state c.give_disks.new.shelf) (coordinator_server s held) coordinator_name (open_fault place.Tc e.error)
    c.open_fault.result e.first e.second refl c.in-Ok.ensures.both c.in-Ok.ensures.keeps c.give_disks.ensures.keeps c.give_disks.ensures.back c.open_fault.ensures
    (sized state old s d c.in-Ok.ensures.taken (e.error, e.first, e.second) h) (failure_counted state place.Tc e.first e.second (state d.0).counts.faults (state d.1).counts.faults e.error h.cause)
    (damaged state old s d c.in-Ok.ensures.taken (e.error, e.first, e.second) h held) (unopened state old s d c.in-Ok.ensures.taken (e.error, e.first, e.second) h held))

pub returns-in-Err-opened-clause-returned : goal.returns-in-Err-opened-clause-returned
returns-in-Err-opened-clause-returned g c =
    let e = c.in-Err-opened in
    let state = g.H.Shelf.state in
    node_in coordinator_name (e.first, e.second) (state c.args.shelf.now) (state c.take_disks.new.shelf) (state c.give_disks.new.shelf) c.in-Ok.ensures.keeps.tells c.give_disks.ensures.keeps.tells
    c.in-Ok.ensures.out c.give_disks.ensures.returned c.give_disks.ensures.back

pub returns-in-Err-opened-clause-keeps : goal.returns-in-Err-opened-clause-keeps
returns-in-Err-opened-clause-keeps g c =
    keeps_then (IsDiskName coordinator_name) (IsDiskName coordinator_name) (IsDiskName coordinator_name) (g.H.Shelf.state c.args.shelf.now) (g.H.Shelf.state c.take_disks.new.shelf)
    (g.H.Shelf.state c.give_disks.new.shelf) (λ n its. its) (λ n its. its) c.in-Ok.ensures.keeps c.give_disks.ensures.keeps

-- its disks weren't had
pub returns-in-Err-clause-refused : goal.returns-in-Err-clause-refused
returns-in-Err-clause-refused g c = λ held. inl c.in-Err.ensures.refused
