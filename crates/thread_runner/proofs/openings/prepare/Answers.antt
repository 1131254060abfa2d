use Rattle.std.proofs.Common.{◌≡◌, ◌∙◌, ◌+◌, ap, arith, false, length, refl, rules, subst, sym, true}
use Rattle.seata_types.specs.declared.ids.Place.TheVariants as place
use Rattle.manager_core.specs.Standing as manager
use Rattle.run_links.specs.Linked.{HasEndsAt}
use Rattle.thread_runner.specs.Ready.{IsRoom}
use Rattle.thread_runner.specs.Seats.{AreOutfits}
use Rattle.thread_runner.proofs.Putting.{are_put, manager_places, managers_counted, managers_sit}
use Rattle.thread_runner.proofs.openings.prepare.Goals as goal

pub outfit_at-requires-clause-ends : goal.outfit_at-requires-clause-ends
outfit_at-requires-clause-ends g c = subst (λ q. HasEndsAt q place.Tc c.args.links.coordinator) (sym c.requires.queue) c.requires.links.coordinator

pub outfits-requires-clause-ends : goal.outfits-requires-clause-ends
outfits-requires-clause-ends g c k l e = subst (λ q. HasEndsAt q (place.Res (k + 1)) l) (sym c.requires.queue) (c.requires.links.resources k l e)

pub outfits-requires-2-clause-ends : goal.outfits-requires-2-clause-ends
outfits-requires-2-clause-ends g c k l e = subst (λ q. HasEndsAt q (place.Man (k + 1)) l) (sym c.requires.queue) (c.requires.links.managers k l e)

pub seats_of-requires-clause-may : goal.seats_of-requires-clause-may
seats_of-requires-clause-may g c =
    let s = c.args.scenario.now in
    managers_sit g.K.RunName.world g.K.RunName.held g.K.RunName.run s c.requires.named c.requires.runnable c.in_ok-made.made.items c.in_ok-given.given.items c.in_ok-made.ensures
    (subst (λ n. AreOutfits s g.K.RunName.run.queue true n c.in_ok-given.given.items) c.requires.links.manager_count c.in_ok-given.ensures)

pub seats_of-requires-clause-room : goal.seats_of-requires-clause-room
seats_of-requires-clause-room g c =
    let size = managers_counted c.args.scenario.now c.in_ok-made.made.items c.in_ok-made.ensures in
    let room = c.in_ok-places.ensures.capacity in
    let users = ap length c.as_slice-users.ensures in
    omega (arith, size, room, users)

pub returns : goal.returns
returns g c =
    let s = c.args.scenario.now in
    let room = c.in_ok-seats.ensures.capacity in
    let servers = ap length c.as_slice-servers.ensures in
    let users = ap length c.as_slice-users.ensures in record {
      coordinator = c.in_ok-coordinator.ensures;
      resources = subst (λ n. AreOutfits s g.K.RunName.run.queue false n c.in_ok-resources.resources.items) c.requires.links.resource_count c.in_ok-resources.ensures;
      no_seat = c.in_ok-seats.ensures.items;
      seats = omega (arith, room, servers);
      managers = are_put manager.node_state true (length s.managers) c.in_ok-made.made.items c.seats_of.result.items c.seats_of.ensures (managers_counted s c.in_ok-made.made.items c.in_ok-made.ensures)
          (manager_places s c.in_ok-made.made.items c.in_ok-made.ensures);
      room = subst (λ n. IsRoom n (length s.managers) c.in_ok-room.room) servers
          (subst (λ n. IsRoom (length c.as_slice-servers.result.now) n c.in_ok-room.room) users c.in_ok-room.ensures);
    }
