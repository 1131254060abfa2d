use Rattle.std.proofs.Common.{◌≡◌, ◌∙◌, ◌+◌, ◌≤◌, ◌++◌, ◌∷◌, [], List, Some, ap, arith, false, length, length-append, map, refl, subst, sym, true}
use Rattle.std.proofs.lemmas.List.{length-map}
use Rattle.std.specs.List.{AllByRecursion}
use Rattle.coordinator_core.specs.Standing as coordinator
use Rattle.resource_core.specs.NodeStanding as resource
use Rattle.manager_core.specs.Standing as manager
use Rattle.scenario_nodes.specs.Nodes.{server_names}
use Rattle.scenario_nodes.specs.Together.{GivesBack}
use Rattle.run_ends.specs.Joining.{AreOfRun}
use Rattle.run_ends.specs.Ending.{trace_of}
use Rattle.run_ends.specs.Settled.{AreSettled}
use Rattle.node_steps.specs.Nodes.{IsLawful}
use Rattle.node_seat.specs.Running.{KeepsSeat}
use Rattle.node_seat.specs.Seating.{Seated}
use Rattle.thread_runner.specs.Ending.{Keeps, all_here, ending_at, endings, here, node_of}
use Rattle.thread_runner.proofs.Places.{all_counted, disks_out, endings_in_order, endings_of_run, ends_counted, put_count}
use Rattle.thread_runner.proofs.closings.close.Goals as goal

pub unseated-managers-requires-clause-room : goal.unseated-managers-requires-clause-room
unseated-managers-requires-clause-room g c =
    let first = ap length c.push_reserved.ensures.items ∙ length-append c.args.room.ended.items (c.end_of-coordinator.result.1 ∷ []) in
    let none = ap length c.requires.room.no_end in
    let second = ap length c.unseated-resources.ensures.ended ∙ length-append c.push_reserved.new.self.items _ in
    let servers = ends_counted (resource.node_state g.H.D.Disk.state) false (length c.args.scenario.now.resources) c.args.seats.resources.items c.requires.seats.resources in
    let users = c.requires.seats.managers.count in
    let room = c.requires.room.ended in
    let one = c.push_reserved.ensures.capacity in
    let two = c.unseated-resources.ensures.room in
    omega (arith, first, none, second, servers, users, room, one, two)

pub close_servers-requires-clause-whole : goal.close_servers-requires-clause-whole
close_servers-requires-clause-whole g c κs within =
    ap length c.unseated-resources.ensures.nodes ∙ length-map (all_here c.args.seats.resources.items) node_of
    ∙ put_count (resource.node_state g.H.D.Disk.state) false (length c.args.scenario.now.resources) c.args.seats.resources.items c.requires.seats.resources

pub settle-requires-clause-run : goal.settle-requires-clause-run
settle-requires-clause-run g c past =
    let state = g.H.D.Disk.state in
    let e = c.end_of-coordinator.ensures in
    subst (AreOfRun g.K.RunName.world past)
    (sym (endings_in_order state c.args.scenario.now c.args.seats c.requires.seats c.in-Some.begun c.in-Some.is c.end_of-coordinator.result.1 (e.ended ∙ ap (ending_at (coordinator.node_state state)) c.into_seat.ensures.seat)
    c.args.room.ended.items c.push_reserved.new.self.items c.unseated-resources.new.ended.items c.unseated-managers.new.ended.items c.requires.room.no_end c.push_reserved.ensures.items
    c.unseated-resources.ensures.ended c.unseated-managers.ensures.ended))
    (endings_of_run state c.args.scenario.now c.args.seats c.requires.seats g.K.RunName.world past c.requires.world)

pub settle-requires-clause-room : goal.settle-requires-clause-room
settle-requires-clause-room g c =
    let state = g.H.D.Disk.state in
    let e = c.end_of-coordinator.ensures in
    let same = ap length (endings_in_order state c.args.scenario.now c.args.seats c.requires.seats c.in-Some.begun c.in-Some.is c.end_of-coordinator.result.1
    (e.ended ∙ ap (ending_at (coordinator.node_state state)) c.into_seat.ensures.seat) c.args.room.ended.items c.push_reserved.new.self.items c.unseated-resources.new.ended.items
    c.unseated-managers.new.ended.items c.requires.room.no_end c.push_reserved.ensures.items c.unseated-resources.ensures.ended c.unseated-managers.ensures.ended) in
    let size = all_counted state c.args.scenario.now c.args.seats c.requires.seats in
    let room = c.requires.room.traces in
    omega (arith, same, size, room)

pub returns-in-Some-settle-clause-gives : goal.returns-in-Some-settle-clause-gives
returns-in-Some-settle-clause-gives g c =
    subst (λ (ds : List (g.row.H-D.Denot × g.row.H-D.Denot)). GivesBack (server_names c.args.scenario.now) ds (g.H.Shelf.state c.args.shelf.now) (g.H.Shelf.state c.close_servers.new.shelf))
    (disks_out c.args.seats c.in-Some.begun c.in-Some.is c.end_of-coordinator.result.0 c.unseated-resources.result.items
    (c.end_of-coordinator.ensures.node ∙ ap (λ (x : Seated _). x.node) c.into_seat.ensures.seat) c.unseated-resources.ensures.nodes) c.close_servers.ensures

pub returns-in-Some-settle-clause-keep : goal.returns-in-Some-settle-clause-keep
returns-in-Some-settle-clause-keep g c =
    let state = coordinator.node_state g.H.D.Disk.state in
    let world = g.K.RunName.world in
    let held = g.K.RunName.held in
    let run = g.K.RunName.run in
    let same = c.into_seat.ensures.seat in
    let e = c.end_of-coordinator.ensures in record {
      coordinator = subst (λ o. AllByRecursion (Keeps state world held run) (here o)) (sym c.in-Some.is) (
        record {
          seat = subst (λ (x : Seated _). KeepsSeat (state x.node) world held run x) same e.keeps;
          begun = c.into_seat.ensures.begun;
          lawful = subst (λ (x : Seated _). IsLawful (state x.node)) same e.lawful;
        },
        tt,
      );
      resources = c.unseated-resources.ensures.keep;
      managers = c.unseated-managers.ensures.keep;
    }

pub returns-in-Some-settle-clause-traces : goal.returns-in-Some-settle-clause-traces
returns-in-Some-settle-clause-traces g c =
    let state = g.H.D.Disk.state in
    let e = c.end_of-coordinator.ensures in
    c.in-Some-settle.ensures.traces ∙ ap (map trace_of)
    (endings_in_order state c.args.scenario.now c.args.seats c.requires.seats c.in-Some.begun c.in-Some.is c.end_of-coordinator.result.1 (e.ended ∙ ap (ending_at (coordinator.node_state state)) c.into_seat.ensures.seat)
    c.args.room.ended.items c.push_reserved.new.self.items c.unseated-resources.new.ended.items c.unseated-managers.new.ended.items c.requires.room.no_end c.push_reserved.ensures.items
    c.unseated-resources.ensures.ended c.unseated-managers.ensures.ended)

pub returns-in-Some-settle-clause-settled : goal.returns-in-Some-settle-clause-settled
returns-in-Some-settle-clause-settled g c past =
    let state = g.H.D.Disk.state in
    let e = c.end_of-coordinator.ensures in
    subst (AreSettled g.K.RunName.world past g.K.RunName.run.stops)
    (endings_in_order state c.args.scenario.now c.args.seats c.requires.seats c.in-Some.begun c.in-Some.is c.end_of-coordinator.result.1 (e.ended ∙ ap (ending_at (coordinator.node_state state)) c.into_seat.ensures.seat)
    c.args.room.ended.items c.push_reserved.new.self.items c.unseated-resources.new.ended.items c.unseated-managers.new.ended.items c.requires.room.no_end c.push_reserved.ensures.items
    c.unseated-resources.ensures.ended c.unseated-managers.ensures.ended) (c.in-Some-settle.ensures.settled past)
