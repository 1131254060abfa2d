use Rattle.std.proofs.Common.{◌≡◌, ◌∙◌, OnOk, IfErr, ap, arith, false, true, length, refl, subst, sym}
use Rattle.coordinator_core.specs.Standing as coordinator
use Rattle.resource_core.specs.NodeStanding as resource
use Rattle.run_rounds.specs.Ending.{HaveEnded, HaveStopped}
use Rattle.thread_runner.specs.Seats.{MaySit, begun_at}
use Rattle.thread_runner.proofs.Closed.{closes_done, closes_stopped, closes_without_memory}
use Rattle.thread_runner.proofs.Putting.{first_seats, resources_counted, resources_sit}
use Rattle.thread_runner.proofs.Rounded.{seats_again}
use Rattle.thread_runner.proofs.Sitting.{coordinator_sits}
use Rattle.thread_runner.proofs.runs.run_nodes.Goals as goal

pub seat_of-requires : goal.seat_of-requires
seat_of-requires g c =
    subst (λ n. MaySit g.K.RunName.world g.K.RunName.held g.K.RunName.run (coordinator.node_state g.H.D.Disk.state c.args.servers.coordinator) (begun_at c.args.ready.coordinator n)) (sym c.start-ready.ensures.value)
    (coordinator_sits g.K.RunName.world g.K.RunName.held g.K.RunName.run c.args.scenario.now c.requires.named g.H.D.Disk.state (g.H.Shelf.state c.requires.opened.before) c.requires.opened.disks c.args.servers.coordinator
    c.requires.opened.new.coordinator c.args.ready.coordinator c.requires.ready.coordinator)

pub seats_of-requires-clause-may : goal.seats_of-requires-clause-may
seats_of-requires-clause-may g c =
    resources_sit g.K.RunName.world g.K.RunName.held g.K.RunName.run c.args.scenario.now c.requires.named g.H.D.Disk.state (g.H.Shelf.state c.requires.opened.before) c.requires.opened.disks c.args.servers.resources.items
    c.args.ready.resources.items c.requires.opened.new.resources
    c.requires.ready.resources

pub seats_of-requires-clause-room : goal.seats_of-requires-clause-room
seats_of-requires-clause-room g c =
    let size = resources_counted g.H.D.Disk.state (g.H.Shelf.state c.requires.opened.before) c.args.scenario.now c.args.servers.resources.items c.requires.opened.new.resources in
    let room = c.requires.ready.seats in
    omega (arith, size, room)

pub make_rounds-ended-requires-clause-few : goal.make_rounds-ended-requires-clause-few
make_rounds-ended-requires-clause-few g c κs within =
    let are = (first_seats {K = g.row.K.Denot} g.H.D.Disk.state (g.H.Shelf.state c.requires.opened.before) c.args.scenario.now c.seat_of.result c.args.servers.resources.items
    (record { coordinator = c.seat_of.result; resources = c.seats_of.result; managers = c.args.ready.managers }) refl c.seat_of.ensures c.requires.opened.new.resources c.seats_of.ensures c.requires.ready.managers) in
    let servers = are.resources.count in
    let users = are.managers.count in
    let few = c.requires.runnable.servers in
    let most = c.requires.runnable.few in
    record { resources = omega (arith, servers, few); managers = omega (arith, users, most) }

pub close-traces-requires-clause-seats : goal.close-traces-requires-clause-seats
close-traces-requires-clause-seats g c κs within =
    (seats_again g.H.D.Disk.state c.args.scenario.now (record { coordinator = c.seat_of.result; resources = c.seats_of.result; managers = c.args.ready.managers }) c.make_rounds-ended.new.seats
    c.make_rounds-ended.ensures.placed (first_seats {K = g.row.K.Denot} g.H.D.Disk.state (g.H.Shelf.state c.requires.opened.before) c.args.scenario.now c.seat_of.result c.args.servers.resources.items
    (record { coordinator = c.seat_of.result; resources = c.seats_of.result; managers = c.args.ready.managers }) refl c.seat_of.ensures c.requires.opened.new.resources c.seats_of.ensures c.requires.ready.managers))

pub returns-in-Err : goal.returns-in-Err
returns-in-Err g c =
    closes_stopped g.H.D.Disk.state c.args.scenario.now c.requires.runnable g.K.RunName.held g.K.RunName.run (g.H.Shelf.state c.requires.opened.before) c.requires.opened.disks c.make_rounds-ended.new.seats
    (seats_again g.H.D.Disk.state c.args.scenario.now (record { coordinator = c.seat_of.result; resources = c.seats_of.result; managers = c.args.ready.managers }) c.make_rounds-ended.new.seats
    c.make_rounds-ended.ensures.placed (first_seats {K = g.row.K.Denot} g.H.D.Disk.state (g.H.Shelf.state c.requires.opened.before) c.args.scenario.now c.seat_of.result c.args.servers.resources.items
    (record { coordinator = c.seat_of.result; resources = c.seats_of.result; managers = c.args.ready.managers }) refl c.seat_of.ensures c.requires.opened.new.resources c.seats_of.ensures c.requires.ready.managers)) g.K.RunName.world
    (record { named = c.requires.named; keep = c.close-traces.ensures.keep; settled = c.close-traces.ensures.settled }) (g.H.Shelf.state c.args.shelf.now) (g.H.Shelf.state c.close-traces.new.shelf)
    c.close-traces.ensures.gives
    _ c.in-Err.fault c.in-Err.ensures.stopped

pub returns-in-Ok : goal.returns-in-Ok
returns-in-Ok g c =
    closes_done g.H.D.Disk.state c.args.scenario.now c.requires.runnable g.K.RunName.held g.K.RunName.run (g.H.Shelf.state c.requires.opened.before) c.requires.opened.disks c.make_rounds-ended.new.seats
    (seats_again g.H.D.Disk.state c.args.scenario.now (record { coordinator = c.seat_of.result; resources = c.seats_of.result; managers = c.args.ready.managers }) c.make_rounds-ended.new.seats
    c.make_rounds-ended.ensures.placed (first_seats {K = g.row.K.Denot} g.H.D.Disk.state (g.H.Shelf.state c.requires.opened.before) c.args.scenario.now c.seat_of.result c.args.servers.resources.items
    (record { coordinator = c.seat_of.result; resources = c.seats_of.result; managers = c.args.ready.managers }) refl c.seat_of.ensures c.requires.opened.new.resources c.seats_of.ensures c.requires.ready.managers)) g.K.RunName.world
    (record { named = c.requires.named; keep = c.close-traces.ensures.keep; settled = c.close-traces.ensures.settled }) (g.H.Shelf.state c.args.shelf.now) (g.H.Shelf.state c.close-traces.new.shelf)
    c.close-traces.ensures.gives
    c.in_default.ensures.ended c.close-traces.result c.close-traces.ensures.traces c.in-Ok.history c.in-Ok.ensures

pub returns-in-Err-merge : goal.returns-in-Err-merge
returns-in-Err-merge g c =
    closes_without_memory g.H.D.Disk.state c.args.scenario.now c.requires.runnable g.K.RunName.held g.K.RunName.run (g.H.Shelf.state c.requires.opened.before) c.requires.opened.disks c.make_rounds-ended.new.seats
    (seats_again g.H.D.Disk.state c.args.scenario.now (record { coordinator = c.seat_of.result; resources = c.seats_of.result; managers = c.args.ready.managers }) c.make_rounds-ended.new.seats
    c.make_rounds-ended.ensures.placed (first_seats {K = g.row.K.Denot} g.H.D.Disk.state (g.H.Shelf.state c.requires.opened.before) c.args.scenario.now c.seat_of.result c.args.servers.resources.items
    (record { coordinator = c.seat_of.result; resources = c.seats_of.result; managers = c.args.ready.managers }) refl c.seat_of.ensures c.requires.opened.new.resources c.seats_of.ensures c.requires.ready.managers)) g.K.RunName.world
    (record { named = c.requires.named; keep = c.close-traces.ensures.keep; settled = c.close-traces.ensures.settled }) (g.H.Shelf.state c.args.shelf.now) (g.H.Shelf.state c.close-traces.new.shelf)
    c.close-traces.ensures.gives
