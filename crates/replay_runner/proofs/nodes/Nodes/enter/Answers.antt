use Rattle.std.proofs.Common.{◌-◌, length, refl}
use Rattle.std.proofs.lemmas.Option.{slice_get_read}
use Rattle.std.specs.Vec.{with_item}
use Rattle.seata_types.specs.declared.ids.Place.TheVariants as place
use Rattle.coordinator_core.specs.Standing as coordinator
use Rattle.resource_core.specs.NodeStanding as resource
use Rattle.manager_core.specs.Standing as manager
use Rattle.replay_runner.specs.Standing.{disks_at}
use Rattle.replay_runner.proofs.Entered.{with_coordinator, with_managers, with_resources}
use Rattle.replay_runner.proofs.Entering.{coordinator_can, coordinator_next, event_there, framable_next, manager_can, manager_listed, manager_next, manager_stands, manager_within, resource_can, resource_listed, resource_next, resource_stands, resource_within}
use Rattle.replay_runner.proofs.Failed.{failed_at, resource_set}
use Rattle.replay_runner.proofs.Making.{entered_coordinator, entered_manager, entered_resource}
use Rattle.replay_runner.proofs.NodesGoing.{goes_coordinator, goes_manager, goes_resource}
use Rattle.replay_runner.proofs.nodes.Nodes.enter.Goals as goal

-- the coordinator
pub enter-requires : goal.enter-requires
enter-requires g c = record {
  next = coordinator_next g.D.Disk.state c.args.self.now c.args.stamp c.args.now c.args.place c.args.cause c.args.input c.requires.can;
  can = coordinator_can g.D.Disk.state c.args.self.now c.args.stamp c.args.now c.args.place c.args.cause c.args.input c.requires.can c.in-Tc.is;
  moment = c.requires.can.slow;
  framable = framable_next g.D.Disk.state c.args.self.now c.args.stamp c.args.now c.args.place c.args.cause c.args.input c.requires.can;
}

pub returns-in-Tc-clause-entered : goal.returns-in-Tc-clause-entered
returns-in-Tc-clause-entered g c =
    entered_coordinator g.D.Disk.state c.args.self.now c.enter.new.self c.args.stamp c.args.now c.args.cause c.args.input c.enter.ensures.same c.enter.result c.args.place c.in-Tc.is c.enter.ensures.made

pub returns-in-Tc-clause-failed : goal.returns-in-Tc-clause-failed
returns-in-Tc-clause-failed g c =
    failed_at (disks_at g.D.Disk.state (with_coordinator c.args.self.now c.enter.new.self)) place.Tc (coordinator.node_state g.D.Disk.state c.args.self.now.coordinator.seat.node)
    (coordinator.node_state g.D.Disk.state c.enter.new.self.seat.node) refl refl c.enter.result c.enter.ensures.failed

pub returns-in-Tc-clause-goes : goal.returns-in-Tc-clause-goes
returns-in-Tc-clause-goes g c =
    let event = event_there c.args.stamp c.args.cause c.args.input c.requires.can.comes in
    goes_coordinator g.D.Disk.state (length c.args.self.now.managers.items) (length c.args.self.now.resources.items) c.args.stamp c.args.now c.args.self.now c.requires.can.goes c.args.cause event.0
    c.enter.new.self c.enter.result c.enter.ensures.counted c.enter.ensures.same (c.enter.ensures.made event.0 event.1)

-- a resource
pub enter-requires-in-Res : goal.enter-requires-in-Res
enter-requires-in-Res g c =
    let placed =
    slice_get_read c.args.self.now.resources.items (length c.args.self.now.resources.items) (c.in-Res.n - 1) c.index_mut.result.now refl
    (resource_within g.D.Disk.state c.args.self.now c.args.stamp c.args.now c.args.place c.args.cause c.args.input c.requires.can c.in-Res.n c.in-Res.is) c.index_mut.ensures.value in
    record {
      next = resource_next g.D.Disk.state c.args.self.now c.args.stamp c.args.now c.args.place c.args.cause c.args.input c.requires.can c.in-Res.n c.in-Res.is c.index_mut.result.now placed;
      can = resource_can g.D.Disk.state c.args.self.now c.args.stamp c.args.now c.args.place c.args.cause c.args.input c.requires.can c.in-Res.n c.in-Res.is c.index_mut.result.now placed;
      moment = c.requires.can.slow;
      framable = framable_next g.D.Disk.state c.args.self.now c.args.stamp c.args.now c.args.place c.args.cause c.args.input c.requires.can;
    }

pub returns-in-Res-clause-entered : goal.returns-in-Res-clause-entered
returns-in-Res-clause-entered g c =
    let placed =
    slice_get_read c.args.self.now.resources.items (length c.args.self.now.resources.items) (c.in-Res.n - 1) c.index_mut.result.now refl
    (resource_within g.D.Disk.state c.args.self.now c.args.stamp c.args.now c.args.place c.args.cause c.args.input c.requires.can c.in-Res.n c.in-Res.is) c.index_mut.ensures.value in
    entered_resource g.D.Disk.state c.args.self.now c.in-Res.n c.index_mut.result.now c.enter-in-Res.new.self (with_item c.args.self.now.resources (c.in-Res.n - 1) c.enter-in-Res.new.self) c.args.stamp c.args.now
    c.args.cause c.args.input (resource_listed g.D.Disk.state c.args.self.now c.args.stamp c.args.now c.args.place c.args.cause c.args.input c.requires.can c.in-Res.n c.in-Res.is c.index_mut.result.now placed) refl
    (resource_stands g.D.Disk.state c.args.self.now c.args.stamp c.args.now c.args.place c.args.cause c.args.input c.requires.can c.in-Res.n c.in-Res.is c.index_mut.result.now placed)
    c.enter-in-Res.ensures.same c.enter-in-Res.result c.args.place c.in-Res.is c.enter-in-Res.ensures.made

pub returns-in-Res-clause-failed : goal.returns-in-Res-clause-failed
returns-in-Res-clause-failed g c =
    let placed =
    slice_get_read c.args.self.now.resources.items (length c.args.self.now.resources.items) (c.in-Res.n - 1) c.index_mut.result.now refl
    (resource_within g.D.Disk.state c.args.self.now c.args.stamp c.args.now c.args.place c.args.cause c.args.input c.requires.can c.in-Res.n c.in-Res.is) c.index_mut.ensures.value in
    let changed = with_item c.args.self.now.resources (c.in-Res.n - 1) c.enter-in-Res.new.self in
    failed_at (disks_at g.D.Disk.state (with_resources c.args.self.now changed)) (place.Res c.in-Res.n)
    (resource.node_state g.D.Disk.state c.index_mut.result.now.seat.node) (resource.node_state g.D.Disk.state c.enter-in-Res.new.self.seat.node)
    (resource_stands g.D.Disk.state c.args.self.now c.args.stamp c.args.now c.args.place c.args.cause c.args.input c.requires.can c.in-Res.n c.in-Res.is c.index_mut.result.now placed)
    (resource_set g.D.Disk.state c.args.self.now.resources changed c.in-Res.n c.index_mut.result.now c.enter-in-Res.new.self
    (resource_listed g.D.Disk.state c.args.self.now c.args.stamp c.args.now c.args.place c.args.cause c.args.input c.requires.can c.in-Res.n c.in-Res.is c.index_mut.result.now placed) refl)
    c.enter-in-Res.result c.enter-in-Res.ensures.failed

pub returns-in-Res-clause-goes : goal.returns-in-Res-clause-goes
returns-in-Res-clause-goes g c =
    let event = event_there c.args.stamp c.args.cause c.args.input c.requires.can.comes in
    let placed =
    slice_get_read c.args.self.now.resources.items (length c.args.self.now.resources.items) (c.in-Res.n - 1) c.index_mut.result.now refl
    (resource_within g.D.Disk.state c.args.self.now c.args.stamp c.args.now c.args.place c.args.cause c.args.input c.requires.can c.in-Res.n c.in-Res.is) c.index_mut.ensures.value in
    goes_resource g.D.Disk.state (length c.args.self.now.managers.items) (length c.args.self.now.resources.items) c.args.stamp c.args.now c.args.self.now c.requires.can.goes c.args.cause event.0
    (c.in-Res.n - 1) c.index_mut.result.now c.enter-in-Res.new.self (with_item c.args.self.now.resources (c.in-Res.n - 1) c.enter-in-Res.new.self) placed refl c.enter-in-Res.result
    c.enter-in-Res.ensures.counted c.enter-in-Res.ensures.same (c.enter-in-Res.ensures.made event.0 event.1)

-- a manager
pub enter-requires-in-Man : goal.enter-requires-in-Man
enter-requires-in-Man g c =
    let placed =
    slice_get_read c.args.self.now.managers.items (length c.args.self.now.managers.items) (c.in-Man.n - 1) c.index_mut-in-Man.result.now refl
    (manager_within g.D.Disk.state c.args.self.now c.args.stamp c.args.now c.args.place c.args.cause c.args.input c.requires.can c.in-Man.n c.in-Man.is) c.index_mut-in-Man.ensures.value in
    record {
      next = manager_next g.D.Disk.state c.args.self.now c.args.stamp c.args.now c.args.place c.args.cause c.args.input c.requires.can c.in-Man.n c.in-Man.is c.index_mut-in-Man.result.now placed;
      can = manager_can g.D.Disk.state c.args.self.now c.args.stamp c.args.now c.args.place c.args.cause c.args.input c.requires.can c.in-Man.n c.in-Man.is c.index_mut-in-Man.result.now placed;
      moment = c.requires.can.slow;
      framable = framable_next g.D.Disk.state c.args.self.now c.args.stamp c.args.now c.args.place c.args.cause c.args.input c.requires.can;
    }

pub returns-in-Man-clause-entered : goal.returns-in-Man-clause-entered
returns-in-Man-clause-entered g c =
    let placed =
    slice_get_read c.args.self.now.managers.items (length c.args.self.now.managers.items) (c.in-Man.n - 1) c.index_mut-in-Man.result.now refl
    (manager_within g.D.Disk.state c.args.self.now c.args.stamp c.args.now c.args.place c.args.cause c.args.input c.requires.can c.in-Man.n c.in-Man.is) c.index_mut-in-Man.ensures.value in
    entered_manager g.D.Disk.state c.args.self.now c.in-Man.n c.index_mut-in-Man.result.now c.enter-in-Man.new.self (with_item c.args.self.now.managers (c.in-Man.n - 1) c.enter-in-Man.new.self) c.args.stamp c.args.now
    c.args.cause c.args.input (manager_listed g.D.Disk.state c.args.self.now c.args.stamp c.args.now c.args.place c.args.cause c.args.input c.requires.can c.in-Man.n c.in-Man.is c.index_mut-in-Man.result.now placed) refl
    (manager_stands g.D.Disk.state c.args.self.now c.args.stamp c.args.now c.args.place c.args.cause c.args.input c.requires.can c.in-Man.n c.in-Man.is c.index_mut-in-Man.result.now placed)
    c.enter-in-Man.result c.args.place c.in-Man.is c.enter-in-Man.ensures.made

pub returns-in-Man-clause-failed : goal.returns-in-Man-clause-failed
returns-in-Man-clause-failed g c =
    failed_at (disks_at g.D.Disk.state (with_managers c.args.self.now (with_item c.args.self.now.managers (c.in-Man.n - 1) c.enter-in-Man.new.self)))
    (manager.node_state c.index_mut-in-Man.result.now.seat.node).place (manager.node_state c.index_mut-in-Man.result.now.seat.node) (manager.node_state c.enter-in-Man.new.self.seat.node) refl refl
    c.enter-in-Man.result c.enter-in-Man.ensures.failed

pub returns-in-Man-clause-goes : goal.returns-in-Man-clause-goes
returns-in-Man-clause-goes g c =
    let event = event_there c.args.stamp c.args.cause c.args.input c.requires.can.comes in
    let placed =
    slice_get_read c.args.self.now.managers.items (length c.args.self.now.managers.items) (c.in-Man.n - 1) c.index_mut-in-Man.result.now refl
    (manager_within g.D.Disk.state c.args.self.now c.args.stamp c.args.now c.args.place c.args.cause c.args.input c.requires.can c.in-Man.n c.in-Man.is) c.index_mut-in-Man.ensures.value in
    goes_manager g.D.Disk.state (length c.args.self.now.managers.items) (length c.args.self.now.resources.items) c.args.stamp c.args.now c.args.self.now c.requires.can.goes c.args.cause event.0
    (c.in-Man.n - 1) c.index_mut-in-Man.result.now c.enter-in-Man.new.self (with_item c.args.self.now.managers (c.in-Man.n - 1) c.enter-in-Man.new.self) placed refl c.enter-in-Man.result
    c.enter-in-Man.ensures.counted c.enter-in-Man.ensures.same.same_place (c.enter-in-Man.ensures.made event.0 event.1)
