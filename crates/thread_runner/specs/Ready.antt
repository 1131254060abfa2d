-- What a run has before any disk is taken, and the seats of all its nodes.
use Rattle.std.specs.Prelude.{◌≡◌, ◌+◌, ◌≤◌, ℕ, true, false, List, [], length, vec_capacity}
use Rattle.disk_model.specs.Disk.{DiskState}
use Rattle.atomic_table.specs.Seated.{TableId}
use Rattle.seata_types.specs.declared.ids.Place.{Place}
use Rattle.seata_types.specs.declared.ids.Place.TheVariants as place
use Rattle.scenario_form.specs.declared.scenarios.Scenario.{Scenario}
use Rattle.coordinator_core.specs.declared.nodes.Coordinator.{Coordinator}
use Rattle.coordinator_core.specs.Standing as coordinator
use Rattle.resource_core.specs.declared.nodes.Resource.{Resource}
use Rattle.resource_core.specs.NodeStanding as resource
use Rattle.manager_core.specs.declared.nodes.Manager.{Manager}
use Rattle.manager_core.specs.Standing as manager
use Rattle.run_rounds.specs.declared.seats.Seats.{Seats}
use Rattle.thread_runner.specs.declared.closings.Room.{Room}
use Rattle.thread_runner.specs.declared.openings.Ready.{Ready}
use Rattle.thread_runner.specs.Seats.{AreOutfits, ArePut, IsOutfitAt, IsPutAt}

-- there is room for so many resources and managers, for what is left of their seats and that of the coordinator, and for their traces
pub record IsRoom {D K : Type 0} (servers users : ℕ) (room : Room D K) : Type 0 where
  pub no_resource : room.resources.items ≡ []
  pub no_manager : room.managers.items ≡ []
  pub no_end : room.ended.items ≡ []
  pub no_trace : room.traces.items ≡ []
  pub resources : servers ≤ vec_capacity room.resources
  pub managers : users ≤ vec_capacity room.managers
  pub ended : servers + users + 1 ≤ vec_capacity room.ended
  pub traces : servers + users + 1 ≤ vec_capacity room.traces

-- all that a run of a scenario needs memory for, but its rounds and its history
pub record IsReady {D K : Type 0} (queue : Place → Place → TableId) (s : Scenario) (r : Ready D K) : Type 0 where
  pub coordinator : IsOutfitAt s queue place.Tc r.coordinator
  pub resources : AreOutfits s queue false (length s.resources) r.resources.items
  pub no_seat : r.seats.items ≡ []
  pub seats : length s.resources ≤ vec_capacity r.seats
  pub managers : ArePut manager.node_state true (length s.managers) r.managers.items
  pub room : IsRoom (length s.resources) (length s.managers) r.room

-- the seats of all nodes of a scenario are there, each with its node at its place
pub record AreSeats {D K : Type 0} (state : D → DiskState) (s : Scenario) (seats : Seats (Coordinator D) (Resource D) Manager K) : Type 0 where
  pub coordinator : IsPutAt (coordinator.node_state state) place.Tc seats.coordinator
  pub resources : ArePut (resource.node_state state) false (length s.resources) seats.resources.items
  pub managers : ArePut manager.node_state true (length s.managers) seats.managers.items
