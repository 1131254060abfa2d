-- The seats of the nodes of a run, in order, and their locks. A seat that lies behind its lock isn't there.
use Rattle.std.specs.Prelude.{◌≡◌, ◌≤◌, List, length, map, Option, option_map}
use Rattle.seata_types.specs.declared.ids.Place.{Place}
use Rattle.seata_types.specs.declared.limits.TheConstants.{MANAGERS, RESOURCES}
use Rattle.node_steps.specs.Nodes.{NodeState}
use Rattle.node_seat.specs.Seating.{Seated}
use Rattle.run_rounds.specs.declared.seats.Locks.{Locks}
use Rattle.run_rounds.specs.declared.seats.Shared.{Shared}
use Rattle.run_rounds.specs.declared.seats.Seats.{Seats}

-- where the node of a seat stands
abbrev pub node_place : {N : Type 0} → (N → NodeState) → Seated N → Place
node_place state s = (state s.node).place

-- the same, if the seat is there
abbrev pub place_in : {N : Type 0} → (N → NodeState) → Option (Seated N) → Option Place
place_in state seat = option_map (node_place state) seat

-- the same of each seat
abbrev pub places_of : {N : Type 0} → (N → NodeState) → List (Option (Seated N)) → List (Option Place)
places_of state seats = map (place_in state) seats

-- the places of locks
abbrev pub lock_place : {N K : Type 0} → Shared N K → Option Place
lock_place lock = lock.place

abbrev pub lock_places : {N K : Type 0} → List (Shared N K) → List (Option Place)
lock_places locks = map lock_place locks

-- no more resources and managers than a scenario has
pub record AreFew {C S M K : Type 0} (seats : Seats C S M K) : Type 0 where
  pub resources : length seats.resources.items ≤ RESOURCES
  pub managers : length seats.managers.items ≤ MANAGERS

module _ {C S M K : Type 0} (coordinator : C → NodeState) (resource : S → NodeState) (manager : M → NodeState) where
  -- seats are there as others were: as many, and each node stands where that one did
  pub record StandAs (old new : Seats C S M K) : Type 0 where
    pub coordinator_stands : place_in coordinator new.coordinator ≡ place_in coordinator old.coordinator
    pub resources_stand : places_of resource new.resources.items ≡ places_of resource old.resources.items
    pub managers_stand : places_of manager new.managers.items ≡ places_of manager old.managers.items

  -- these are the locks of seats: each has the place of its seat's node
  pub record AreLocksOf (seats : Seats C S M K) (locks : Locks C S M K) : Type 0 where
    pub of_coordinator : place_in coordinator seats.coordinator ≡ locks.coordinator.place
    pub of_resources : places_of resource seats.resources.items ≡ lock_places locks.resources.items
    pub of_managers : places_of manager seats.managers.items ≡ lock_places locks.managers.items
