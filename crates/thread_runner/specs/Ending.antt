-- The seats of a run at its end.
use Rattle.std.specs.Prelude.{List, [], ◌∷◌, ◌++◌, map, Option, Some, None}
use Rattle.std.specs.List.{AllByRecursion}
use Rattle.disk_model.specs.Disk.{DiskState}
use Rattle.history_rules.specs.Nodes.{World, Past}
use Rattle.node_steps.specs.Ends.{Starts}
use Rattle.coordinator_core.specs.declared.nodes.Coordinator.{Coordinator}
use Rattle.coordinator_core.specs.Standing as coordinator
use Rattle.resource_core.specs.declared.nodes.Resource.{Resource}
use Rattle.resource_core.specs.NodeStanding as resource
use Rattle.manager_core.specs.declared.nodes.Manager.{Manager}
use Rattle.manager_core.specs.Standing as manager
use Rattle.node_steps.specs.Nodes.{IsLawful, NodeState}
use Rattle.node_seat.specs.Naming.{Run}
use Rattle.node_seat.specs.Running.{KeepsSeat}
use Rattle.node_seat.specs.Seating.{Seated}
use Rattle.scenario_nodes.specs.Nodes.{coordinator_disks, resource_disks}
use Rattle.run_ends.specs.Ending.{Ending, ending_of}
use Rattle.run_rounds.specs.Beginning.{HasBegun}
use Rattle.run_rounds.specs.declared.seats.Seats.{Seats}

-- ---- seats that are there

-- a seat, if it is there
abbrev pub here : {N : Type 0} → Option (Seated N) → List (Seated N)
here None = []
here (Some s) = s ∷ []

-- those that are there, in order
abbrev pub all_here : {N : Type 0} → List (Option (Seated N)) → List (Seated N)
all_here [] = []
all_here (seat ∷ seats) = here seat ++ all_here seats

abbrev pub node_of : {N : Type 0} → Seated N → N
node_of s = s.node

-- ---- what is left of them

-- what is left of a seat without its node
abbrev pub ending_at : {N : Type 0} → (N → NodeState) → Seated N → Ending
ending_at state s = ending_of (state s.node).place s

-- of those that are there
abbrev pub endings_at : {N : Type 0} → (N → NodeState) → List (Option (Seated N)) → List Ending
endings_at state seats = map (ending_at state) (all_here seats)

-- of the seats of all nodes: the coordinator, the resources and the managers
abbrev pub endings : {D K : Type 0} → (D → DiskState) → Seats (Coordinator D) (Resource D) Manager K → List Ending
endings state seats =
    (map (ending_at (coordinator.node_state state)) (here seats.coordinator) ++ endings_at (resource.node_state state) seats.resources.items)
    ++ endings_at manager.node_state seats.managers.items

-- the disks of their nodes, without their stops
abbrev pub seat_disks : {D K : Type 0} → Seats (Coordinator D) (Resource D) Manager K → List (D × D)
seat_disks seats =
    map (λ s. coordinator_disks (node_of s)) (here seats.coordinator) ++ map (λ s. resource_disks (node_of s)) (all_here seats.resources.items)

-- ---- what their types keep

-- a seat of a run, with what its type keeps
pub record Keeps {N : Type 0} (state : N → NodeState) (world : World) (held : Past → Starts → Type 0) (run : Run) (s : Seated N) : Type 0 where
  pub seat : KeepsSeat (state s.node) world held run s
  pub begun : HasBegun s
  pub lawful : IsLawful (state s.node)

-- so each of these
abbrev pub EachKeeps : {N : Type 0} → (N → NodeState) → World → (Past → Starts → Type 0) → Run → List (Option (Seated N)) → Type 0
EachKeeps state world held run seats = AllByRecursion (Keeps state world held run) (all_here seats)

-- so all of a run
pub record AllKeep {D K : Type 0} (state : D → DiskState) (world : World) (held : Past → Starts → Type 0) (run : Run) (seats : Seats (Coordinator D) (Resource D) Manager K) : Type 0 where
  pub coordinator : AllByRecursion (Keeps (coordinator.node_state state) world held run) (here seats.coordinator)
  pub resources : EachKeeps (resource.node_state state) world held run seats.resources.items
  pub managers : EachKeeps manager.node_state world held run seats.managers.items
