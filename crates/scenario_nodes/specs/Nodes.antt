-- The nodes of a scenario, before they did anything.
use Rattle.std.specs.Prelude.{◌≡◌, ◌≤◌, ℕ, List, [], ◌∷◌, length, map}
use Rattle.std.specs.List.{AllByRecursion}
use Rattle.disk_model.specs.Disk.{DiskState}
use Rattle.disk_model.specs.Shelf.{ShelfState}
use Rattle.disk_model.specs.Stop.{below}
use Rattle.journal_checkpoint.specs.Extents.{Extent, extent_of}
use Rattle.journal_checkpoint.specs.Images.{Pair}
use Rattle.journal_checkpoint.specs.Keeping.{first_disk, second_disk}
use Rattle.seata_types.specs.declared.ids.Place.TheVariants as place
use Rattle.seata_types.specs.declared.messages.Input.{Input}
use Rattle.scenario_form.specs.declared.scenarios.ManagerDef.{ManagerDef}
use Rattle.scenario_form.specs.declared.scenarios.ResourceDef.{ResourceDef}
use Rattle.scenario_form.specs.declared.scenarios.Scenario.{Scenario}
use Rattle.scenario_form.specs.Runnable.{IsRunnable, resource_name}
use Rattle.history_rules.specs.Nodes.{Role, Coordinator, Resource, Manager, Past, no_past}
use Rattle.history_rules.specs.ResourceMemory.{Setup as RuleSetup}
use Rattle.node_steps.specs.Ends.{Starts, no_starts}
use Rattle.node_steps.specs.Framing.{ComesFramable}
use Rattle.node_steps.specs.Promises.{AreTold}
use Rattle.history_text.specs.Worlds.{settings_of, setup_of, times_of}
use Rattle.session_store.specs.Keeping.{twin as sessions_twin}
use Rattle.session_store.specs.Standing.{StandsForSessions}
use Rattle.resource_store.specs.Keeping.{StandsAt, twin as store_twin}
use Rattle.resource_store.specs.Meaning.{Opens, Setting, setting}
use Rattle.coordinator_core.specs.declared.nodes.Coordinator.{Coordinator as CoordinatorNode}
use Rattle.seata_types.specs.declared.limits.TheConstants.{LATEST_START, NODE_STEPS}
use Rattle.coordinator_core.specs.Serving.{HasNumbers}
use Rattle.coordinator_core.specs.Standing as coordinator
use Rattle.resource_core.specs.declared.nodes.Resource.{Resource as ResourceNode}
use Rattle.resource_core.specs.declared.opening.Loaded.{Loaded}
use Rattle.resource_core.specs.declared.setup.Setup.{Setup}
use Rattle.resource_core.specs.NodeOpening.{IsLoaded, setup_at}
use Rattle.resource_core.specs.NodeStanding as resource
use Rattle.resource_core.specs.Ready.{Serves}
use Rattle.resource_core.specs.Shown as shown
use Rattle.manager_core.specs.declared.nodes.Manager.{Manager as ManagerNode}
use Rattle.manager_core.specs.Standing as manager
use Rattle.scenario_nodes.specs.declared.servers.Servers.{Servers}
use Rattle.scenario_nodes.specs.Shelves.{AreNext, AreTaken, BlanksTell, coordinator_name, second_name}
use Rattle.scenario_nodes.specs.Together.{AreEach, numbered}

-- ---- what disks held before

-- the records that the disks of the nodes had, and where their journals stood
pub record Held : Type 0 where
  pub past : Past
  pub starts : Starts

-- those of blank disks
abbrev pub none_held : Held
none_held = record { past = no_past; starts = no_starts }

-- ---- roles, over these records

-- the coordinator
abbrev pub coordinator_role : Scenario → Held → Role
coordinator_role s held = Coordinator (times_of s) held.past.sessions

-- the resource of a number
abbrev pub resource_role : Scenario → Held → (number : ℕ) → ResourceDef → Role
resource_role s held n def = Resource (setup_of s n def) (held.past.resource n)

-- the manager of a number
abbrev pub manager_role : Scenario → (number : ℕ) → ManagerDef → Role
manager_role s n def = Manager (settings_of s.lock_tries n def)

-- ---- nodes with disks

-- a node with disks, by the name of the first of them, its role, and where its journal stood
pub record Server : Type 0 where
  pub name : List ℕ
  pub role : Role
  pub start : Extent

-- its name
abbrev pub name_of : Server → List ℕ
name_of server = server.name

-- the coordinator
abbrev pub coordinator_server : Scenario → Held → Server
coordinator_server s held = record { name = coordinator_name; role = coordinator_role s held; start = held.starts place.Tc }

-- the resource with a number
abbrev pub resource_server : Scenario → Held → ℕ × ResourceDef → Server
resource_server s held one = record { name = one.1.name; role = resource_role s held one.0 one.1; start = held.starts (place.Res one.0) }

-- all resources, in order
abbrev pub resource_servers : Scenario → Held → List Server
resource_servers s held = map (resource_server s held) (numbered 1 s.resources)

-- the coordinator, and the resources in order
abbrev pub servers_of : Scenario → Held → List Server
servers_of s held = coordinator_server s held ∷ resource_servers s held

-- their names
abbrev pub server_names : Scenario → List (List ℕ)
server_names s = coordinator_name ∷ map resource_name s.resources

-- ---- what their disks hold

-- a resource's setting, as its store has it
abbrev pub store_setting : RuleSetup → Setting
store_setting setup = setting setup.number setup.schema setup.opening

-- the bytes of two disks stand for the records of a role, and an opening takes them; their journal stands there
abbrev pub StandAs : Scenario → Role → (start : Extent) → (a b : List ℕ) → Type 0
StandAs s (Coordinator times past) start a b = (h : StandsForSessions (length s.managers) (length s.resources) past a b) × (extent_of h.found ≡ start)
StandAs s (Resource setup past) start a b = Opens (store_setting setup) → StandsAt (store_setting setup) past start a b
StandAs s (Manager settings) start a b = Unit {0}

-- the two disks of a node that a shelf gives next tell their bytes, and these stand for its records
pub record Holds {D : Type 0} (state : D → DiskState) (shelf : ShelfState D) (s : Scenario) (server : Server) : Type 0 where
  pub first : List ℕ
  pub second : List ℕ
  pub next : AreNext state shelf s.disk server.name first second
  pub stand : StandAs s server.role server.start first second

-- nothing was given back under the names of these nodes
abbrev pub AreUnused : {D : Type 0} → ShelfState D → List Server → Type 0
AreUnused {D} shelf servers = AllByRecursion (λ v. ((d : D) → ¬ shelf.given_back v.name d) × ((d : D) → ¬ shelf.given_back (second_name v.name) d)) servers

-- the disks of each node tell that they stand for its records; blank ones of an unused shelf do so for none
abbrev pub HoldAll : {D : Type 0} → (D → DiskState) → ShelfState D → Scenario → Held → Type 0
HoldAll state shelf s held = AllByRecursion (Holds state shelf s) (servers_of s held)

-- each shelf that was never used for the nodes of a scenario gives them disks that hold no record, where blank ones tell their bytes
abbrev pub UnusedHoldNone : {D S : Type 0} → (D → DiskState) → (S → ShelfState D) → Type 0
UnusedHoldNone {S = S} state seen =
    (shelf : S) (s : Scenario) → IsRunnable s → BlanksTell state s.disk → AreUnused (seen shelf) (servers_of s none_held) → HoldAll state (seen shelf) s none_held

-- ---- disks

-- both disks have so many bytes
pub record HaveSize (bytes : ℕ) (disks : Pair) : Type 0 where
  pub first : disks.first.size ≡ bytes
  pub second : disks.second.size ≡ bytes

-- the two disks of the coordinator, without their stops
abbrev pub coordinator_disks : {D : Type 0} → CoordinatorNode D → D × D
coordinator_disks c = (below (first_disk (sessions_twin (coordinator.sessions_of c))), below (second_disk (sessions_twin (coordinator.sessions_of c))))

-- those of a resource
abbrev pub resource_disks : {D : Type 0} → ResourceNode D → D × D
resource_disks r = (below (first_disk (store_twin (shown.store_of r))), below (second_disk (store_twin (shown.store_of r))))

-- ---- what the coordinator is given

-- a message that the coordinator of so many managers and resources may hear: the numbers that it names are counted
abbrev pub MayHear : (managers resources : ℕ) → Input → Type 0
MayHear managers resources (Input.Message from heard) = HasNumbers managers resources heard
MayHear managers resources _ = Unit {0}

-- it serves each such input that can be framed
abbrev pub ServesAll : {D : Type 0} → (managers resources : ℕ) → CoordinatorNode D → Type 0
ServesAll managers resources c = (given : Input) → MayHear managers resources given → ComesFramable given → coordinator.serves c given

-- ---- nodes

-- The coordinator of a scenario that did nothing, on disks of a shelf. What it stands for, and where its journal stands, is said of whatever
-- its disks held before, where they tell their bytes.
pub record IsNewCoordinator {D : Type 0} (state : D → DiskState) (shelf : ShelfState D) (s : Scenario) (managers resources : ℕ) (c : CoordinatorNode D) : Type 0 where
  pub stands : (held : Held) → Holds state shelf s (coordinator_server s held) → AreTold (coordinator.disks_of state c) → coordinator.StandsAs state c (coordinator_role s held) []
  pub lies : (held : Held) → Holds state shelf s (coordinator_server s held) → AreTold (coordinator.disks_of state c)
      → coordinator.LiesAs state c (coordinator_role s held) (held.starts place.Tc) s.disk []
  pub told : (held : Held) → Holds state shelf s (coordinator_server s held) → AreTold (coordinator.disks_of state c)
  pub sized : HaveSize s.disk (coordinator.disks_of state c)
  pub steps : coordinator.steps_left c ≡ NODE_STEPS
  pub early : coordinator.start_of c ≤ LATEST_START
  pub serving : ServesAll managers resources c

-- its resource of this number, counted from 1
pub record IsNewResource {D : Type 0} (state : D → DiskState) (shelf : ShelfState D) (s : Scenario) (n : ℕ) (def : ResourceDef) (r : ResourceNode D) : Type 0 where
  pub stands : (held : Held) → Holds state shelf s (resource_server s held (n, def)) → AreTold (shown.disks_of state r) → resource.StandsAs state r (resource_role s held n def) []
  pub lies : (held : Held) → Holds state shelf s (resource_server s held (n, def)) → AreTold (shown.disks_of state r)
      → resource.LiesAs state r (resource_role s held n def) (held.starts (place.Res n)) s.disk []
  pub told : (held : Held) → Holds state shelf s (resource_server s held (n, def)) → AreTold (shown.disks_of state r)
  pub sized : HaveSize s.disk (shown.disks_of state r)
  pub at : shown.stands_at r ≡ place.Res n
  pub steps : shown.steps_left r ≡ NODE_STEPS
  pub serving : (given : Input) → Serves given → resource.serves r given

-- its resource of this number, whose two disks were taken and read, and no boot was written
pub record IsLoadedResource {D : Type 0} (state : D → DiskState) (shelf : ShelfState D) (s : Scenario) (n : ℕ) (def : ResourceDef) (l : Loaded D) : Type 0 where
  pub disks : D × D
  pub taken : AreTaken state shelf s.disk def.name disks
  pub setup : Setup
  pub is : setup_at n setup ≡ setup_of s n def
  pub loaded : IsLoaded state disks.0 disks.1 n setup l

-- its manager of this number
pub record IsNewManager (s : Scenario) (n : ℕ) (def : ManagerDef) (m : ManagerNode) : Type 0 where
  pub stands : manager.StandsAs m (manager_role s n def) []
  pub steps : manager.steps_of m ≡ NODE_STEPS

-- ---- all nodes with disks

-- these are the resources of these numbers, which made no entry
abbrev pub AreNewResources : {D : Type 0} → (D → DiskState) → ShelfState D → Scenario → List (ℕ × ResourceDef) → List (ResourceNode D) → Type 0
AreNewResources state shelf s defs resources = AreEach (λ one r. IsNewResource state shelf s one.0 one.1 r) defs resources

-- all of them were opened on disks of a shelf, and made no entry
pub record AreNewServers {D : Type 0} (state : D → DiskState) (shelf : ShelfState D) (s : Scenario) (servers : Servers D) : Type 0 where
  pub coordinator : IsNewCoordinator state shelf s (length s.managers) (length s.resources) servers.coordinator
  pub resources : AreNewResources state shelf s (numbered 1 s.resources) servers.resources.items

-- their disks, without their stops
abbrev pub server_disks : {D : Type 0} → Servers D → List (D × D)
server_disks servers = coordinator_disks servers.coordinator ∷ map resource_disks servers.resources.items
