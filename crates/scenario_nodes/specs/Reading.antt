-- What the disks of the nodes of a scenario hold, read before any node is opened, and given back.
use Rattle.std.specs.Prelude.{◌≡◌, ◌⊎◌, ℕ, List, [], ◌∷◌, map, Some, Result, Ok, Err, IfOk, IfErr, OnOk, Vec}
use Rattle.std.specs.declared.alloc.Global.{Global}
use Rattle.std.specs.List.{AllByRecursion}
use Rattle.disk_model.specs.Disk.{DiskState, IsSettled, Rose, present}
use Rattle.disk_model.specs.Shelf.{KeepsOthers, ShelfState}
use Rattle.disk_journal.specs.Keeping.{OnlyReads}
use Rattle.memory_store.specs.Keeping.{IsNotFull}
use Rattle.memory_store.specs.Settling.{IsNoDamage}
use Rattle.seata_types.specs.declared.errors.OpenError.{OpenError}
use Rattle.seata_types.specs.declared.errors.OpenError.TheVariants as open_error
use Rattle.seata_types.specs.declared.ids.Place.{Place}
use Rattle.scenario_form.specs.declared.scenarios.ResourceDef.{ResourceDef}
use Rattle.scenario_form.specs.declared.scenarios.Scenario.{Scenario}
use Rattle.scenario_form.specs.Runnable.{resource_name}
use Rattle.durable_records.specs.declared.coordinators.SessionRecord.{SessionRecord}
use Rattle.durable_records.specs.declared.resources.ResourceRecord.{ResourceRecord}
use Rattle.durable_records.specs.SessionOrder.{Allowed}
use Rattle.session_log.specs.SnapshotOf.{snapshot_of}
use Rattle.session_log.specs.declared.sessions.Snapshot.{Snapshot}
use Rattle.resource_memory.specs.Known.{Known, known_of}
use Rattle.resource_store.specs.Meaning.{Setting, opening_of}
use Rattle.resource_store.specs.Standing.{AreMade}
use Rattle.history_rules.specs.Nodes.{Role}
use Rattle.history_text.specs.Worlds.{setup_of}
use Rattle.node_steps.specs.Promises.{place_of}
use Rattle.node_seat.specs.declared.faults.RunFault.{RunFault}
use Rattle.node_seat.specs.declared.faults.RunFault.TheVariants as fault
use Rattle.node_seat.specs.Faults.{open_fault}
use Rattle.scenario_nodes.specs.declared.reading.Memories.{Memories}
use Rattle.scenario_nodes.specs.Nodes.{Held, HoldAll, Holds, Server, StandAs, coordinator_server, resource_server, resource_servers, server_names, servers_of, store_setting}
use Rattle.scenario_nodes.specs.Opening.{HaveDamage, IsBack, IsDamageOf, IsNotLoaded, ShowNoRecord, StopsLoading}
use Rattle.scenario_nodes.specs.Shelves.{AreNext, IsDiskName, IsNext, ReturnsAll}
use Rattle.scenario_nodes.specs.Together.{AreEach, IsOfOne, numbered}

-- ---- what was read

-- this is what these records of a coordinator say, which may come one after the other
pub record IsOfSessions (past : List SessionRecord) (memory : Snapshot) : Type 0 where
  pub is : memory ≡ snapshot_of past
  pub allowed : Allowed past

-- this is what these records of a resource say, which it can have made
pub record IsOfResource (t : Setting) (past : List ResourceRecord) (memory : Known) : Type 0 where
  pub is : memory ≡ known_of (opening_of t) past
  pub made : AreMade t past

-- of the coordinator, and of the resource with a number
abbrev pub SaysSessions : Held → Snapshot → Type 0
SaysSessions held memory = IsOfSessions held.past.sessions memory

abbrev pub SaysResource : Scenario → ℕ × ResourceDef → Held → Known → Type 0
SaysResource s one held memory = IsOfResource (store_setting (setup_of s one.0 one.1)) (held.past.resource one.0) memory

-- of all resources, and of all nodes
abbrev pub SaysResources : Scenario → List (ℕ × ResourceDef) → Held → List Known → Type 0
SaysResources s defs held memories = AreEach (λ one memory. SaysResource s one held memory) defs memories

pub record SaysAll (s : Scenario) (held : Held) (m : Memories) : Type 0 where
  pub sessions : SaysSessions held m.sessions
  pub resources : SaysResources s (numbered 1 s.resources) held m.resources.items

-- ---- damage

-- no damage stands in these bytes of the two disks of a node
abbrev pub AreSound : Scenario → Role → (a b : List ℕ) → Type 0
AreSound s role a b = (damage : OpenError) → HaveDamage s role a b damage → ⊥

-- nor in the bytes of the two disks of a node that a shelf gives next
abbrev pub IsSound : {D : Type 0} → (D → DiskState) → ShelfState D → Scenario → Server → Type 0
IsSound state shelf s v = (a b : List ℕ) → AreNext state shelf s.disk v.name a b → AreSound s v.role a b

-- the place is that of one of these nodes
abbrev pub IsPlaceOf : List Server → Place → Type 0
IsPlaceOf [] at = ⊥
IsPlaceOf (v ∷ vs) at = (at ≡ place_of v.role) ⊎ IsPlaceOf vs at

-- why the disks of these nodes couldn't be read, whatever they tell: those of one weren't had, failed or are damaged, or memory was refused
abbrev pub IsReadFault : List Server → RunFault → Type 0
IsReadFault servers (fault.Store at) = IsPlaceOf servers at
IsReadFault servers (fault.Damaged at second offset) = IsPlaceOf servers at
IsReadFault servers fault.NoMemory = Unit {0}
IsReadFault servers _ = ⊥

-- ---- two disks

-- The two disks of a node at a place were read, and come back with no byte changed. What is said of the records that their bytes stand for
-- holds of what was read, and no damage stands in what was; bytes that stand for records are never damaged; and damage is where the bytes
-- have it.
pub record ReadsTwo {D K : Type 0} (state : D → DiskState) (s : Scenario) (server : Held → Server) (Says : Held → K → Type 0) (at : Place) (one two : D) (result : Result K OpenError × D × D) : Type 0 where
  pub says : IfOk result.0 (λ memory. (held : Held) (a b : List ℕ) → present (state one) ≡ Some a → present (state two) ≡ Some b → StandAs s (server held).role (server held).start a b → Says held memory)
  pub sound : OnOk result.0 ((held : Held) (a b : List ℕ) → present (state one) ≡ Some a → present (state two) ≡ Some b → AreSound s (server held).role a b)
  pub damaged : IfErr result.0 (λ e. (held : Held) (a b : List ℕ) → present (state one) ≡ Some a → present (state two) ≡ Some b → IsDamageOf s (server held).role a b (open_fault at e))
  pub recovers : IfErr result.0 (λ e. (held : Held) (a b : List ℕ) → present (state one) ≡ Some a → present (state two) ≡ Some b → StandAs s (server held).role (server held).start a b → IsNoDamage e)
  pub not_full : IfErr result.0 IsNotFull
  pub failed : IfErr result.0 (λ e. e ≡ open_error.Failed → Rose (state one).counts.faults (state result.1).counts.faults ⊎ Rose (state two).counts.faults (state result.2).counts.faults)
  pub first_reads : OnlyReads (state one) (state result.1)
  pub second_reads : OnlyReads (state two) (state result.2)

-- what was read, or the fault of the node at a place
abbrev pub told_at : {K : Type 0} → Place → Result K OpenError → Result K RunFault
told_at at (Ok memory) = Ok memory
told_at at (Err e) = Err (open_fault at e)

-- ---- the disks of nodes on a shelf

-- Both disks of a node were taken, read and given back: they show no new record, and the shelf gives next the bytes that it gave before.
pub record IsReadBack {D : Type 0} (state : D → DiskState) (s : Scenario) (old new : ShelfState D) (v : Server) : Type 0 where
  pub back : IsBack (ShowNoRecord state s old) old new v
  pub next : (a b : List ℕ) → AreNext state old s.disk v.name a b → AreNext state new s.disk v.name a b

-- Under each name a shelf gives next the bytes of a disk that it gave before, where that tells them; and of a disk that was given back there
-- since, a crash leaves no others.
pub record GivesStill {D : Type 0} (state : D → DiskState) (size : ℕ) (old new : ShelfState D) : Type 0 where
  pub next : (name x : List ℕ) → IsNext state old size name x → IsNext state new size name x
  pub settled : (name : List ℕ) (d : D) → new.given_back name d → old.given_back name d ⊎ IsSettled (state d)

-- The disks of the node with a name were read so, and no damage stands in what they tell; or they weren't had, or couldn't be read,
-- and were given back.
pub record ReadsNode {D K : Type 0} (state : D → DiskState) (s : Scenario) (name : List ℕ) (server : Held → Server) (Says : Held → K → Type 0) (old new : ShelfState D) (result : Result K RunFault) : Type 0 where
  pub says : IfOk result (λ memory. (held : Held) → Holds state old s (server held) → Says held memory)
  pub sound : OnOk result ((held : Held) → IsSound state old s (server held))
  pub back : OnOk result ((held : Held) → IsReadBack state s old new (server held))
  pub refused : IfErr result (λ missed. (held : Held) → IsNotLoaded state s old new (server held) missed)
  pub cause : IfErr result (λ missed. (held : Held) → IsReadFault (server held ∷ []) missed)
  pub still : GivesStill state s.disk old new
  pub keeps : KeepsOthers (IsDiskName name) old new
  pub returned : ReturnsAll old new

-- The same of several nodes with these names, one after the other. Where one isn't read those before it were, and those behind it weren't
-- asked for.
pub record ReadsNodes {D K : Type 0} (state : D → DiskState) (s : Scenario) (names : List (List ℕ)) (servers : Held → List Server) (Says : Held → K → Type 0) (old new : ShelfState D) (result : Result K RunFault) : Type 0 where
  pub says : IfOk result (λ memories. (held : Held) → AllByRecursion (Holds state old s) (servers held) → Says held memories)
  pub sound : OnOk result ((held : Held) → AllByRecursion (IsSound state old s) (servers held))
  pub back : OnOk result ((held : Held) → AllByRecursion (IsReadBack state s old new) (servers held))
  pub refused : IfErr result (λ missed. (held : Held) → StopsLoading state s (servers held) old new missed)
  pub cause : IfErr result (λ missed. (held : Held) → IsReadFault (servers held) missed)
  pub still : GivesStill state s.disk old new
  pub keeps : KeepsOthers (IsOfOne names) old new
  pub returned : ReturnsAll old new

-- what reading the disks of the coordinator, of the resource with a number, and of all resources does
abbrev pub ReadsCoordinator : {D : Type 0} → (D → DiskState) → Scenario → (name : List ℕ) → (old new : ShelfState D) → Result Snapshot RunFault → Type 0
ReadsCoordinator state s name old new result = ReadsNode state s name (coordinator_server s) SaysSessions old new result

abbrev pub ReadsResource : {D : Type 0} → (D → DiskState) → Scenario → ℕ × ResourceDef → (old new : ShelfState D) → Result Known RunFault → Type 0
ReadsResource state s one old new result = ReadsNode state s one.1.name (λ held. resource_server s held one) (SaysResource s one) old new result

abbrev pub ReadsResources : {D : Type 0} → (D → DiskState) → Scenario → (old new : ShelfState D) → Result (Vec Known Global) RunFault → Type 0
ReadsResources state s old new result = ReadsNodes state s (map resource_name s.resources) (resource_servers s) (λ held memories. SaysResources s (numbered 1 s.resources) held memories.items) old new result

-- and of all nodes with disks
abbrev pub ReadsServers : {D : Type 0} → (D → DiskState) → Scenario → (old new : ShelfState D) → Result Memories RunFault → Type 0
ReadsServers state s old new result = ReadsNodes state s (server_names s) (servers_of s) (SaysAll s) old new result

-- the disks of all nodes hold what they held
abbrev pub HoldStill : {D : Type 0} → (D → DiskState) → Scenario → (old new : ShelfState D) → Type 0
HoldStill state s old new = (held : Held) → HoldAll state old s held → HoldAll state new s held
