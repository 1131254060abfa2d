-- How the opening of a node ends that gives no node.
use Rattle.std.specs.Prelude.{◌≡◌, ◌⊎◌, ◌≤◌, ◌++◌, ℕ, List, [], ◌∷◌, length, Err}
use Rattle.std.specs.List.{AllByRecursion}
use Rattle.disk_model.specs.Disk.{DiskState, Rose}
use Rattle.disk_model.specs.Shelf.{IsTaken, SameUnder, ShelfState}
use Rattle.disk_journal.specs.Keeping.{IsFull}
use Rattle.journal_checkpoint.specs.Extents.{Extent, needed}
use Rattle.journal_checkpoint.specs.Images.{Pair}
use Rattle.memory_store.specs.Checkpoints.{checked}
use Rattle.memory_store.specs.Holdings.{memory_on}
use Rattle.resource_log.specs.Records.{record_bytes}
use Rattle.seata_types.specs.declared.errors.Full.{Full}
use Rattle.seata_types.specs.declared.errors.OpenError.{OpenError}
use Rattle.seata_types.specs.declared.errors.OpenError.TheVariants as open_error
use Rattle.seata_types.specs.declared.ids.Place.{Place}
use Rattle.scenario_form.specs.declared.scenarios.Scenario.{Scenario}
use Rattle.history_rules.specs.Nodes.{Role, Coordinator, Resource, Manager}
use Rattle.history_rules.specs.ResourceMemory.{boot_over}
use Rattle.durable_records.specs.declared.coordinators.SessionRecord.{SessionRecord}
use Rattle.session_store.specs.Meaning as sessions
use Rattle.session_store.specs.Standing.{StandsForSessions}
use Rattle.resource_store.specs.Standing.{StandsForRecords}
use Rattle.resource_store.specs.Meaning as store
use Rattle.node_steps.specs.Durable.{AreNodeDisks, own_faults}
use Rattle.node_steps.specs.Ends.{resource_saving}
use Rattle.node_steps.specs.Promises.{BootHasNoPlace, place_of}
use Rattle.node_seat.specs.declared.faults.RunFault.{RunFault}
use Rattle.node_seat.specs.declared.faults.RunFault.TheVariants as fault
use Rattle.scenario_nodes.specs.Nodes.{HaveSize, Held, Holds, Server, store_setting}
use Rattle.scenario_nodes.specs.Shelves.{AreGivenBack, AreNext, HasBoth, IsGivenIn, pair_of, second_name}

-- a disk wasn't had for the node at a place: the shelf failed, or memory was refused
abbrev pub IsShelfFault : {D : Type 0} → Place → (old new : ShelfState D) → RunFault → Type 0
IsShelfFault at old new (fault.Store p) = (p ≡ at) × Rose old.faults new.faults
IsShelfFault at old new fault.NoMemory = Unit {0}
IsShelfFault at old new _ = ⊥

-- the bytes of two disks stand for these records of a coordinator, of some numbers of managers and resources, so that an opening takes them
abbrev pub HoldSessions : List SessionRecord → (a b : List ℕ) → Type 0
HoldSessions past a b = (managers : ℕ) × (resources : ℕ) × StandsForSessions managers resources past a b

-- the two disks of a node that made no entry: each pair of images stands for the records of before, or for these and a resource's boot
abbrev pub HaveNoEntry : Role → Pair → Type 0
HaveNoEntry (Coordinator times past) disks = (a b : List ℕ) → disks.first.may_leave a → disks.second.may_leave b → HoldSessions past a b
HaveNoEntry (Resource setup past) disks =
    (a b : List ℕ) → disks.first.may_leave a → disks.second.may_leave b
    → StandsForRecords (store_setting setup) past a b ⊎ StandsForRecords (store_setting setup) (boot_over past ∷ past) a b
HaveNoEntry (Manager settings) disks = Unit {0}

-- the two disks of a node that wrote no record: each pair of images stands for those of before
abbrev pub HaveNoRecord : Role → Pair → Type 0
HaveNoRecord (Coordinator times past) disks = (a b : List ℕ) → disks.first.may_leave a → disks.second.may_leave b → HoldSessions past a b
HaveNoRecord (Resource setup past) disks = (a b : List ℕ) → disks.first.may_leave a → disks.second.may_leave b → StandsForRecords (store_setting setup) past a b
HaveNoRecord (Manager settings) disks = Unit {0}

-- the boot of an opening, where the journal stood there on two disks of this size, would end behind the last byte, with both numbers
abbrev pub BootIsOver : Role → (start : Extent) → (size : ℕ) → Full → Type 0
BootIsOver (Resource setup past) start size full = IsFull (needed (checked size (resource_saving setup past) start) (length (record_bytes (boot_over past)))) size full
BootIsOver _ start size full = ⊥

-- Why a node wasn't opened on two disks of so many bytes that stood for its records, as these show it now: a fault of theirs was counted; a
-- resource's boot has no place, by lengths alone and on the disks; or memory was refused. Such disks are never damaged.
abbrev pub IsOpenFault : Server → (bytes : ℕ) → (disks : Pair) → RunFault → Type 0
IsOpenFault v bytes disks (fault.Store at) = (at ≡ place_of v.role) × (1 ≤ own_faults disks)
IsOpenFault v bytes disks (fault.Full at full) = (at ≡ place_of v.role) × BootIsOver v.role v.start bytes full × BootHasNoPlace v.role disks bytes full
IsOpenFault v bytes disks (fault.Damaged at second offset) = ⊥
IsOpenFault v bytes disks fault.Other = ⊥
IsOpenFault v bytes disks fault.NoMemory = Unit {0}

-- Why the node at a place wasn't opened on its two disks, whatever they tell: they failed and counted a fault, its boot has no place, or they
-- are damaged; or memory was refused.
abbrev pub IsItsFault : Place → (disks : Pair) → RunFault → Type 0
IsItsFault at disks (fault.Store place) = (place ≡ at) × (1 ≤ own_faults disks)
IsItsFault at disks (fault.Full place full) = place ≡ at
IsItsFault at disks (fault.Damaged place second offset) = place ≡ at
IsItsFault at disks fault.Other = ⊥
IsItsFault at disks fault.NoMemory = Unit {0}

-- these bytes of the two disks of a node are damaged, there
abbrev pub HaveDamage : Scenario → Role → (a b : List ℕ) → OpenError → Type 0
HaveDamage s (Coordinator times past) a b damage = memory_on (sessions.meaning_of (length s.managers) (length s.resources)) a b ≡ Err damage
HaveDamage s (Resource setup past) a b damage = memory_on (store.meaning_of (store_setting setup)) a b ≡ Err damage
HaveDamage s (Manager settings) a b damage = ⊥

-- a node's disks are damaged where these bytes of them are, and never another scenario's
abbrev pub IsDamageOf : Scenario → Role → (a b : List ℕ) → RunFault → Type 0
IsDamageOf s role a b (fault.Damaged at second offset) = (at ≡ place_of role) × HaveDamage s role a b (open_error.Damaged second offset)
IsDamageOf s role a b fault.Other = ⊥
IsDamageOf s role a b _ = Unit {0}

-- the same of the bytes of the two disks that a shelf gives next
abbrev pub IsDamageOn : {D : Type 0} → (D → DiskState) → ShelfState D → Scenario → Server → RunFault → Type 0
IsDamageOn state shelf s v missed = (a b : List ℕ) → AreNext state shelf s.disk v.name a b → IsDamageOf s v.role a b missed

-- a node wasn't opened, and its two disks, of so many bytes, show it
pub record IsUnopened (v : Server) (bytes : ℕ) (disks : Pair) (missed : RunFault) : Type 0 where
  pub device : HaveNoEntry v.role disks
  pub cause : IsOpenFault v bytes disks missed

-- no place was made under a name, and what had been given back there still is what was
pub record IsUntouched {D : Type 0} (old new : ShelfState D) (name : List ℕ) : Type 0 where
  pub not_made : new.has_place name → old.has_place name
  pub same : SameUnder name old new

-- a disk was taken under a name and given back as it was taken
pub record IsBackTaken {D : Type 0} (state : D → DiskState) (bytes : ℕ) (old new : ShelfState D) (name : List ℕ) : Type 0 where
  pub disk : D
  pub back : IsGivenIn old new name disk
  pub taken : IsTaken state (old.given_back name) bytes (state disk)

-- The disks of a node weren't had. Nothing was done under the name of its second one; its first wasn't had, or was given back as it was
-- taken.
pub record IsNotHad {D : Type 0} (state : D → DiskState) (bytes : ℕ) (at : Place) (old new : ShelfState D) (name : List ℕ) (missed : RunFault) : Type 0 where
  pub cause : IsShelfFault at old new missed
  pub first : IsUntouched old new name ⊎ IsBackTaken state bytes old new name
  pub second : IsUntouched old new (second_name name)

-- Both were taken and given back. Whatever they tell, the fault is one of theirs, and counted if they failed. They are damaged where the bytes
-- are that they told, and show the rest where these stand for the node's records.
pub record IsReturned {D : Type 0} (state : D → DiskState) (s : Scenario) (old new : ShelfState D) (v : Server) (missed : RunFault) : Type 0 where
  pub disks : D × D
  pub taken : HasBoth new v.name
  pub back : AreGivenBack old new v.name disks
  pub sized : HaveSize s.disk (pair_of state disks)
  pub blames : IsItsFault (place_of v.role) (pair_of state disks) missed
  pub damaged : IsDamageOn state old s v missed
  pub unopened : Holds state old s v → IsUnopened v s.disk (pair_of state disks) missed

-- a node wasn't opened: its disks weren't had, or were given back
abbrev pub IsNotOpened : {D : Type 0} → (D → DiskState) → Scenario → (old new : ShelfState D) → Server → RunFault → Type 0
IsNotOpened state s old new v missed = IsNotHad state s.disk (place_of v.role) old new v.name missed ⊎ IsReturned state s old new v missed

-- ---- all nodes with disks

-- what a node's disks show: so many bytes, and where they told that they stood for the node's records, no other one
abbrev pub ShowNoRecord : {D : Type 0} → (D → DiskState) → Scenario → (old : ShelfState D) → Server → D × D → Type 0
ShowNoRecord state s old v disks = HaveSize s.disk (pair_of state disks) × (Holds state old s v → HaveNoRecord v.role (pair_of state disks))

-- or the records of a node that made no entry: a resource's boot on those of before
abbrev pub ShowNoEntry : {D : Type 0} → (D → DiskState) → Scenario → (old : ShelfState D) → Server → D × D → Type 0
ShowNoEntry state s old v disks = HaveSize s.disk (pair_of state disks) × (Holds state old s v → AreNodeDisks v.role [] (pair_of state disks) × HaveNoEntry v.role (pair_of state disks))

-- both disks of a node were taken and given back, and show something of it
pub record IsBack {D : Type 0} (Show : Server → D × D → Type 0) (old new : ShelfState D) (v : Server) : Type 0 where
  pub disks : D × D
  pub taken : HasBoth new v.name
  pub back : AreGivenBack old new v.name disks
  pub shows : Show v disks

-- why two disks that stood for the records of their node couldn't be read: a fault of theirs was counted, or memory was refused
abbrev pub IsLoadFault : Place → (disks : Pair) → RunFault → Type 0
IsLoadFault at disks (fault.Store place) = (place ≡ at) × (1 ≤ own_faults disks)
IsLoadFault at disks fault.NoMemory = Unit {0}
IsLoadFault at disks _ = ⊥

-- why a node wasn't loaded, as its disks show it, which were given back
pub record ShowsUnread {D : Type 0} (state : D → DiskState) (s : Scenario) (old : ShelfState D) (missed : RunFault) (v : Server) (disks : D × D) : Type 0 where
  pub blames : IsItsFault (place_of v.role) (pair_of state disks) missed
  pub damaged : IsDamageOn state old s v missed
  pub cause : Holds state old s v → IsLoadFault (place_of v.role) (pair_of state disks) missed
  pub unwritten : ShowNoRecord state s old v disks

-- a node wasn't loaded: its disks weren't had, or couldn't be read
abbrev pub IsNotLoaded : {D : Type 0} → (D → DiskState) → Scenario → (old new : ShelfState D) → Server → RunFault → Type 0
IsNotLoaded state s old new v missed = IsNotHad state s.disk (place_of v.role) old new v.name missed ⊎ IsBack (ShowsUnread state s old missed) old new v

-- nothing was done under the names of a node's disks
abbrev pub IsNotAsked : {D : Type 0} → (old new : ShelfState D) → Server → Type 0
IsNotAsked old new v = IsUntouched old new v.name × IsUntouched old new (second_name v.name)

-- what the disks of a node show whose boot wasn't written: no record, unless they failed at it
abbrev pub ShowNoBoot : {D : Type 0} → (D → DiskState) → Scenario → (old : ShelfState D) → RunFault → Server → D × D → Type 0
ShowNoBoot state s old (fault.Store at) v disks = Unit {0}
ShowNoBoot state s old missed v disks = ShowNoRecord state s old v disks

-- One of these nodes wasn't loaded. Those before it were, those behind it weren't asked for, and none wrote a boot.
pub record StopsLoading {D : Type 0} (state : D → DiskState) (s : Scenario) (servers : List Server) (old new : ShelfState D) (missed : RunFault) : Type 0 where
  pub before : List Server
  pub server : Server
  pub behind : List Server
  pub all : servers ≡ before ++ server ∷ behind
  pub loaded : AllByRecursion (IsBack (ShowNoRecord state s old) old new) before
  pub refused : IsNotLoaded state s old new server missed
  pub not_asked : AllByRecursion (IsNotAsked old new) behind

-- All were loaded, and one didn't write its boot. Those before it did, and those behind it didn't.
pub record StopsStarting {D : Type 0} (state : D → DiskState) (s : Scenario) (servers : List Server) (old new : ShelfState D) (missed : RunFault) : Type 0 where
  pub before : List Server
  pub server : Server
  pub behind : List Server
  pub all : servers ≡ before ++ server ∷ behind
  pub started : AllByRecursion (IsBack (ShowNoEntry state s old) old new) before
  pub refused : IsReturned state s old new server missed
  pub unbooted : ShowNoBoot state s old missed server refused.disks
  pub unwritten : AllByRecursion (IsBack (ShowNoRecord state s old) old new) behind

-- these nodes of a scenario weren't opened, and all disks that were taken were given back
abbrev pub AreNotOpened : {D : Type 0} → (D → DiskState) → Scenario → List Server → (old new : ShelfState D) → RunFault → Type 0
AreNotOpened state s servers old new missed = StopsLoading state s servers old new missed ⊎ StopsStarting state s servers old new missed

-- whatever the disks of the nodes held before
abbrev pub NodesNotOpened : {D : Type 0} → (D → DiskState) → Scenario → (Held → List Server) → (old new : ShelfState D) → RunFault → Type 0
NodesNotOpened state s servers old new missed = (held : Held) → AreNotOpened state s (servers held) old new missed
