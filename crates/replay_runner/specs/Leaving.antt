-- What a replay leaves on a shelf: the history, and what the disks that are given back show of it.
use Rattle.std.specs.Prelude.{◌≡◌, ◌⊎◌, ◌+◌, ◌<◌, ◌≤◌, ℕ, zero, suc, IsTrue, List, [], ◌∷◌, length, map, Some, Result, Ok, Err}
use Rattle.disk_model.specs.Disk.{DiskState, Rose}
use Rattle.disk_model.specs.Shelf.{ShelfState}
use Rattle.journal_checkpoint.specs.Images.{Pair}
use Rattle.seata_types.specs.declared.ids.Place.{Place}
use Rattle.seata_types.specs.declared.ids.Place.TheVariants as place
use Rattle.scenario_form.specs.declared.scenarios.Scenario.{Scenario}
use Rattle.durable_records.specs.declared.coordinators.SessionRecord.{SessionRecord}
use Rattle.durable_records.specs.declared.resources.ResourceRecord.{ResourceRecord}
use Rattle.session_store.specs.Standing.{StandsForSessions}
use Rattle.resource_store.specs.Standing.{StandsForRecords}
use Rattle.history_rules.specs.Own.{Own}
use Rattle.history_rules.specs.CoordinatorMemory.{sessions_left}
use Rattle.history_rules.specs.ResourceMemory.{memory}
use Rattle.history_rules.specs.Nodes.{Role, Coordinator, Resource, Manager, MayStand, role_at}
use Rattle.history_rules.specs.Histories.{Moment, own, Legal}
use Rattle.history_rules.specs.Schedules.{Follows}
use Rattle.history_law.specs.ChainSafety.{IsSafeAfterChains}
use Rattle.history_text.specs.declared.entries.Entry.{Entry}
use Rattle.node_steps.specs.Durable.{AreCoordinatorDisks, AreNodeDisks, AreResourceDisks, own_faults}
use Rattle.node_steps.specs.Ends.{AllFit, AreLaid}
use Rattle.history_text.specs.History.{entries, IsRun}
use Rattle.node_steps.specs.Promises.{no_disks}
use Rattle.history_text.specs.Worlds.{items_of, world_of}
use Rattle.node_seat.specs.declared.faults.RunFault.{RunFault}
use Rattle.node_seat.specs.declared.faults.RunFault.TheVariants as fault
use Rattle.scenario_nodes.specs.Nodes.{HaveSize, Held, HoldAll, server_names, servers_of, store_setting}
use Rattle.scenario_nodes.specs.Opening.{NodesNotOpened}
use Rattle.scenario_nodes.specs.Shelves.{AreGivenBack, pair_of}
use Rattle.scenario_nodes.specs.Together.{AreEach, HaveBoth, IsOfOne}
use Rattle.replay_runner.specs.Ends.{IsCause}

-- ---- the disks of nodes in order: the coordinator, and the resources

-- the k-th, counted from 0, of the disks of nodes
abbrev pub nth_pair : List Pair → ℕ → Pair
nth_pair [] k = no_disks
nth_pair (p ∷ ps) zero = p
nth_pair (p ∷ ps) (suc k) = nth_pair ps k

-- the disks of the node at a place, among those of all nodes
abbrev pub disks_in : List Pair → Place → Pair
disks_in disks place.Tc = nth_pair disks 0
disks_in disks (place.Res k) = nth_pair disks k
disks_in disks _ = no_disks

-- the name of a disk of one of the nodes of a scenario
abbrev pub IsServerDisk : Scenario → List ℕ → Type 0
IsServerDisk s = IsOfOne (server_names s)

-- ---- how a replay ends

-- The two disks of a node that a whole history left: each pair of images stands for its records, or for these with the one in flight that
-- may be kept; its counted faults are those of its entries at least; and both have the pick of its last restart.
abbrev pub AreLeft : Role → List Own → Pair → Type 0
AreLeft (Coordinator times past) os disks = AreCoordinatorDisks past os 0 disks
AreLeft (Resource setup past) os disks = AreResourceDisks setup past os 0 disks
AreLeft (Manager settings) os disks = Unit {0}

-- Each pair of images of a node's disks stands for records that its entries may leave, so that an opening takes them: the coordinator's for
-- some numbers of managers and resources.
abbrev pub OpensAgain : Role → List Own → Pair → Type 0
OpensAgain (Coordinator times past) os disks =
    (a b : List ℕ) → disks.first.may_leave a → disks.second.may_leave b
    → (rs : List SessionRecord) × MayStand (sessions_left past os) rs × (managers : ℕ) × (resources : ℕ) × StandsForSessions managers resources rs a b
OpensAgain (Resource setup past) os disks =
    (a b : List ℕ) → disks.first.may_leave a → disks.second.may_leave b → (rs : List ResourceRecord) × MayStand (memory setup past os).left rs × StandsForRecords (store_setting setup) rs a b
OpensAgain (Manager settings) os disks = Unit {0}

-- so it is of each node after a history
abbrev pub AllOpenAgain : Scenario → Held → List Moment → List Pair → Type 0
AllOpenAgain s held ms disks = (p : Place) (role : Role) → role_at (world_of s) held.past p ≡ Some role → OpensAgain role (own p ms) (disks_in disks p)

-- both disks of each of these nodes have the scenario's size
abbrev pub HaveSizes : Scenario → List Pair → Type 0
HaveSizes s disks = (k : ℕ) → k < length disks → HaveSize s.disk (nth_pair disks k)

-- each record that the moments of a scenario's history made, or asked for as a node went down, had a place on its node's disks, by the
-- entries alone
abbrev pub HavePlaces : Scenario → Held → List Moment → Type 0
HavePlaces s held ms = AllFit (world_of s) held.past held.starts s.disk ms

-- on the disks of each node the journal stands where a history leaves it
abbrev pub AreAllLaid : Scenario → Held → List Moment → List Pair → Type 0
AreAllLaid s held ms disks = (p : Place) (role : Role) → role_at (world_of s) held.past p ≡ Some role → AreLaid role (held.starts p) s.disk (own p ms) (disks_in disks p)

-- The history of the whole schedule was made and is safe, these are its entries, and the disks of each node, of the scenario's size, show
-- it. Each record had a place, and the journals end where the entries leave them.
pub record Completed (s : Scenario) (held : Held) (disks : List Pair) (es : List Entry) : Type 0 where
  pub history : List Moment
  pub is_run : IsRun s held.past history
  pub safe : IsSafeAfterChains (world_of s) held.past history
  pub printed : es ≡ entries history
  pub fits : HavePlaces s held history
  pub device : (p : Place) (role : Role) → role_at (world_of s) held.past p ≡ Some role → AreLeft role (own p history) (disks_in disks p)
  pub laid : AreAllLaid s held history disks
  pub opens : AllOpenAgain s held history disks
  pub sized : HaveSizes s disks

-- The replay ended by a fault: the history that it made up to there is legal, safe and follows the schedule, and the disks of each node, of
-- the scenario's size, show its records and counted faults. Each of these records had a place, and the next opening takes them.
pub record Broken (s : Scenario) (held : Held) (disks : List Pair) (missed : RunFault) : Type 0 where
  pub history : List Moment
  pub legal : Legal (world_of s) held.past history
  pub safe : IsSafeAfterChains (world_of s) held.past history
  pub follows : Follows (world_of s) held.past (items_of s) history
  pub fits : HavePlaces s held history
  pub count : length disks ≡ length s.resources + 1
  pub device : (p : Place) (role : Role) → role_at (world_of s) held.past p ≡ Some role → AreNodeDisks role (own p history) (disks_in disks p)
  pub opens : AllOpenAgain s held history disks
  pub sized : HaveSizes s disks
  pub cause : IsCause s held history (disks_in disks) missed

-- a replay that ended since the disks of a node failed: these have counted a fault, whatever they tell
abbrev pub CountsFailure : List Pair → Result (List Entry) RunFault → Type 0
CountsFailure disks (Err (fault.Store at)) = 1 ≤ own_faults (disks_in disks at)
CountsFailure disks _ = Unit {0}

-- what a replay on disks leaves
abbrev pub Leaves : Scenario → Held → List Pair → Result (List Entry) RunFault → Type 0
Leaves s held disks (Ok es) = Completed s held disks es
Leaves s held disks (Err missed) = Broken s held disks missed

-- ---- the shelf

-- these disks were given back: a pair for each node of the scenario, under its name
abbrev pub AreAllBack : {D : Type 0} → (old new : ShelfState D) → Scenario → List (D × D) → Type 0
AreAllBack old new s disks = AreEach (AreGivenBack old new) (server_names s) disks

-- what the disks of all nodes show of how a replay or a run ended
abbrev pub Showing : Type 1
Showing = List Pair → Result (List Entry) RunFault → Type 0

-- The nodes were opened, and went on to the end or until a fault. The disks of all were taken and given back; those that failed counted a
-- fault, and where disks tell their bytes, they show how that ended, over whatever they held before.
pub record GivesBack {D : Type 0} (Shows : Held → Showing) (state : D → DiskState) (old new : ShelfState D) (s : Scenario) (result : Result (List Entry) RunFault) : Type 0 where
  pub disks : List (D × D)
  pub taken : HaveBoth new (server_names s)
  pub back : AreAllBack old new s disks
  pub counted : CountsFailure (map (pair_of state) disks) result
  pub leaves : (held : Held) → HoldAll state old s held → Shows held (map (pair_of state) disks) result

-- the nodes weren't opened, and no entry was made
abbrev pub EndsAtOpening : {D : Type 0} → (D → DiskState) → (old new : ShelfState D) → Scenario → Result (List Entry) RunFault → Type 0
EndsAtOpening state old new s (Ok es) = ⊥
EndsAtOpening state old new s (Err missed) = NodesNotOpened state s (servers_of s) old new missed

-- what a replay or a run does with a shelf
abbrev pub UsesShelf : {D : Type 0} → (Shows : Held → Showing) → (D → DiskState) → (old new : ShelfState D) → Scenario → Result (List Entry) RunFault → Type 0
UsesShelf Shows state old new s result = GivesBack Shows state old new s result ⊎ EndsAtOpening state old new s result

-- what a replay does with it
abbrev pub Replays : {D : Type 0} → (D → DiskState) → (old new : ShelfState D) → Scenario → Result (List Entry) RunFault → Type 0
Replays state old new s result = UsesShelf (Leaves s) state old new s result

-- ---- where nothing fails

-- The shelf tells what was given back to it. In a call it didn't fail, and no disk of a node of the scenario that was given back to it has
-- counted a fault.
pub record IsCalmShelf {D : Type 0} (state : D → DiskState) (s : Scenario) (old new : ShelfState D) : Type 0 where
  pub tells : IsTrue old.tells
  pub shelf : ¬ Rose old.faults new.faults
  pub disks : (name : List ℕ) (disk : D) → IsServerDisk s name → new.given_back name disk → (state disk).counts.faults ≡ 0

-- how a replay ends then: it is done, a record doesn't fit, or memory was refused
abbrev pub IsCalmEnd : Result (List Entry) RunFault → Type 0
IsCalmEnd (Ok es) = Unit {0}
IsCalmEnd (Err (fault.Full at full)) = Unit {0}
IsCalmEnd (Err fault.NoMemory) = Unit {0}
IsCalmEnd (Err missed) = ⊥
