-- What opening the nodes of a replay does with a shelf, and playing its schedule.
use Rattle.std.specs.Prelude.{◌≡◌, ◌≤◌, ℕ, List, [], length, map, Result, IfOk, IfErr, String, vec_capacity}
use Rattle.std.specs.declared.alloc.Global.{Global}
use Rattle.disk_model.specs.Disk.{DiskState}
use Rattle.disk_model.specs.Shelf.{KeepsOthers, ShelfState}
use Rattle.seata_types.specs.declared.limits.TheConstants.{LATEST_START}
use Rattle.scenario_form.specs.declared.scenarios.Scenario.{Scenario}
use Rattle.scenario_form.specs.Runnable.{IsRunnable, resource_name}
use Rattle.history_law.specs.MessageSafety.{AreOfResources}
use Rattle.history_text.specs.declared.entries.Entry.{Entry}
use Rattle.history_text.specs.Worlds.{world_of}
use Rattle.node_seat.specs.declared.faults.RunFault.{RunFault}
use Rattle.coordinator_core.specs.Standing.{start_of}
use Rattle.scenario_nodes.specs.Nodes.{Held, server_names, servers_of}
use Rattle.scenario_nodes.specs.Opening.{NodesNotOpened}
use Rattle.scenario_nodes.specs.Shelves.{ReturnsAll, pair_of}
use Rattle.scenario_nodes.specs.Together.{AreSecondNames, TakesOrReturns}
use Rattle.scenario_nodes.specs.Together.{GivesBack as GivesDisks}
use Rattle.replay_runner.specs.declared.closings.Room.{Room}
use Rattle.replay_runner.specs.declared.nodes.Nodes.{Nodes}
use Rattle.replay_runner.specs.Going.{NodesGo}
use Rattle.replay_runner.specs.Leaving.{CountsFailure, IsServerDisk, Showing, UsesShelf}
use Rattle.replay_runner.specs.Opened.{AreNewNodes}
use Rattle.replay_runner.specs.Standing.{AreNodes}

-- the nodes of a scenario can be opened with these names of second disks
pub record CanOpen (s : Scenario) (seconds : List (String Global)) : Type 0 where
  pub runnable : IsRunnable s
  pub named : AreSecondNames (map resource_name s.resources) seconds

-- All nodes were opened, and their disks are out; or they weren't, and all disks that were taken were given back.
pub record OpensNodes {D K : Type 0} (state : D → DiskState) (s : Scenario) (old new : ShelfState D) (result : Result (Nodes D K) RunFault) : Type 0 where
  pub nodes : IfOk result (AreNewNodes state old s)
  pub refused : IfErr result (NodesNotOpened state s (servers_of s) old new)
  pub shelf : TakesOrReturns (server_names s) old new result

-- there is room for so many resources and for their traces, and none is there yet
pub record IsRoom {D : Type 0} (count : ℕ) (room : Room D) : Type 0 where
  pub no_resource : room.resources.items ≡ []
  pub no_trace : room.traces.items ≡ []
  pub resources : count ≤ vec_capacity room.resources
  pub traces : count ≤ vec_capacity room.traces

-- as many nodes as a scenario has, whose first entry can be made, whatever their disks tell
pub record CanBegin {D K : Type 0} (s : Scenario) (n : Nodes D K) : Type 0 where
  pub resources : length n.resources.items ≡ length s.resources
  pub managers : length n.managers.items ≡ length s.managers
  pub goes : NodesGo (length n.managers.items) (length n.resources.items) 1 (start_of n.coordinator.seat.node) n
  pub early : start_of n.coordinator.seat.node ≤ LATEST_START

-- the nodes of a replay that made no entry stand for what their disks held, whose branches are of its resources
pub record BeginOver {D K : Type 0} (state : D → DiskState) (s : Scenario) (n : Nodes D K) (held : Held) : Type 0 where
  pub nodes : AreNodes state s held n []
  pub named : AreOfResources (world_of s) held.past.sessions

-- The disks of all nodes were given back, and nothing else was done. Those that failed counted a fault, and where the nodes began over what
-- their disks held, these show how the replay or run ended.
pub record Closes {D : Type 0} (Begins : Held → Type 0) (Shows : Held → Showing) (state : D → DiskState) (s : Scenario) (old new : ShelfState D) (result : Result (List Entry) RunFault) : Type 0 where
  pub disks : List (D × D)
  pub gives : GivesDisks (server_names s) disks old new
  pub counted : CountsFailure (map (pair_of state) disks) result
  pub leaves : (held : Held) → Begins held → Shows held (map (pair_of state) disks) result

-- what is promised of a replay or a run and its shelf, whatever else holds
pub record RunsOn {D : Type 0} (Shows : Held → Showing) (state : D → DiskState) (s : Scenario) (old new : ShelfState D) (result : Result (List Entry) RunFault) : Type 0 where
  pub uses : UsesShelf Shows state old new s result
  pub returned : ReturnsAll old new
  pub keeps : KeepsOthers (IsServerDisk s) old new
