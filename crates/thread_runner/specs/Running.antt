-- What a run on threads leaves: its history, and what the disks that are given back show of it.
use Rattle.std.specs.Prelude.{◌≡◌, ◌+◌, ℕ, true, false, List, length, Some, Result, Ok, Err}
use Rattle.disk_model.specs.Disk.{DiskState}
use Rattle.disk_model.specs.Shelf.{ShelfState}
use Rattle.journal_checkpoint.specs.Images.{Pair}
use Rattle.seata_types.specs.declared.ids.Place.{Place}
use Rattle.seata_types.specs.declared.ids.Place.TheVariants as place
use Rattle.seata_types.specs.declared.messages.Input.TheVariants as input
use Rattle.durable_records.specs.Members.{In}
use Rattle.scenario_form.specs.declared.scenarios.Scenario.{Scenario}
use Rattle.history_rules.specs.Own.{Event, Given, Restarted}
use Rattle.history_rules.specs.Devices.{is_down}
use Rattle.history_rules.specs.ManagerRules.{Settings}
use Rattle.history_rules.specs.Nodes.{Role, World, Past, counted_at, role_at}
use Rattle.history_rules.specs.Histories.{Moment, Legal, Restart, coordinator_left, own}
use Rattle.history_law.specs.ChainSafety.{IsSafeAfterChains}
use Rattle.node_steps.specs.Durable.{AreNodeDisks}
use Rattle.history_text.specs.declared.entries.Entry.{Entry}
use Rattle.history_text.specs.History.{entries}
use Rattle.history_text.specs.Worlds.{world_of}
use Rattle.coordinator_core.specs.Standing.{unended_sessions}
use Rattle.manager_core.specs.Standing.{is_finished}
use Rattle.trace_rules.specs.Links.{sent_to, with_stamp}
use Rattle.trace_rules.specs.Runs.{FollowsRun, IsBrokenRun}
use Rattle.trace_rules.specs.Stops.{restart_of}
use Rattle.trace_rules.specs.Traces.{at}
use Rattle.node_seat.specs.Faults.{Blames}
use Rattle.node_seat.specs.declared.faults.RunFault.{RunFault}
use Rattle.node_seat.specs.declared.faults.RunFault.TheVariants as fault
use Rattle.scenario_nodes.specs.Nodes.{Held}
use Rattle.replay_runner.specs.Leaving.{AllOpenAgain, AreAllLaid, AreLeft, HavePlaces, HaveSizes, UsesShelf, disks_in}
use Rattle.run_links.specs.Plans.{stops_of}

-- ---- a whole run

-- the coordinator is up; the end of each manager's transaction was answered, or it sent all that it may; and no transaction is unended
pub record HasEnded (w : World) (past : Past) (ms : List Moment) : Type 0 where
  pub up : is_down (own place.Tc ms) ≡ false
  pub managers : (n : ℕ) (m : Settings) → counted_at w.managers n ≡ Some m → is_finished m (own (place.Man n) ms) ≡ true
  pub sessions : unended_sessions (coordinator_left past ms).records ≡ 0

-- a history of a scenario that its nodes made by themselves, to its end, over these records
pub record IsRunOf (s : Scenario) (past : Past) (ms : List Moment) : Type 0 where
  pub legal : Legal (world_of s) past ms
  pub follows : FollowsRun (world_of s) past (stops_of s) ms
  pub ended : HasEnded (world_of s) past ms

-- The run was made and is safe, these are its entries, and the disks of each node, of the scenario's size, show it. Each record had a
-- place, the journals end where the entries leave them, and the next opening takes them.
pub record Completed (s : Scenario) (held : Held) (disks : List Pair) (es : List Entry) : Type 0 where
  pub history : List Moment
  pub is_run : IsRunOf s held.past history
  pub safe : IsSafeAfterChains (world_of s) held.past history
  pub printed : es ≡ entries history
  pub fits : HavePlaces s held history
  pub device : (p : Place) (role : Role) → role_at (world_of s) held.past p ≡ Some role → AreLeft role (own p history) (disks_in disks p)
  pub laid : AreAllLaid s held history disks
  pub opens : AllOpenAgain s held history disks
  pub sized : HaveSizes s disks

-- ---- a run that ended by a fault

-- what may come to the node at a place: a turn, a message that was sent to it, or a restart by its stops
abbrev pub MayCome : Scenario → List Moment → Place → Event → Type 0
MayCome s ms p (Given input.Turn) = Unit {0}
MayCome s ms p (Given (input.Message from heard)) = (stamp : ℕ) × In (with_stamp stamp heard) (sent_to p (at from ms))
MayCome s ms p (Restarted pick calls) = (k : ℕ) × (Restart pick calls ≡ restart_of (stops_of s p) k)
MayCome s ms p event = ⊥

-- These are the disks of each node. Such an event made no entry at the node at a place, for this cause.
pub record StopsAt (s : Scenario) (held : Held) (ms : List Moment) (disks : Place → Pair) (missed : RunFault) : Type 0 where
  pub at_place : Place
  pub role : Role
  pub there : role_at (world_of s) held.past at_place ≡ Some role
  pub now : ℕ
  pub event : Event
  pub comes : MayCome s ms at_place event
  pub blames : Blames at_place role (held.starts at_place) s.disk (own at_place ms) now event (disks at_place) missed

-- why a run ended after these moments; want of memory is free
abbrev pub IsCause : Scenario → Held → List Moment → (disks : Place → Pair) → RunFault → Type 0
IsCause s held ms disks fault.NoMemory = Unit {0}
IsCause s held ms disks missed = StopsAt s held ms disks missed

-- The run ended by a fault: the history that its nodes made up to there is legal and safe, and follows the rules of a run but for messages
-- that weren't taken; and the disks of each node, of the scenario's size, show its records and counted faults. Each of these records had a
-- place, and the next opening takes them.
pub record Broken (s : Scenario) (held : Held) (disks : List Pair) (missed : RunFault) : Type 0 where
  pub history : List Moment
  pub is_run : IsBrokenRun (world_of s) held.past (stops_of s) history
  pub safe : IsSafeAfterChains (world_of s) held.past history
  pub fits : HavePlaces s held history
  pub count : length disks ≡ length s.resources + 1
  pub device : (p : Place) (role : Role) → role_at (world_of s) held.past p ≡ Some role → AreNodeDisks role (own p history) (disks_in disks p)
  pub opens : AllOpenAgain s held history disks
  pub sized : HaveSizes s disks
  pub cause : IsCause s held history (disks_in disks) missed

-- ---- on a shelf

-- what a run on disks leaves
abbrev pub Leaves : Scenario → Held → List Pair → Result (List Entry) RunFault → Type 0
Leaves s held disks (Ok es) = Completed s held disks es
Leaves s held disks (Err missed) = Broken s held disks missed

-- what a run does with a shelf
abbrev pub Runs : {D : Type 0} → (D → DiskState) → (old new : ShelfState D) → Scenario → Result (List Entry) RunFault → Type 0
Runs state old new s result = UsesShelf (Leaves s) state old new s result
