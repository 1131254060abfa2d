-- That calls of a scenario one after the other, on the disks that each gave back, are a chain.
use Rattle.std.specs.Prelude.{◌≡◌, ◌⊎◌, ℕ, IsTrue, List, [], ◌∷◌, map, Result, Ok, Err}
use Rattle.disk_model.specs.Disk.{DiskState}
use Rattle.disk_model.specs.Shelf.{ShelfState}
use Rattle.journal_checkpoint.specs.Images.{Pair}
use Rattle.seata_types.specs.declared.ids.Place.{Place}
use Rattle.scenario_form.specs.declared.scenarios.Scenario.{Scenario}
use Rattle.scenario_form.specs.declared.scenarios.ScheduleItem.{ScheduleItem}
use Rattle.scenario_form.specs.Runnable.{IsRunnable}
use Rattle.history_rules.specs.Histories.{Moment}
use Rattle.history_rules.specs.Chains.{IsChain, MayLeave}
use Rattle.history_rules.specs.Nodes.{Past}
use Rattle.history_law.specs.ChainSafety.{MayFollow}
use Rattle.history_text.specs.declared.entries.Entry.{Entry}
use Rattle.history_text.specs.Worlds.{world_of}
use Rattle.node_seat.specs.declared.faults.RunFault.{RunFault}
use Rattle.scenario_nodes.specs.Nodes.{AreUnused, Held, HoldAll, none_held, servers_of}
use Rattle.scenario_nodes.specs.Opening.{NodesNotOpened}
use Rattle.scenario_nodes.specs.Reading.{GivesStill, HoldStill}
use Rattle.scenario_nodes.specs.Shelves.{BackTell, BlanksTell, pair_of}
use Rattle.replay_runner.specs.Leaving.{GivesBack, Showing, UsesShelf}
use Rattle.replay_runner.specs.Leaving as replayed
use Rattle.thread_runner.specs.Running as ran

-- The disks that a shelf gives next hold records which a history, over those that they held before, may leave. So a call that
-- begins with them goes on with the chain of that history.
pub record GoesOn {D : Type 0} (state : D → DiskState) (shelf : ShelfState D) (s : Scenario) (before : Held) (ms : List Moment) : Type 0 where
  pub next : Held
  pub hold : HoldAll state shelf s next
  pub follows : MayLeave (world_of s) before.past ms next.past

-- the history that a replay made, done or ended by a fault, by what it left; and below that of a run
abbrev pub replayed_history : (s : Scenario) (held : Held) (disks : List Pair) (result : Result (List Entry) RunFault) → replayed.Leaves s held disks result → List Moment
replayed_history s held disks (Ok es) left = left.history
replayed_history s held disks (Err missed) left = left.history

abbrev pub ran_history : (s : Scenario) (held : Held) (disks : List Pair) (result : Result (List Entry) RunFault) → ran.Leaves s held disks result → List Moment
ran_history s held disks (Ok es) left = left.history
ran_history s held disks (Err missed) left = left.history

-- Each call that leaves such disks, of which one can tell its history, goes on, where those that it gave back tell: whatever they held before.
abbrev pub CallsAreChained : {D S : Type 0} → (D → DiskState) → (S → ShelfState D) → (Shows : Scenario → Held → Showing)
    → ((s : Scenario) (held : Held) (disks : List Pair) (result : Result (List Entry) RunFault) → Shows s held disks result → List Moment) → Type 0
CallsAreChained {S = S} state seen Shows history =
    (old new : S) (s : Scenario) (result : Result (List Entry) RunFault) → IsRunnable s → (gives : GivesBack (Shows s) state (seen old) (seen new) s result)
    → BackTell state (seen old) (seen new) → IsTrue (seen new).tells → (held : Held) (holds : HoldAll state (seen old) s held)
    → GoesOn state (seen new) s held (history s held (map (pair_of state) gives.disks) result (gives.leaves held holds))

-- of replays, and of runs
abbrev pub ReplaysAreChained : {D S : Type 0} → (D → DiskState) → (S → ShelfState D) → Type 0
ReplaysAreChained state seen = CallsAreChained state seen replayed.Leaves replayed_history

abbrev pub RunsAreChained : {D S : Type 0} → (D → DiskState) → (S → ShelfState D) → Type 0
RunsAreChained state seen = CallsAreChained state seen ran.Leaves ran_history

-- ---- calls in a row

-- The disks that a shelf gives next hold these records, which a chain of histories of the scenario may leave; an empty one leaves none but
-- boots.
pub record IsAfter {D : Type 0} (state : D → DiskState) (shelf : ShelfState D) (s : Scenario) (chain : List (Past × List Moment)) (held : Held) : Type 0 where
  pub is_chain : IsChain (world_of s) chain
  pub hold : HoldAll state shelf s held
  pub follows : MayFollow (world_of s) chain held.past

-- each call adds its history to the chain
abbrev pub ChainsGrow : {D S : Type 0} → (D → DiskState) → (S → ShelfState D) → (Shows : Scenario → Held → Showing)
    → ((s : Scenario) (held : Held) (disks : List Pair) (result : Result (List Entry) RunFault) → Shows s held disks result → List Moment) → Type 0
ChainsGrow {S = S} state seen Shows history =
    (old new : S) (s : Scenario) (result : Result (List Entry) RunFault) → IsRunnable s → (gives : GivesBack (Shows s) state (seen old) (seen new) s result)
    → BackTell state (seen old) (seen new) → IsTrue (seen new).tells → (chain : List (Past × List Moment)) (held : Held) (after : IsAfter state (seen old) s chain held)
    → (next : Held) × IsAfter state (seen new) s ((held.past, history s held (map (pair_of state) gives.disks) result (gives.leaves held after.hold)) ∷ chain) next

-- the same chain, or it with one history more
abbrev pub IsOrLonger : (chain longer : List (Past × List Moment)) → Type 0
IsOrLonger chain longer = (longer ≡ chain) ⊎ (past : Past) × (ms : List Moment) × (longer ≡ (past, ms) ∷ chain)

-- the disks that a shelf gives next are after a chain, or after it with one history more
pub record StaysAfter {D : Type 0} (state : D → DiskState) (shelf : ShelfState D) (s : Scenario) (chain : List (Past × List Moment)) : Type 0 where
  pub longer : List (Past × List Moment)
  pub is : IsOrLonger chain longer
  pub held : Held
  pub after : IsAfter state shelf s longer held

-- so it is however a call ends: done, by a fault, or with the nodes not opened
abbrev pub ChainsStay : {D S : Type 0} → (D → DiskState) → (S → ShelfState D) → (Shows : Scenario → Held → Showing) → Type 0
ChainsStay {S = S} state seen Shows =
    (old new : S) (s : Scenario) (result : Result (List Entry) RunFault) → IsRunnable s → UsesShelf (Shows s) state (seen old) (seen new) s result
    → BackTell state (seen old) (seen new) → IsTrue (seen new).tells → (chain : List (Past × List Moment)) (held : Held) → IsAfter state (seen old) s chain held → StaysAfter state (seen new) s chain

-- the same scenario with other stops and another schedule
abbrev pub with_schedule : Scenario → (stops : List (Place × ℕ × ℕ)) → (schedule : List ScheduleItem) → Scenario
with_schedule s stops schedule = record s { stops = stops; schedule = schedule }

-- A shelf that was never used for the nodes of a scenario is after the empty chain, where blank disks tell. Each replay and each run adds its
-- history, whatever the stops and the schedule of the next one are. What reads the disks and gives them back adds nothing, nor what leaves
-- them with what they held; nor does a call whose nodes weren't opened: it leaves what it found, with a boot of a resource or not.
pub record CallsGoOn {D S : Type 0} (state : D → DiskState) (seen : S → ShelfState D) : Type 0 where
  pub first : (shelf : S) (s : Scenario) → IsRunnable s → BlanksTell state s.disk → AreUnused (seen shelf) (servers_of s none_held) → IsAfter state (seen shelf) s [] none_held
  pub replay : ChainsGrow state seen replayed.Leaves replayed_history
  pub run : ChainsGrow state seen ran.Leaves ran_history
  pub any_replay : ChainsStay state seen replayed.Leaves
  pub any_run : ChainsStay state seen ran.Leaves
  pub schedule : (shelf : S) (s : Scenario) (chain : List (Past × List Moment)) (held : Held) → IsAfter state (seen shelf) s chain held
      → (stops : List (Place × ℕ × ℕ)) (schedule : List ScheduleItem) → IsAfter state (seen shelf) (with_schedule s stops schedule) chain held
  pub reading : (old new : S) (s : Scenario) → GivesStill state s.disk (seen old) (seen new)
      → (chain : List (Past × List Moment)) (held : Held) → IsAfter state (seen old) s chain held → IsAfter state (seen new) s chain held
  pub still : (old new : S) (s : Scenario) → HoldStill state s (seen old) (seen new)
      → (chain : List (Past × List Moment)) (held : Held) → IsAfter state (seen old) s chain held → IsAfter state (seen new) s chain held
  pub unopened : (old new : S) (s : Scenario) (missed : RunFault) → NodesNotOpened state s (servers_of s) (seen old) (seen new) missed → BackTell state (seen old) (seen new) → IsTrue (seen new).tells
      → (chain : List (Past × List Moment)) (held : Held) → IsAfter state (seen old) s chain held → (next : Held) × IsAfter state (seen new) s chain next
