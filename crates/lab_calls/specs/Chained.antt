-- That calls of a scenario one after the other leave disks that the next one may begin with.
use Rattle.std.specs.Prelude.{ℕ, IsTrue, List, [], Result}
use Rattle.disk_model.specs.Disk.{DiskState}
use Rattle.disk_model.specs.Shelf.{ShelfState}
use Rattle.seata_types.specs.declared.ids.Place.{Place}
use Rattle.seata_types.specs.declared.limits.TheConstants.{BODY_BYTES, SCENARIO_DISK}
use Rattle.base_records.specs.Pieces.{IsFront}
use Rattle.base_shelf.specs.Keeping.{HoldsBase, net_name}
use Rattle.scenario_form.specs.declared.scenarios.Scenario.{Scenario}
use Rattle.scenario_form.specs.declared.scenarios.ScheduleItem.{ScheduleItem}
use Rattle.scenario_form.specs.Runnable.{IsRunnable}
use Rattle.history_rules.specs.Histories.{Moment}
use Rattle.history_rules.specs.Nodes.{Past}
use Rattle.node_seat.specs.declared.faults.RunFault.{RunFault}
use Rattle.scenario_nodes.specs.Nodes.{AreUnused, Held, none_held, servers_of}
use Rattle.scenario_nodes.specs.Shelves.{BackTell, BlanksTell}
use Rattle.replay_runner.specs.Leaving.{Showing}
use Rattle.replay_runner.specs.Leaving as replayed
use Rattle.thread_runner.specs.Running as ran
use Rattle.chain_law.specs.Chained.{IsAfter, IsOrLonger, with_schedule}
use Rattle.lab_calls.specs.declared.played.Played.{Played}
use Rattle.lab_calls.specs.Kept.{EndsKept}

-- The disks that a shelf gives next are such as calls of a scenario leave them: those of the nodes hold
-- records that a chain of its histories may leave, and `net` holds the first ones of its text, or none.
pub record IsKeptAfter {D : Type 0} (state : D → DiskState) (shelf : ShelfState D) (s : Scenario)
    (chain : List (Past × List Moment)) (held : Held) : Type 0 where
  pub after : IsAfter state shelf s chain held
  pub records : List (List ℕ)
  pub net : HoldsBase state shelf records
  pub front : IsFront BODY_BYTES records s.base

-- they are after a chain so, or after it with one history more
pub record StaysKept {D : Type 0} (state : D → DiskState) (shelf : ShelfState D) (s : Scenario)
    (chain : List (Past × List Moment)) : Type 0 where
  pub longer : List (Past × List Moment)
  pub is : IsOrLonger chain longer
  pub held : Held
  pub kept : IsKeptAfter state shelf s longer held

-- so a call leaves them, where those that it gave back tell their bytes, however it ends: done, by
-- whatever fault, with the nodes not opened, or with its text not kept
abbrev pub CallsStayKept : {D S : Type 0} → (D → DiskState) → (S → ShelfState D)
    → (Shows : Scenario → Held → Showing) → Type 0
CallsStayKept {S = S} state seen Shows =
    (old new : S) (s : Scenario) (ended : Result Played RunFault) → IsRunnable s
    → EndsKept (Shows s) state seen old new s ended
    → BackTell state (seen old) (seen new) → IsTrue (seen old).tells
    → (chain : List (Past × List Moment)) (held : Held) → IsKeptAfter state (seen old) s chain held
    → StaysKept state (seen new) s chain

-- each replay and each run does, and the next one may have other stops and another schedule
pub record KeptCallsGoOn {D S : Type 0} (state : D → DiskState) (seen : S → ShelfState D)
    : Type 0 where
  pub replay : CallsStayKept state seen replayed.Leaves
  pub run : CallsStayKept state seen ran.Leaves
  pub schedule : (shelf : S) (s : Scenario) (chain : List (Past × List Moment)) (held : Held)
      → IsKeptAfter state (seen shelf) s chain held
      → (stops : List (Place × ℕ × ℕ)) (schedule : List ScheduleItem)
      → IsKeptAfter state (seen shelf) (with_schedule s stops schedule) chain held

-- ---- the first call

-- nothing was given back under the name of the disk `net`
abbrev pub IsUnusedNet : {D : Type 0} → ShelfState D → Type 0
IsUnusedNet {D} shelf = (disk : D) → ¬ shelf.given_back net_name disk

-- a shelf that was never used for the nodes of a scenario, nor for `net`, is after the empty chain, and
-- its disks hold no record, where blank ones tell their bytes
abbrev pub NewBeginKept : {D S : Type 0} → (D → DiskState) → (S → ShelfState D) → Type 0
NewBeginKept {S = S} state seen =
    (shelf : S) (s : Scenario) → IsRunnable s → BlanksTell state s.disk
    → AreUnused (seen shelf) (servers_of s none_held) → BlanksTell state SCENARIO_DISK
    → IsUnusedNet (seen shelf) → IsKeptAfter state (seen shelf) s [] none_held

-- a disk `net` that was never used holds none
abbrev pub NewNetHoldsNone : {D S : Type 0} → (D → DiskState) → (S → ShelfState D) → Type 0
NewNetHoldsNone {S = S} state seen =
    (shelf : S) → BlanksTell state SCENARIO_DISK → IsUnusedNet (seen shelf)
    → HoldsBase state (seen shelf) []

-- no record is a front of each text
abbrev pub NoneAreFirst : Type 0
NoneAreFirst = (text : List ℕ) → IsFront BODY_BYTES [] text
