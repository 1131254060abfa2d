-- Replays and runs before which the text of their scenario is kept on the disk `net`.
use Rattle.std.specs.Prelude.{◌≡◌, ◌⊎◌, ℕ, IsSome, IsTrue, List, Result, Ok, Err}
use Rattle.disk_model.specs.Disk.{DiskState}
use Rattle.disk_model.specs.Shelf.{KeepsOthers, SameUnder, ShelfState}
use Rattle.disk_journal.specs.Keeping.{Holds}
use Rattle.seata_types.specs.declared.limits.TheConstants.{BODY_BYTES}
use Rattle.base_records.specs.Pieces.{IsFront, records_of}
use Rattle.base_shelf.specs.Keeping.{HoldsBase, KeepsBase, net_name}
use Rattle.scenario_form.specs.declared.scenarios.Scenario.{Scenario}
use Rattle.node_seat.specs.declared.faults.RunFault.{RunFault}
use Rattle.scenario_nodes.specs.Nodes.{Held}
use Rattle.scenario_nodes.specs.Reading.{HoldStill}
use Rattle.scenario_nodes.specs.Shelves.{IsGivenIn}
use Rattle.replay_runner.specs.Leaving.{IsServerDisk, Showing}
use Rattle.lab_calls.specs.declared.played.Played.{Played}
use Rattle.lab_calls.specs.Over.{EndsOver}

-- ---- how it ends

-- The text was kept, and its disk is there as that left it. What came then began with this shelf, on
-- which the disks of the nodes are the same ones and hold what they held.
pub record PlaysKept {D S : Type 0} (Shows : Held → Showing) (state : D → DiskState)
    (seen : S → ShelfState D) (old new : S) (s : Scenario) (ended : Result Played RunFault)
    : Type 0 where
  pub between : S
  pub kept : KeepsBase state s.base (seen old) (seen between) (Ok tt)
  pub still : HoldStill state s (seen old) (seen between)
  pub same : (name : List ℕ) → IsServerDisk s name → SameUnder name (seen old) (seen between)
  pub ends : EndsOver Shows state seen between new s ended
  pub stays : SameUnder net_name (seen between) (seen new)
  pub keeps : KeepsOthers (IsServerDisk s) (seen between) (seen new)

-- the text wasn't kept, and nothing else was done
abbrev pub IsUnkept : {D : Type 0} → (D → DiskState) → (old new : ShelfState D) → Scenario
    → Result Played RunFault → Type 0
IsUnkept state old new s (Ok p) = ⊥
IsUnkept state old new s (Err missed) = KeepsBase state s.base old new (Err missed)

-- how a replay or a run ends whose scenario's text is kept first
abbrev pub EndsKept : {D S : Type 0} → (Shows : Held → Showing) → (D → DiskState)
    → (S → ShelfState D) → (old new : S) → Scenario → Result Played RunFault → Type 0
EndsKept Shows state seen old new s ended =
    PlaysKept Shows state seen old new s ended ⊎ IsUnkept state (seen old) (seen new) s ended

-- ---- what the disk shows

-- the disk `net` was given back in a call, and each image of it stands for all records of the text of
-- a scenario; where it tells its bytes, the shelf gives it next with such
pub record HasBase {D : Type 0} (state : D → DiskState) (old new : ShelfState D) (s : Scenario)
    : Type 0 where
  pub disk : D
  pub back : IsGivenIn old new net_name disk
  pub whole : Holds (state disk) 0 (records_of BODY_BYTES s.base)
  pub next : IsSome (state disk).content → IsTrue old.tells
      → HoldsBase state new (records_of BODY_BYTES s.base)

-- the disk `net` held the first records of a text, or none, and as it is given back it has counted no
-- fault
pub record IsCalmNet {D : Type 0} (state : D → DiskState) (old new : ShelfState D)
    (text : List ℕ) : Type 0 where
  pub records : List (List ℕ)
  pub holds : HoldsBase state old records
  pub front : IsFront BODY_BYTES records text
  pub disks : (disk : D) → new.given_back net_name disk → (state disk).counts.faults ≡ 0
