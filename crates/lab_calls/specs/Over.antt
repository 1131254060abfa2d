-- Replays and runs over what the disks of the nodes hold, which are read first.
use Rattle.std.specs.Prelude.{◌⊎◌, List, Result, Ok, Err}
use Rattle.std.specs.List.{AllByRecursion}
use Rattle.disk_model.specs.Disk.{DiskState}
use Rattle.disk_model.specs.Shelf.{KeepsOthers, ShelfState}
use Rattle.scenario_form.specs.declared.scenarios.Scenario.{Scenario}
use Rattle.history_text.specs.declared.entries.Entry.{Entry}
use Rattle.node_seat.specs.declared.faults.RunFault.{RunFault}
use Rattle.scenario_nodes.specs.Nodes.{Held, HoldAll, servers_of}
use Rattle.scenario_nodes.specs.Opening.{NodesNotOpened, StopsLoading}
use Rattle.scenario_nodes.specs.Reading.{HoldStill, IsReadFault, IsSound}
use Rattle.replay_runner.specs.Leaving.{GivesBack, IsServerDisk, Showing}
use Rattle.report_text.specs.declared.before.Before.{Before}
use Rattle.report_text.specs.Following.{IsRead}
use Rattle.lab_calls.specs.declared.played.Played.{Played}

-- this is what the disks say that a shelf gives next, whatever they hold
abbrev pub IsReadOn : {D : Type 0} → (D → DiskState) → ShelfState D → Scenario → Before → Type 0
IsReadOn state shelf s before =
    (held : Held) → HoldAll state shelf s held → IsRead s before held.past

-- the bytes that a shelf gives next for the disks of the nodes are damaged for none of them
abbrev pub AllSound : {D : Type 0} → (D → DiskState) → ShelfState D → Scenario → Type 0
AllSound state shelf s =
    (held : Held) → AllByRecursion (IsSound state shelf s) (servers_of s held)

-- ---- replays and runs

-- the entries of a history that was made, or why there is none
abbrev pub entries_of : Result Played RunFault → Result (List Entry) RunFault
entries_of (Ok p) = Ok p.history
entries_of (Err missed) = Err missed

-- The disks couldn't be read, by a cause that a reading can have.
pub record AreUnread {D : Type 0} (state : D → DiskState) (s : Scenario) (old new : ShelfState D)
    (missed : RunFault) : Type 0 where
  pub refused : (held : Held) → StopsLoading state s (servers_of s held) old new missed
  pub cause : (held : Held) → IsReadFault (servers_of s held) missed

-- The disks were read, none was damaged, and they were given back with what they held. Then the nodes
-- weren't opened on them.
pub record OpensNot {D S : Type 0} (state : D → DiskState) (seen : S → ShelfState D) (old new : S)
    (s : Scenario) (missed : RunFault) : Type 0 where
  pub sound : AllSound state (seen old) s
  pub between : S
  pub still : HoldStill state s (seen old) (seen between)
  pub keeps : KeepsOthers (IsServerDisk s) (seen old) (seen between)
  pub refused : NodesNotOpened state s (servers_of s) (seen between) (seen new) missed

-- How a replay or a run ends before which the disks of the nodes were read. It was made on the disks
-- that the shelf gave, of which none was damaged, and this is what they held; or it ended by a fault; or
-- the disks couldn't be read, or the nodes weren't opened.
abbrev pub EndsOver : {D S : Type 0} → (Shows : Held → Showing) → (D → DiskState)
    → (S → ShelfState D) → (old new : S) → Scenario → Result Played RunFault → Type 0
EndsOver Shows state seen old new s (Ok p) =
    GivesBack Shows state (seen old) (seen new) s (Ok p.history)
    × IsReadOn state (seen old) s p.before × AllSound state (seen old) s
EndsOver Shows state seen old new s (Err missed) =
    (GivesBack Shows state (seen old) (seen new) s (Err missed) × AllSound state (seen old) s)
    ⊎ (AreUnread state s (seen old) (seen new) missed ⊎ OpensNot state seen old new s missed)
