-- What the disks of a shelf show.
use Rattle.std.specs.Prelude.{◌≡◌, ◌≢◌, ◌⊎◌, ℕ, IsSome, List, Result, IfOk}
use Rattle.std.specs.List.{AllByRecursion}
use Rattle.disk_model.specs.Disk.{DiskState, present}
use Rattle.disk_model.specs.Shelf.{KeepsOthers, ShelfState}
use Rattle.scenario_form.specs.declared.scenarios.Scenario.{Scenario}
use Rattle.scenario_reader.specs.Reading.{IsFault, IsScenario}
use Rattle.base_records.specs.Pieces.{IsWhole, joined}
use Rattle.base_shelf.specs.Keeping.{NetIs, net_name}
use Rattle.seata_types.specs.declared.copies.NoMemory.{NoMemory}
use Rattle.history_rules.specs.Nodes.{Past}
use Rattle.history_text.specs.declared.entries.Names.{Names}
use Rattle.history_text.specs.Report.{names_of}
use Rattle.node_seat.specs.declared.faults.RunFault.{RunFault}
use Rattle.node_seat.specs.declared.faults.RunFault.TheVariants as fault
use Rattle.report_text.specs.declared.before.Before.{Before}
use Rattle.report_text.specs.Following.{IsRead}
use Rattle.report_text.specs.Sections.{shown_text}
use Rattle.scenario_nodes.specs.Nodes.{Held, HoldAll, server_names, servers_of}
use Rattle.scenario_nodes.specs.Opening.{StopsLoading}
use Rattle.scenario_nodes.specs.Reading.{GivesStill, HoldStill, IsReadFault, IsSound}
use Rattle.scenario_nodes.specs.Shelves.{IsNext, ReturnsAll}
use Rattle.scenario_nodes.specs.Together.{IsOfOne}
use Rattle.store_shown.specs.declared.found.Shown.{Shown}
use Rattle.store_shown.specs.declared.found.Shown.TheVariants as shown
use Rattle.store_shown.specs.Bases.{IsNetUnread, NetHolds}

-- ---- what is touched

-- the text that the disk `net` keeps is a scenario
abbrev pub KeepsScenario : {D : Type 0} → (D → DiskState) → ShelfState D → Scenario → Type 0
KeepsScenario state shelf s = NetHolds state shelf (λ records. IsWhole records × IsScenario (joined records) s)

-- only the disk `net` is
abbrev pub TouchesNet : {D : Type 0} → (old new : ShelfState D) → Type 0
TouchesNet old new = KeepsOthers (λ n. n ≡ net_name) old new

-- Only that and the disks of the nodes of a scenario are. Under each name but that one the shelf gives next the bytes that it gave before,
-- where the disk tells them, one that was there or a blank one.
pub record TouchesNodes {D : Type 0} (state : D → DiskState) (s : Scenario) (old new : ShelfState D) : Type 0 where
  pub keeps : KeepsOthers (λ n. (n ≡ net_name) ⊎ IsOfOne (server_names s) n) old new
  pub next : (n : List ℕ) → n ≢ net_name → (bytes : List ℕ) → IsNext state old s.disk n bytes → IsNext state new s.disk n bytes

-- that of the scenario whose text the disk `net` keeps
pub record TouchesScenario {D : Type 0} (state : D → DiskState) (old new : ShelfState D) : Type 0 where
  pub scenario : Scenario
  pub kept : KeepsScenario state old scenario
  pub nodes : TouchesNodes state scenario old new

abbrev pub Touches : {D : Type 0} → (D → DiskState) → (old new : ShelfState D) → Type 0
Touches state old new = TouchesNet old new ⊎ TouchesScenario state old new

-- ---- what is told

-- A text tells what the disks of the nodes of this scenario hold, and they still do. No damage stands in their bytes.
pub record TellsState {D : Type 0} (state : D → DiskState) (old new : ShelfState D) (text : List ℕ) : Type 0 where
  pub scenario : Scenario
  pub kept : KeepsScenario state old scenario
  pub is_text : (held : Held) → HoldAll state old scenario held → text ≡ shown_text scenario held.past
  pub sound : (held : Held) → AllByRecursion (IsSound state old scenario) (servers_of scenario held)
  pub still : HoldStill state scenario old new
  pub touches : TouchesNodes state scenario old new

-- the disks of the nodes of this scenario weren't read, after the disk `net` was, and they still hold what they held; these are the names of
-- its nodes
pub record AreUnread {D S : Type 0} (state : D → DiskState) (seen : S → ShelfState D) (old new : S) (missed : RunFault) (names : Names) : Type 0 where
  pub scenario : Scenario
  pub kept : KeepsScenario state (seen old) scenario
  pub named : names ≡ names_of scenario
  pub between : S
  pub keeps : KeepsOthers (λ n. n ≡ net_name) (seen old) (seen between)
  pub refused : (held : Held) → StopsLoading state scenario (servers_of scenario held) (seen between) (seen new) missed
  pub cause : (held : Held) → IsReadFault (servers_of scenario held) missed
  pub still : HoldStill state scenario (seen old) (seen new)
  pub touches : TouchesNodes state scenario (seen old) (seen new)

-- what keeps disks from being read, but want of memory: they weren't had, failed or are damaged
abbrev pub IsOfReading : RunFault → Type 0
IsOfReading (fault.Store at) = Unit {0}
IsOfReading (fault.Damaged at second offset) = Unit {0}
IsOfReading _ = ⊥

-- What was found is on the disks that the shelf gave, where they tell their bytes: the state of a scenario's nodes; no whole text; a text with
-- this fault; or disks that weren't read, by no want of memory. Where `net` keeps no scenario nothing else is touched.
abbrev pub IsFound : {D S : Type 0} → (D → DiskState) → (S → ShelfState D) → (old new : S) → Shown → Type 0
IsFound state seen old new (shown.State text) = TellsState state (seen old) (seen new) text
IsFound state seen old new shown.Empty = NetHolds state (seen old) (λ records. IsWhole records → ⊥) × TouchesNet (seen old) (seen new)
IsFound state seen old new (shown.NoScenario e) = NetHolds state (seen old) (λ records. IsWhole records × IsFault (joined records) e) × TouchesNet (seen old) (seen new)
IsFound state seen old new (shown.Unread missed names) =
    IsOfReading missed × ((IsNetUnread state (seen old) (seen new) missed × TouchesNet (seen old) (seen new)) ⊎ AreUnread state seen old new missed names)

-- ---- what stays

-- each disk that a shelf had is there with the bytes that it had, where it tells them
abbrev pub KeepsBytes : {D : Type 0} → (D → DiskState) → (old new : ShelfState D) → Type 0
KeepsBytes {D} state old new =
    (name : List ℕ) (disk : D) → old.given_back name disk → IsSome (state disk).content → (same : D) × new.given_back name same × (present (state same) ≡ present (state disk))

-- What the disks of a shelf show was told, unless memory was refused. However it ends: each disk that was there has its bytes, the disk `net`
-- is next with those that it had, blank or not, no disk but that and those of the nodes is touched, and all that were taken are given back.
pub record Shows {D S : Type 0} (state : D → DiskState) (seen : S → ShelfState D) (old new : S) (result : Result Shown NoMemory) : Type 0 where
  pub found : IfOk result (IsFound state seen old new)
  pub bytes : KeepsBytes state (seen old) (seen new)
  pub net : (bytes : List ℕ) → NetIs state (seen old) bytes → NetIs state (seen new) bytes
  pub touches : Touches state (seen old) (seen new)
  pub tells : (seen new).tells ≡ (seen old).tells
  pub returned : ReturnsAll (seen old) (seen new)

-- ---- for the proofs alone

-- a text tells what was read
abbrev pub IsState : Scenario → Before → Shown → Type 0
IsState s before (shown.State text) = (past : Past) → IsRead s before past → text ≡ shown_text s past
IsState s before _ = ⊥

-- what was found on the disks of the nodes of a scenario
abbrev pub IsFoundAt : {D : Type 0} → (D → DiskState) → Scenario → (old new : ShelfState D) → Shown → Type 0
IsFoundAt state s old new (shown.State text) =
    ((held : Held) → HoldAll state old s held → text ≡ shown_text s held.past) × ((held : Held) → AllByRecursion (IsSound state old s) (servers_of s held))
IsFoundAt state s old new (shown.Unread missed names) =
    (missed ≢ fault.NoMemory) × (names ≡ names_of s) × ((held : Held) → StopsLoading state s (servers_of s held) old new missed) × ((held : Held) → IsReadFault (servers_of s held) missed)
IsFoundAt state s old new _ = ⊥

-- what they show was told, unless memory was refused
pub record ShowsNodes {D : Type 0} (state : D → DiskState) (s : Scenario) (old new : ShelfState D) (result : Result Shown NoMemory) : Type 0 where
  pub found : IfOk result (IsFoundAt state s old new)
  pub still : GivesStill state s.disk old new
  pub keeps : KeepsOthers (IsOfOne (server_names s)) old new
  pub returned : ReturnsAll old new
