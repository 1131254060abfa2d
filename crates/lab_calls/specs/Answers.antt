-- What the program answers: the status, and what is written.
use Rattle.std.specs.Prelude.{◌≡◌, ◌≢◌, ◌⊎◌, ◌+◌, ◌<◌, ◌≤◌, ◌++◌, ◌∷◌, ℕ, nat_eq, nat_le, Bool, true, false, if◌then◌else◌, List, [], length, map, take, drop, Option, Some, Result, Ok, Err, codes}
use Rattle.std.specs.List.{list_any}
use Rattle.std.specs.Fmt.{decimal}
use Rattle.seata_types.specs.declared.limits.TheConstants.{INPUT_BYTES}
use Rattle.scenario_reader.specs.declared.errors.ScenarioError.{ScenarioError}
use Rattle.scenario_reader.specs.declared.errors.ScenarioError.TheVariants as fault
use Rattle.scenario_form.specs.declared.scenarios.Scenario.{Scenario}
use Rattle.scenario_reader.specs.Reading.{IsScenario, IsFault}
use Rattle.seata_types.specs.declared.errors.Full.{Full}
use Rattle.seata_types.specs.declared.ids.Place.{Place}
use Rattle.node_seat.specs.declared.faults.RunFault.{RunFault}
use Rattle.node_seat.specs.declared.faults.RunFault.TheVariants as run_fault
use Rattle.scenario_nodes.specs.Nodes.{Held, HoldAll}
use Rattle.scenario_nodes.specs.Shelves.{pair_of}
use Rattle.replay_runner.specs.Leaving.{AreAllBack, AreAllLaid, AreLeft, HavePlaces, HaveSizes, disks_in}
use Rattle.report_text.specs.Following.{IsRead}
use Rattle.history_rules.specs.Nodes.{Past, Role, role_at}
use Rattle.history_rules.specs.Histories.{Legal, Moment, own}
use Rattle.history_law.specs.ChainSafety.{IsSafeAfterChains}
use Rattle.history_text.specs.History.{entries}
use Rattle.history_text.specs.declared.entries.Names.{Names}
use Rattle.history_text.specs.Lines.{place_text}
use Rattle.history_text.specs.Report.{line, names_of, report}
use Rattle.history_text.specs.Worlds.{world_of}
use Rattle.lab_calls.specs.declared.played.Played.{Played}
use Rattle.lab_calls.specs.FrameLines.{frames_text}
use Rattle.lab_calls.specs.Kept.{HasBase}
use Rattle.disk_model.specs.Disk.{DiskState, Rose}
use Rattle.disk_model.specs.Shelf.{ShelfState}
use Rattle.lab_calls.specs.Streams.{GainsFront, Devices, IsCalm}
use Rattle.std.specs.Io.KnownBytes.{Appends}

-- the usage line
abbrev pub usage_text : List ℕ
usage_text = line (codes "usage: seata_lab replay | run | make | stress | frames | audit | show")

-- what stays unread of an input: it is read to its end, or one byte past the most that is taken
abbrev pub unread_past : (most : ℕ) → List ℕ → List ℕ
unread_past most input = drop (most + 1) input

-- of an input of scenarios or frames
abbrev pub unread : List ℕ → List ℕ
unread input = unread_past INPUT_BYTES input

-- for the proofs alone: these bytes of an input were read, and the others are left
pub record HasRead (most : ℕ) (input bytes : List ℕ) (left : Option (List ℕ)) : Type 0 where
  pub bytes_are : bytes ≡ take (most + 1) input
  pub left_are : left ≡ Some (unread_past most input)

-- a number is one of these
abbrev pub is_among : List ℕ → ℕ → Bool
is_among numbers n = list_any (nat_eq n) numbers

-- a source was read so far, and this text and status, one of these, are the answer to its input,
-- where that is told
pub record Answers (most : ℕ) (IsAnswer : List ℕ → List ℕ → ℕ → Type 0) (statuses : List ℕ)
    (old new : Option (List ℕ)) (text : List ℕ) (status : ℕ) : Type 0 where
  pub is_known : is_among statuses status ≡ true
  pub is_answer : (input : List ℕ) → old ≡ Some input → IsAnswer input text status
  pub read : (input : List ℕ) → old ≡ Some input → new ≡ Some (unread_past most input)

-- ---- replays and runs

-- the line of a fault of the input
abbrev pub fault_text : ScenarioError → List ℕ
fault_text fault.NotJson = codes "scenario: NotJson"
fault_text (fault.Shape path) = codes "scenario: Shape " ++ path
fault_text (fault.Limit path limit) =
    codes "scenario: Limit " ++ (path ++ (codes " " ++ decimal limit))
fault_text (fault.Sql path at) = codes "scenario: Sql " ++ (path ++ (codes " " ++ decimal at))
fault_text (fault.Mode path) = codes "scenario: Mode " ++ path
fault_text (fault.Name path) = codes "scenario: Name " ++ path
fault_text fault.NoMemory = []

-- the line of disks that failed
abbrev pub store_text : Names → Place → List ℕ
store_text names at = codes "store: " ++ place_text names at

-- the line of a record that doesn't fit on a disk
abbrev pub full_text : Names → Place → Full → List ℕ
full_text names at full =
    codes "full: " ++ (place_text names at
    ++ (codes " needs " ++ (decimal full.needed ++ (codes " of " ++ decimal full.size))))

-- the name of one of two disks
abbrev pub disk_text : Names → Place → (second : Bool) → List ℕ
disk_text names at false = place_text names at
disk_text names at true = place_text names at ++ codes ".2"

-- the line of bytes that are no journal
abbrev pub damaged_text : Names → Place → (second : Bool) → ℕ → List ℕ
damaged_text names at second offset =
    codes "damaged: " ++ (disk_text names at second ++ (codes " at " ++ decimal offset))

-- the line of why a replay or a run ended early, and the status; want of memory has no line
abbrev pub end_text : Names → RunFault → List ℕ
end_text names (run_fault.Store at) = store_text names at
end_text names (run_fault.Full at full) = full_text names at full
end_text names (run_fault.Damaged at second offset) = damaged_text names at second offset
end_text names run_fault.Other = codes "scenario: Other"
end_text names run_fault.NoMemory = []

abbrev pub status_of : RunFault → ℕ
status_of (run_fault.Store at) = 7
status_of (run_fault.Full at full) = 8
status_of (run_fault.Damaged at second offset) = 9
status_of run_fault.Other = 3
status_of run_fault.NoMemory = 6

-- a text is the report of each legal history with these entries, over whatever records were read before
abbrev pub IsReportOver : Scenario → Played → List ℕ → Type 0
IsReportOver s p text = (past : Past) (ms : List Moment) → IsRead s p.before past
    → Legal (world_of s) past ms → entries ms ≡ p.history → text ≡ report s past ms

-- the text and the status of a replay or a run that ended so: the report of its entries over what its
-- disks held, or the line of its fault
abbrev pub IsEndText : Scenario → Result Played RunFault → List ℕ → ℕ → Type 0
IsEndText s (Ok p) text status = (status ≡ 0) × IsReportOver s p text
IsEndText s (Err missed) text status =
    (missed ≢ run_fault.NoMemory) × (status ≡ status_of missed)
    × (text ≡ line (end_text (names_of s) missed))

-- how the replay, or the run, of a scenario may end
abbrev pub Ending : Type 1
Ending = Scenario → Result Played RunFault → Type 0

-- the text and the status of how the replay or run of a scenario ended
pub record IsPlayOf (ends : Ending) (s : Scenario) (text : List ℕ) (status : ℕ) : Type 0 where
  pub ended : Result Played RunFault
  pub has_ended : ends s ended
  pub is_text : IsEndText s ended text status

-- the line of what keeps the bytes from being a scenario
unfoldable pub IsFaultOf : List ℕ → List ℕ → Type 0
IsFaultOf bytes text = (e : ScenarioError) × IsFault bytes e × (text ≡ line (fault_text e))

-- the text of an input with its status: it is refused, or replayed or run
unfoldable pub IsAnswerTo : Ending → List ℕ → List ℕ → ℕ → Type 0
IsAnswerTo ends bytes text status =
    ((status ≡ 3) × IsFaultOf bytes text)
    ⊎ ((s : Scenario) × IsScenario bytes s × IsPlayOf ends s text status)

-- the statuses of a replay and of a run that come with a text
abbrev pub replay_statuses : List ℕ
replay_statuses = 0 ∷ 3 ∷ 7 ∷ 8 ∷ 9 ∷ []

-- Where the disks of the nodes told that they held these records: a history over them, which
-- `IsHistory` says is the scenario's, is safe behind each chain that the records may follow, and the
-- disks of each node that were given back, of the scenario's size, show it. Each record of it had a
-- place, and the journals end where its entries leave them. The text is its report.
pub record Reported {D : Type 0} (IsHistory : Scenario → Past → List Moment → Type 0)
    (state : D → DiskState) (s : Scenario) (held : Held) (disks : List (D × D)) (text : List ℕ)
    : Type 0 where
  pub history : List Moment
  pub is_run : IsHistory s held.past history
  pub is_safe : IsSafeAfterChains (world_of s) held.past history
  pub is_report : text ≡ report s held.past history
  pub fits : HavePlaces s held history
  pub device : (p : Place) (role : Role) → role_at (world_of s) held.past p ≡ Some role
      → AreLeft role (own p history) (disks_in (map (pair_of state) disks) p)
  pub laid : AreAllLaid s held history (map (pair_of state) disks)
  pub sized : HaveSizes s (map (pair_of state) disks)

-- what a replay or a run tells: its input was read to its end and is a scenario; its disks were
-- given back, and the sink got the text of how it ended
pub record Plays (ends : Ending) (status : ℕ) (input : List ℕ) (old new : Devices) : Type 0 where
  pub read_to_end : new.source.left ≡ Some []
  pub scenario : Scenario
  pub is_scenario : IsScenario input scenario
  pub text : List ℕ
  pub is_play : IsPlayOf ends scenario text status
  pub printed : Appends old.sink.written new.sink.written text

-- at status 0 besides: the disks of all nodes, and the one with the scenario's text, were given back in
-- this call, and there is a safe history over whatever they told that they held before
pub record Done {D : Type 0} (IsHistory : Scenario → Past → List Moment → Type 0)
    (state : D → DiskState) (had has : ShelfState D) (s : Scenario) (text : List ℕ) : Type 0 where
  pub disks : List (D × D)
  pub back : AreAllBack had has s disks
  pub net : HasBase state had has s
  pub reported : (held : Held) → HoldAll state had s held
      → Reported IsHistory state s held disks text

-- at status 3: the source was read as far as inputs are, and the sink got the line of what keeps
-- the input from being a scenario
pub record Refuses (input : List ℕ) (old new : Devices) : Type 0 where
  pub read_to_end : new.source.left ≡ Some (unread input)
  pub text : List ℕ
  pub is_refusal : IsFaultOf input text
  pub printed : Appends old.sink.written new.sink.written text

-- at status 5: the source was read as far as inputs are, and the sink got the front of the text
-- that another status would have; where that is 0, all holds that is said of a text at 0
pub record CutsShort (ends : Ending) (IsDone : Scenario → List ℕ → Type 0) (input : List ℕ)
    (old new : Devices) : Type 0 where
  pub read_to_end : new.source.left ≡ Some (unread input)
  pub text : List ℕ
  pub status : ℕ
  pub is_answer : IsAnswerTo ends input text status
  pub done : status ≡ 0 → (scenario : Scenario) × IsScenario input scenario × IsDone scenario text
  pub printed : GainsFront old.sink.written new.sink.written text

-- the statuses of a scenario: it was replayed or run, or memory was refused
abbrev pub is_end : ℕ → Bool
is_end status = is_among (0 ∷ 6 ∷ 7 ∷ 8 ∷ 9 ∷ []) status

-- those where nothing failed: it is done, a record doesn't fit, or memory was refused
abbrev pub is_calm_end : ℕ → Bool
is_calm_end status = is_among (0 ∷ 6 ∷ 8 ∷ []) status

-- what the status of a replay or a run says of the input, where that is told
pub record TellsPlay (ends : Ending) (IsDone : Scenario → List ℕ → Type 0) (status : ℕ)
    (old new : Devices) : Type 0 where
  pub replayed : is_among (0 ∷ 7 ∷ 8 ∷ 9 ∷ []) status ≡ true → (input : List ℕ)
      → old.source.left ≡ Some input → Plays ends status input old new
  pub refused : status ≡ 3 → (input : List ℕ) → old.source.left ≡ Some input
      → Refuses input old new ⊎ Plays ends 3 input old new
  pub cut_short : status ≡ 5 → (input : List ℕ) → old.source.left ≡ Some input
      → CutsShort ends IsDone input old new
  pub complete : (input : List ℕ) (scenario : Scenario) → old.source.left ≡ Some input
      → IsScenario input scenario → IsCalm old new
      → (is_end status ≡ true) ⊎ Plays ends 3 input old new

-- ---- the shelf of a replay or a run

-- the status of a replay or a run that ended so
abbrev pub ended_status : Result Played RunFault → ℕ
ended_status (Ok p) = 0
ended_status (Err missed) = status_of missed

-- The status of a call whose replay or run ended so: that of the ending; 6, where memory was refused
-- for its text; or 5, where the sink failed at the text, which want of memory doesn't have.
abbrev pub IsStatusAfter : Result Played RunFault → ℕ → Type 0
IsStatusAfter ended status =
    (status ≡ ended_status ended)
    ⊎ ((status ≡ 6) ⊎ ((status ≡ 5) × (ended ≢ Err run_fault.NoMemory)))

-- Nothing was replayed or run, and the shelf is as it was: the source failed, memory was refused, or
-- the input is no scenario, whose line was written at 3 and cut short at 5.
pub record IsUntouched (same : Type 0) (status : ℕ) (old : Option (List ℕ)) : Type 0 where
  pub is_same : same
  pub statuses : is_among (3 ∷ 4 ∷ 5 ∷ 6 ∷ []) status ≡ true
  pub no_scenario : is_among (3 ∷ 5 ∷ []) status ≡ true → (input : List ℕ) (s : Scenario)
      → old ≡ Some input → IsScenario input s → ⊥

-- The input was read to its end and is a scenario, where that is told. The replay or run of this
-- scenario left the shelf, and its ending fits the status.
pub record IsLeftByPlay (ends : Ending) (status : ℕ) (old new : Option (List ℕ)) : Type 0 where
  pub scenario : Scenario
  pub is_scenario : (input : List ℕ) → old ≡ Some input → IsScenario input scenario
  pub read_to_end : (input : List ℕ) → old ≡ Some input → new ≡ Some []
  pub ended : Result Played RunFault
  pub has_ended : ends scenario ended
  pub is_status : IsStatusAfter ended status

-- what the status of a replay or a run says of the shelf
abbrev pub TellsShelf : Ending → (same : Type 0) → (status : ℕ) → (old new : Option (List ℕ))
    → Type 0
TellsShelf ends same status old new =
    IsUntouched same status old ⊎ IsLeftByPlay ends status old new

-- ---- frames

-- the line that is written for an input of too many bytes
abbrev pub over_text : List ℕ
over_text = codes "input: over " ++ (decimal INPUT_BYTES ++ line (codes " bytes"))

-- the input has at most so many bytes
abbrev pub is_short : List ℕ → Bool
is_short input = nat_le (length input) INPUT_BYTES

-- the text that is written for an input of frames, and the status once it was
abbrev pub frames_answer : List ℕ → List ℕ
frames_answer input = if is_short input then frames_text input else over_text

abbrev pub frames_status : List ℕ → ℕ
frames_status input = if is_short input then 0 else 3

-- the statuses of a listing of frames that come with a text
abbrev pub frames_statuses : List ℕ
frames_statuses = 0 ∷ 3 ∷ []

-- the text of an input of frames with its status
pub record IsFramesAnswer (input text : List ℕ) (status : ℕ) : Type 0 where
  pub text_is : text ≡ frames_answer input
  pub status_is : status ≡ frames_status input

-- at status 0: the source was read to its end, its bytes are few enough, and the sink got the lines
-- of their frames
pub record ListsFrames (input : List ℕ) (old new : Devices) : Type 0 where
  pub read_to_end : new.source.left ≡ Some []
  pub short : length input ≤ INPUT_BYTES
  pub printed : Appends old.sink.written new.sink.written (frames_text input)

-- at status 3: there are too many bytes, one more than are taken was read, and the sink got the
-- line that says so
pub record IsOver (input : List ℕ) (old new : Devices) : Type 0 where
  pub read_to_end : new.source.left ≡ Some (unread input)
  pub long : INPUT_BYTES < length input
  pub printed : Appends old.sink.written new.sink.written over_text

-- what the status of a listing of frames says of the input, where that is told
pub record TellsFrames (status : ℕ) (old new : Devices) : Type 0 where
  pub listed : status ≡ 0 → (input : List ℕ) → old.source.left ≡ Some input
      → ListsFrames input old new
  pub over : status ≡ 3 → (input : List ℕ) → old.source.left ≡ Some input → IsOver input old new
  pub cut_short : status ≡ 5 → (input : List ℕ) → old.source.left ≡ Some input
      → (new.source.left ≡ Some (unread input))
      × GainsFront old.sink.written new.sink.written (frames_answer input)
  pub complete : (input : List ℕ) → old.source.left ≡ Some input → IsCalm old new
      → (status ≡ frames_status input) ⊎ (status ≡ 6)

-- ---- all words

-- the statuses of a call: those that come with a text, and those of a device that failed and of
-- want of memory
abbrev pub with_failures : List ℕ → List ℕ
with_failures statuses = statuses ++ 4 ∷ 5 ∷ 6 ∷ []

-- the status is one of these; the source failed at 4 and the sink at 5, each in this call; nothing
-- was written at 4 and 6
pub record TellsFaults (possible : List ℕ) (status : ℕ) (old new : Devices) : Type 0 where
  pub statuses : is_among possible status ≡ true
  pub source_failed : status ≡ 4
      → Rose old.source.faults new.source.faults × (new.sink.written ≡ old.sink.written)
  pub sink_failed : status ≡ 5 → Rose old.sink.faults new.sink.faults
  pub no_memory : status ≡ 6 → new.sink.written ≡ old.sink.written

-- what the status says of words that are answered with the usage line: the sink got it, or the front
-- of it
pub record TellsUsage (status : ℕ) (old new : Devices) : Type 0 where
  pub statuses : (status ≡ 2) ⊎ (status ≡ 5)
  pub usage : status ≡ 2 → Appends old.sink.written new.sink.written usage_text
  pub cut_short : status ≡ 5 → GainsFront old.sink.written new.sink.written usage_text
