-- What one call tells by its status.
use Rattle.std.specs.Prelude.{◌≡◌, ◌⊎◌, ℕ, true, List, [], ◌∷◌, Some}
use Rattle.disk_model.specs.Disk.{DiskState}
use Rattle.disk_model.specs.Shelf.{ShelfState}
use Rattle.disk_journal.specs.Keeping.{StandsFor}
use Rattle.seata_types.specs.declared.errors.Full.{Full}
use Rattle.seata_types.specs.declared.limits.TheConstants.{BODY_BYTES, SCENARIO_DISK}
use Rattle.base_records.specs.Pieces.{IsFront}
use Rattle.base_disk.specs.Keeping.{LacksRoom}
use Rattle.base_shelf.specs.Keeping.{HoldsBase, NetIs}
use Rattle.scenario_form.specs.declared.scenarios.Scenario.{Scenario}
use Rattle.scenario_reader.specs.Reading.{IsScenario}
use Rattle.history_text.specs.History.{IsRun}
use Rattle.scenario_nodes.specs.Nodes.{Held, HoldAll}
use Rattle.scenario_nodes.specs.Shelves.{ReturnsAll}
use Rattle.replay_runner.specs.Leaving.{IsCalmShelf}
use Rattle.replay_runner.specs.Leaving as replayed
use Rattle.thread_runner.specs.Running as ran
use Rattle.thread_runner.specs.Running.{IsRunOf}
use Rattle.lab_calls.specs.Answers.{Done, Ending, Plays, TellsFaults, TellsFrames, TellsPlay, TellsShelf, frames_statuses, is_among, is_calm_end, replay_statuses, with_failures}
use Rattle.lab_calls.specs.Kept.{EndsKept, IsCalmNet}
use Rattle.lab_calls.specs.Over.{AllSound}
use Rattle.lab_calls.specs.Streams.{Devices, IsCalm}

-- what a status tells of the records that the disk `net` held, where a scenario was replayed or run:
-- at 0, 8 and 9 they are the first ones of its text, and at 3 they aren't
pub record TellsBase (status : ℕ) (text : List ℕ) (records : List (List ℕ)) : Type 0 where
  pub front : is_among (0 ∷ 8 ∷ 9 ∷ []) status ≡ true → IsFront BODY_BYTES records text
  pub other : status ≡ 3 → ¬ IsFront BODY_BYTES records text

-- why the disks of the nodes weren't read at a status where none failed: at 3 the disk `net` keeps
-- other records than the first ones of a text, and at 8 the next one has no room there
abbrev pub IsBaseAlone : {D : Type 0} → (D → DiskState) → (had : ShelfState D) → (status : ℕ)
    → (text : List ℕ) → Type 0
IsBaseAlone state had status text =
    ((status ≡ 3) × ((records : List (List ℕ)) → HoldsBase state had records
    → ¬ IsFront BODY_BYTES records text))
    ⊎ ((status ≡ 8) × ((full : Full) × LacksRoom text SCENARIO_DISK full))

-- What the statuses 0, 3 and 8 tell of whatever bytes the shelf gave, where a scenario was replayed or
-- run: those of the disk `net` were a journal, and no disk of a node was damaged, if one was read.
pub record TellsSound {D : Type 0} (state : D → DiskState) (had : ShelfState D) (status : ℕ)
    (s : Scenario) : Type 0 where
  pub net : (bytes : List ℕ) → NetIs state had bytes
      → (records : List (List ℕ)) × StandsFor 0 records bytes
  pub nodes : AllSound state had s ⊎ IsBaseAlone state had status s.base

-- A call replayed or ran the scenario of a source once, by what its shelf, and its source and sink, showed
-- before and show now; `ends` says how that may end, and `same` that the shelf is as it was.
-- `tells` is what the status says of the input and of what was written; at 0 besides, all that
-- `IsDone` says. `shelf` is what the status says of the shelf, and `base` what it says of the records of
-- the disk `net`, where that and the disks of the nodes told that they held some. By `sound` a disk whose
-- bytes are no journal is never at 0 nor 8, nor taken for another scenario's: it is at 9, or another
-- fault came before it. Where nothing fails, the disks held records of the nodes, and `net` the first
-- ones of the scenario's text, `calm`, a scenario is done, doesn't fit on its disks, or memory was
-- refused. The disks that were taken are given back, and the shelf tells of them as it did.
pub record PlaysOnce {D : Type 0} (ends : Ending) (IsDone : Scenario → List ℕ → Type 0)
    (state : D → DiskState) (had has : ShelfState D) (same : Type 0) (status : ℕ)
    (old new : Devices) : Type 0 where
  pub tells : TellsPlay ends IsDone status old new
  pub done : status ≡ 0 → (input : List ℕ) → old.source.left ≡ Some input
      → (r : Plays ends 0 input old new) × IsDone r.scenario r.text
  pub shelf : TellsShelf ends same status old.source.left new.source.left
  pub base : (input : List ℕ) (r : Plays ends status input old new)
      → (held : Held) → HoldAll state had r.scenario held → (records : List (List ℕ))
      → HoldsBase state had records → TellsBase status r.scenario.base records
  pub sound : is_among (0 ∷ 3 ∷ 8 ∷ []) status ≡ true → (input : List ℕ)
      → (r : Plays ends status input old new)
      → TellsSound state had status r.scenario
  pub calm : IsCalm old new → (input : List ℕ) (s : Scenario) → old.source.left ≡ Some input
      → IsScenario input s → (held : Held) → HoldAll state had s held → IsCalmShelf state s had has
      → ((v : Scenario) → IsScenario input v → IsCalmNet state had has v.base)
      → is_calm_end status ≡ true
  pub returned : ReturnsAll had has
  pub same_tells : has.tells ≡ had.tells
  pub faults : TellsFaults (with_failures replay_statuses) status old new

-- it was replayed; at 0 the disks of all nodes were given back, and show a safe history, of which the
-- text is the report
abbrev pub ReplaysOnce : {D S : Type 0} → (D → DiskState) → (S → ShelfState D) → (had has : S)
    → (same : Type 0) → (status : ℕ) → (old new : Devices) → Type 0
ReplaysOnce state seen had has same status old new =
    PlaysOnce (λ s. EndsKept (replayed.Leaves s) state seen had has s)
    (Done IsRun state (seen had) (seen has)) state (seen had) (seen has) same status old new

-- it was run; the same of a history that the nodes made by themselves, to its end
abbrev pub RunsOnce : {D S : Type 0} → (D → DiskState) → (S → ShelfState D) → (had has : S)
    → (same : Type 0) → (status : ℕ) → (old new : Devices) → Type 0
RunsOnce state seen had has same status old new =
    PlaysOnce (λ s. EndsKept (ran.Leaves s) state seen had has s)
    (Done IsRunOf state (seen had) (seen has)) state (seen had) (seen has) same status old new

-- a call listed the frames of a source once
pub record ListsOnce (status : ℕ) (old new : Devices) : Type 0 where
  pub frames : TellsFrames status old new
  pub faults : TellsFaults (with_failures frames_statuses) status old new
