-- For the proofs alone: what the steps of a call answer, from the bytes of an input to the status.
use Rattle.std.specs.Prelude.{◌≡◌, ◌≢◌, ◌⊎◌, ℕ, List, Some, Result, Ok, Err, IfOk, IfErr, string_bytes}
use Rattle.std.specs.Io.KnownBytes.{Appends}
use Rattle.disk_model.specs.Disk.{Rose}
use Rattle.disk_model.specs.Shelf.{ShelfState}
use Rattle.seata_types.specs.declared.limits.TheConstants.{INPUT_BYTES}
use Rattle.scenario_form.specs.declared.scenarios.Scenario.{Scenario}
use Rattle.scenario_form.specs.Runnable.{IsRunnable}
use Rattle.scenario_reader.specs.Reading.{IsScenario}
use Rattle.node_seat.specs.declared.faults.RunFault.{RunFault}
use Rattle.scenario_nodes.specs.Shelves.{ReturnsAll}
use Rattle.lab_calls.specs.declared.answers.Answer.{Answer}
use Rattle.lab_calls.specs.declared.played.Played.{Played}
use Rattle.lab_calls.specs.Answers.{Answers, Ending, IsAnswerTo, IsEndText, IsFaultOf, IsUntouched, TellsShelf, replay_statuses, unread}
use Rattle.lab_calls.specs.Streams.{GainsFront, SourceState, SinkState}

-- the input of a source was answered, or this status says why it wasn't
pub record AnswersInput (most : ℕ) (IsAnswer : List ℕ → List ℕ → ℕ → Type 0) (texts : List ℕ)
    (old new : SourceState) (result : Result Answer ℕ) : Type 0 where
  pub answer : IfOk result (λ a.
      Answers most IsAnswer texts old.left new.left (string_bytes a.text) a.status)
  pub statuses : IfErr result (λ status. (status ≡ 4) ⊎ (status ≡ 6))
  pub failed : IfErr result (λ status. status ≡ 4 → Rose old.faults new.faults)

-- the status of an answer, or of there being none
abbrev pub status_in : Result Answer ℕ → ℕ
status_in (Ok a) = a.status
status_in (Err status) = status

-- the text of an input that is no scenario, with its status
abbrev pub IsRefusal : List ℕ → List ℕ → ℕ → Type 0
IsRefusal input text status = (status ≡ 3) × IsFaultOf input text

-- the source was read and has no scenario, and this is the answer; or this status says why there is none
pub record HasNoScenario (old new : SourceState) (result : Result Answer ℕ) : Type 0 where
  pub input : AnswersInput INPUT_BYTES IsRefusal replay_statuses old new result
  pub unplayed : IsUntouched (Unit {0}) (status_in result) old.left

-- the source was read and has this scenario, which can be run
pub record HasScenario (old new : SourceState) (s : Scenario) : Type 0 where
  pub runnable : IsRunnable s
  pub is_scenario : (input : List ℕ) → old.left ≡ Some input → IsScenario input s
  pub read : (input : List ℕ) → old.left ≡ Some input → new.left ≡ Some (unread input)

-- the scenario of a source was read, or there is this answer without one
abbrev pub ReadsScenario : (old new : SourceState) → Result Scenario (Result Answer ℕ) → Type 0
ReadsScenario old new (Ok s) = HasScenario old new s
ReadsScenario old new (Err result) = HasNoScenario old new result

-- what is told of a scenario that was replayed or run, and ended so; or memory was refused
pub record TellsEnd (s : Scenario) (ended : Result Played RunFault)
    (result : Result Answer ℕ) : Type 0 where
  pub text : IfOk result (λ a. IsEndText s ended (string_bytes a.text) a.status)
  pub no_memory : IfErr result (λ status. status ≡ 6)

-- The scenario of a source was replayed or run on a shelf, which has each disk back that it gave, and
-- told; or this status says why not.
pub record PlaysInput {D : Type 0} (ends : Ending) (had has : ShelfState D) (same : Type 0)
    (old new : SourceState) (result : Result Answer ℕ) : Type 0 where
  pub input : AnswersInput INPUT_BYTES (IsAnswerTo ends) replay_statuses old new result
  pub shelf : TellsShelf ends same (status_in result) old.left new.left
  pub returned : ReturnsAll had has
  pub same_tells : has.tells ≡ had.tells

-- a text was written; at 5, unless that is its own status, the sink failed, and got the front of it
pub record WritesText (text : List ℕ) (status result : ℕ) (old new : SinkState) : Type 0 where
  pub whole : result ≢ 5 → (result ≡ status) × Appends old.written new.written text
  pub front : result ≡ 5 → status ≢ 5
      → Rose old.faults new.faults × GainsFront old.written new.written text

-- the text of an answer was written, if there is one
abbrev pub WritesAnswer : Result Answer ℕ → (result : ℕ) → (old new : SinkState) → Type 0
WritesAnswer (Ok a) result old new = WritesText (string_bytes a.text) a.status result old new
WritesAnswer (Err status) result old new = (result ≡ status) × (new.written ≡ old.written)
