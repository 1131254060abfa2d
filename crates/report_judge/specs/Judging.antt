-- What is found of an input: a scenario in its first line, and behind it a report.
use Rattle.std.specs.Prelude.{◌≡◌, ◌≢◌, ◌≤◌, ◌<◌, List, ℕ, length, Some, Ok, Err}
use Rattle.seata_types.specs.declared.limits.TheConstants.{HISTORY_BYTES}
use Rattle.scenario_form.specs.declared.scenarios.Scenario.{Scenario}
use Rattle.scenario_reader.specs.Reading.{IsScenario, IsFault}
use Rattle.history_rules.specs.Nodes.{no_past}
use Rattle.history_rules.specs.Histories.{Moment, Legal}
use Rattle.history_text.specs.declared.entries.Entry.{Entry}
use Rattle.history_text.specs.History.{entries}
use Rattle.history_text.specs.Report.{names_of, report}
use Rattle.history_text.specs.Worlds.{world_of}
use Rattle.verdict_law.specs.Verdicts.{IsVerdict}
use Rattle.report_judge.specs.Lines.{first_line, behind_line}
use Rattle.report_judge.specs.Reading.{Reads}
use Rattle.report_judge.specs.declared.judgements.Judgement.{Judgement}
use Rattle.report_judge.specs.declared.judgements.Judgement.TheVariants as judgement

-- the entries are those of a legal history on disks without records, and this holds of its report
pub record AreReported (s : Scenario) (es : List Entry) (Holds : List ℕ → Type 0) : Type 0 where
  pub history : List Moment
  pub legal : Legal (world_of s) no_past history
  pub printed : entries history ≡ es
  pub holds : Holds (report s no_past history)

-- the text's lines are read as entries, and this holds of them
abbrev pub IsReadAs : Scenario → List ℕ → (List Entry → Type 0) → Type 0
IsReadAs s text holds = (es : List Entry) × Reads (names_of s) text (Ok es) × holds es

-- what is found of the text behind a scenario
abbrev pub IsFound : Scenario → List ℕ → Judgement → Type 0
IsFound s text (judgement.Unreadable line) = Reads (names_of s) text (Err line)
IsFound s text (judgement.Illegal number broken) = IsReadAs s text (λ es. IsVerdict (world_of s) no_past es (Some (number, broken)))
IsFound s text judgement.IllegalReport = IsReadAs s text (λ es. AreReported s es (λ told. text ≢ told))
IsFound s text judgement.Legal = IsReadAs s text (λ es. AreReported s es (λ told. text ≡ told))
IsFound s text _ = ⊥

-- a scenario stands in the first line, and this is found of the text behind it
pub record IsBehindScenario (bytes : List ℕ) (found : Judgement) : Type 0 where
  pub short : length bytes ≤ HISTORY_BYTES
  pub scenario : Scenario
  pub is_scenario : IsScenario (first_line bytes) scenario
  pub is_found : IsFound scenario (behind_line bytes) found

-- what is found of an input
unfoldable pub Judges : List ℕ → Judgement → Type 0
Judges bytes judgement.TooLong = HISTORY_BYTES < length bytes
Judges bytes (judgement.NoScenario error) = (length bytes ≤ HISTORY_BYTES) × IsFault (first_line bytes) error
Judges bytes found = IsBehindScenario bytes found
