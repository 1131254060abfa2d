-- What a good judgement says of the history.
use Rattle.std.specs.Prelude.{◌≡◌, List, ℕ}
use Rattle.scenario_form.specs.declared.scenarios.Scenario.{Scenario}
use Rattle.scenario_reader.specs.Reading.{IsScenario}
use Rattle.history_rules.specs.Nodes.{no_past}
use Rattle.history_rules.specs.Histories.{Moment, Legal}
use Rattle.history_law.specs.Safety.{IsSafeHistory}
use Rattle.history_text.specs.Report.{report}
use Rattle.history_text.specs.Worlds.{world_of}
use Rattle.report_judge.specs.Lines.{first_line, behind_line}
use Rattle.report_judge.specs.Judging.{Judges}
use Rattle.report_judge.specs.declared.judgements.Judgement.TheVariants as judgement

-- a scenario stands in the first line of the input, and behind it the report of a legal history of it, which is safe
pub record HasSafeReport (bytes : List ℕ) : Type 0 where
  pub scenario : Scenario
  pub is_scenario : IsScenario (first_line bytes) scenario
  pub history : List Moment
  pub legal : Legal (world_of scenario) no_past history
  pub text : behind_line bytes ≡ report scenario no_past history
  pub safe : IsSafeHistory (world_of scenario) no_past history

-- an input that is judged legal has one
abbrev pub LegalIsSafe : Type 0
LegalIsSafe = (bytes : List ℕ) → Judges bytes judgement.Legal → HasSafeReport bytes
