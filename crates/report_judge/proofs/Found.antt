-- What is found of the text behind a scenario is found of the input.
use Rattle.std.proofs.Common.{◌≡◌, ◌≢◌, ◌≤◌, List, ℕ, length, Result, Ok, Err, refl, subst, sym}
use Rattle.std.specs.Prelude.{IfOk}
use Rattle.seata_types.specs.declared.copies.NoMemory.{NoMemory}
use Rattle.seata_types.specs.declared.limits.TheConstants.{HISTORY_BYTES}
use Rattle.scenario_form.specs.declared.scenarios.Scenario.{Scenario}
use Rattle.scenario_reader.proofs.RunnableFacts.{given}
use Rattle.scenario_reader.specs.Reading.{IsScenario, IsFault}
use Rattle.scenario_reader.specs.declared.errors.ScenarioError.{ScenarioError}
use Rattle.scenario_reader.specs.declared.errors.ScenarioError.TheVariants as fault
use Rattle.history_rules.specs.Chains.{IsBlankPast}
use Rattle.history_rules.specs.Nodes.{no_past}
use Rattle.history_law.proofs.SafetyHistory.{safety_law}
use Rattle.history_text.specs.Worlds.{world_of}
use Rattle.verdict_law.proofs.Modes.{is_world}
use Rattle.report_judge.specs.Lines.{behind_line, first_line}
use Rattle.report_judge.specs.Judging.{IsBehindScenario, IsFound, Judges}
use Rattle.report_judge.specs.Safe.{HasSafeReport}
use Rattle.report_judge.specs.declared.judgements.Judgement.{Judgement}
use Rattle.report_judge.specs.declared.judgements.Judgement.TheVariants as judgement

behind : (bytes : List ℕ) (found : Judgement) → length bytes ≤ HISTORY_BYTES → (s : Scenario) → IsScenario (first_line bytes) s → IsFound s (behind_line bytes) found
    → IsBehindScenario bytes found
behind bytes found short s is f = record { short = short; scenario = s; is_scenario = is; is_found = f }

pub judges : (bytes : List ℕ) (found : Judgement) → length bytes ≤ HISTORY_BYTES → (s : Scenario) → IsScenario (first_line bytes) s
    → IsFound s (behind_line bytes) found → Judges bytes found
unfolding Judges
judges bytes judgement.TooLong short s is f = absurd f
judges bytes (judgement.NoScenario error) short s is f = absurd f
judges bytes (judgement.Unreadable line) short s is f = behind bytes (judgement.Unreadable line) short s is f
judges bytes (judgement.Illegal number rule) short s is f = behind bytes (judgement.Illegal number rule) short s is f
judges bytes judgement.IllegalReport short s is f = behind bytes judgement.IllegalReport short s is f
judges bytes judgement.Legal short s is f = behind bytes judgement.Legal short s is f

-- of the two parts that an input is cut into
module _ (bytes line text : List ℕ) (short : length bytes ≤ HISTORY_BYTES) (line_is : line ≡ first_line bytes) where
  pub judged : text ≡ behind_line bytes → (s : Scenario) → IsScenario line s → (r : Result Judgement NoMemory) → IfOk r (IsFound s text) → IfOk r (Judges bytes)
  judged text_is s is (Ok found) f =
      judges bytes found short s (subst (λ l. IsScenario l s) line_is is) (subst (λ t. IsFound s t found) text_is f)
  judged text_is s is (Err missed) f = tt

  pub refused : (e : ScenarioError) → (e ≢ fault.NoMemory → IsFault line e) → (r : Result Judgement NoMemory)
      → IfOk r (λ found. (e ≢ fault.NoMemory) × (found ≡ judgement.NoScenario e)) → IfOk r (Judges bytes)
  unfolding Judges
  refused e has (Ok found) f =
      subst (Judges bytes) (sym f.1) (short, subst (λ l. IsFault l e) line_is (has f.0))
  refused e has (Err missed) f = tt

-- ---- a good judgement

blank : IsBlankPast no_past
blank = record { sessions = refl; resources = λ n. (0, refl) }

pub is_safe : (bytes : List ℕ) → Judges bytes judgement.Legal → HasSafeReport bytes
unfolding Judges
is_safe bytes j =
    let reported = j.is_found.2 in record {
      scenario = j.scenario;
      is_scenario = j.is_scenario;
      history = reported.history;
      legal = reported.legal;
      text = reported.holds;
      safe = safety_law (world_of j.scenario) no_past reported.history (is_world j.scenario (given (first_line bytes) j.scenario j.is_scenario)) blank reported.legal;
    }
