-- An input is one scenario, but for the text under which it is kept, or has one fault; and a judgement doesn't go by that text.
use Rattle.std.proofs.Common.{◌≡◌, ◌≢◌, ◌+◌, inl, inr, ℕ, List, [], ◌∷◌, Some, None, Result, Ok, Err, refl, ap, sym, subst, ◌∙◌, ◌⊎◌, arith}
use Rattle.std.proofs.lemmas.Option.{same_Some}
use Rattle.scenario_form.specs.declared.scenarios.ResourceDef.{ResourceDef}
use Rattle.scenario_form.specs.declared.scenarios.Scenario.{Scenario}
use Rattle.scenario_reader.specs.Form.{scenario_of}
use Rattle.scenario_reader.specs.Reading.{IsFault, IsJson, IsNoJson, IsNotJson, IsOtherForm, IsScenario, IsScenarioOf, IsTooLong, with_base}
use Rattle.scenario_reader.specs.declared.errors.ScenarioError.{ScenarioError}
use Rattle.history_rules.specs.Histories.{Legal, Moment}
use Rattle.history_rules.specs.Nodes.{World, no_past}
use Rattle.history_rules.specs.Reports.{report as report_of}
use Rattle.history_rules.specs.ResourceMemory.{Setup}
use Rattle.history_text.specs.declared.entries.Entry.{Entry}
use Rattle.history_text.specs.History.{entries}
use Rattle.history_text.specs.Report.{names_of, report, report_text}
use Rattle.history_text.specs.Worlds.{resources_from, resources_of, setup_of, world_of}
use Rattle.verdict_law.specs.Verdicts.{IsVerdict}
use Rattle.report_judge.specs.Judging.{AreReported, IsFound}
use Rattle.report_judge.specs.declared.judgements.Judgement.{Judgement}
use Rattle.report_judge.specs.declared.judgements.Judgement.TheVariants as judgement

-- ---- one scenario

abbrev scenario_in : (other : Scenario) → Result Scenario ScenarioError → Scenario
scenario_in other (Ok s) = s
scenario_in other (Err e) = other

pub same_form : (line : List ℕ) (r s : Scenario) → IsScenario line r → IsScenario line s → with_base [] r ≡ with_base [] s
unfolding IsScenario IsScenarioOf IsJson
same_form line r s a b =
    let known : a.1 ≡ b.1 = same_Some a.1 b.1 (sym a.2.1 ∙ b.2.1) in
    ap (scenario_in r) (sym a.3.0 ∙ ap scenario_of known ∙ b.3.0)

-- ---- one fault

fault_by : (line : List ℕ) (e f : ScenarioError) → IsTooLong line e ⊎ (IsNotJson line e ⊎ IsOtherForm line e)
    → IsTooLong line f ⊎ (IsNotJson line f ⊎ IsOtherForm line f) → e ≡ f
unfolding IsTooLong IsNotJson IsOtherForm IsJson IsNoJson
fault_by line e f (inl p) (inl q) = p.1 ∙ sym q.1
fault_by line e f (inl p) (inr (inl q)) = let many = p.0 in let short = q.0 in absurd (omega (arith, many, short))
fault_by line e f (inl p) (inr (inr q)) = let many = p.0 in let short = q.0 in absurd (omega (arith, many, short))
fault_by line e f (inr (inl p)) (inl q) = let many = q.0 in let short = p.0 in absurd (omega (arith, many, short))
fault_by line e f (inr (inl p)) (inr (inl q)) = p.2 ∙ sym q.2
fault_by line e f (inr (inl p)) (inr (inr q)) = absurd (let no_one : None ≡ Some q.1 = sym (p.1 q.2.0) ∙ q.2.1 in cc)
fault_by line e f (inr (inr p)) (inl q) = let many = q.0 in let short = p.0 in absurd (omega (arith, many, short))
fault_by line e f (inr (inr p)) (inr (inl q)) = absurd (let no_one : None ≡ Some p.1 = sym (q.1 p.2.0) ∙ p.2.1 in cc)
fault_by line e f (inr (inr p)) (inr (inr q)) =
    let known : p.1 ≡ q.1 = same_Some p.1 q.1 (sym p.2.1 ∙ q.2.1) in
    let twice : ◌≡◌ {A = Result Scenario ScenarioError} (Err e) (Err f) = sym p.3 ∙ ap scenario_of known ∙ q.3 in cc

pub one_fault : (line : List ℕ) (e f : ScenarioError) → IsFault line e → IsFault line f → e ≡ f
unfolding IsFault
one_fault line e f a b = fault_by line e f a.1 b.1

-- ---- another text under which a scenario is kept

module _ (s : Scenario) where
  same_from : (n : ℕ) (defs : List ResourceDef) → resources_from (with_base [] s) n defs ≡ resources_from s n defs
  same_from n [] = refl
  same_from n (def ∷ defs) = ap (λ (rest : List Setup). setup_of s n def ∷ rest) (same_from (n + 1) defs)

  same_resources : resources_of (with_base [] s) ≡ resources_of s
  unfolding resources_of
  same_resources = same_from 1 s.resources

  same_world : world_of (with_base [] s) ≡ world_of s
  same_world = ap (λ (rs : List Setup). record (world_of s) { resources = rs }) same_resources

  same_report : (ms : List Moment) → report (with_base [] s) no_past ms ≡ report s no_past ms
  unfolding report
  same_report ms = ap (λ (w : World). report_text (names_of s) (entries ms) (report_of w no_past ms)) same_world

  same_reported : (es : List Entry) (Holds : List ℕ → Type 0) → AreReported s es Holds → AreReported (with_base [] s) es Holds
  same_reported es Holds r = record {
    history = r.history;
    legal = subst (λ (w : World). Legal w no_past r.history) (sym same_world) r.legal;
    printed = r.printed;
    holds = subst Holds (sym (same_report r.history)) r.holds;
  }

  pub same_found : (text : List ℕ) (found : Judgement) → IsFound s text found → IsFound (with_base [] s) text found
  same_found text judgement.TooLong f = f
  same_found text (judgement.NoScenario e) f = f
  same_found text (judgement.Unreadable n) f = f
  same_found text (judgement.Illegal n rule) f = (f.0, f.1, subst (λ (w : World). IsVerdict w no_past f.0 (Some (n, rule))) (sym same_world) f.2)
  same_found text judgement.IllegalReport f = (f.0, f.1, same_reported f.0 (λ told. text ≢ told) f.2)
  same_found text judgement.Legal f = (f.0, f.1, same_reported f.0 (λ told. text ≡ told) f.2)
