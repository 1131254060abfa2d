-- An input has one judgement.
use Rattle.std.proofs.Common.{◌≡◌, ◌≢◌, ◌≤◌, ◌<◌, ℕ, List, [], Option, Some, None, Result, Ok, Err, length, refl, ap, sym, subst, ◌∙◌, arith}
use Rattle.seata_types.specs.declared.limits.TheConstants.{HISTORY_BYTES}
use Rattle.scenario_form.specs.declared.scenarios.Scenario.{Scenario}
use Rattle.scenario_reader.proofs.Causes.{scenario_has_no_fault}
use Rattle.scenario_reader.specs.Reading.{IsFault, with_base}
use Rattle.scenario_reader.specs.declared.errors.ScenarioError.{ScenarioError}
use Rattle.history_rules.specs.Nodes.{no_past}
use Rattle.history_text.specs.declared.entries.Entry.{Entry}
use Rattle.history_text.specs.Report.{names_of, report}
use Rattle.history_text.specs.Worlds.{world_of}
use Rattle.verdict_law.proofs.Judged.{agree}
use Rattle.verdict_law.proofs.Told.{entries_tell}
use Rattle.verdict_law.specs.Verdicts.{AreLegal, IsVerdict}
use Rattle.verdict_law.specs.declared.rules.Rule.{Rule}
use Rattle.report_judge.specs.Exact.{JudgementsAgree}
use Rattle.report_judge.specs.Judging.{AreReported, IsBehindScenario, IsFound, Judges}
use Rattle.report_judge.specs.Lines.{behind_line, first_line}
use Rattle.report_judge.specs.Reading.{Reads}
use Rattle.report_judge.specs.declared.judgements.Judgement.{Judgement}
use Rattle.report_judge.specs.declared.judgements.Judgement.TheVariants as judgement
use Rattle.report_judge.proofs.OneReading.{one_reading}
use Rattle.report_judge.proofs.OneScenario.{one_fault, same_form, same_found}

-- ---- of the text behind one scenario

abbrev number_in : Result (List Entry) ℕ → ℕ
number_in (Ok es) = 0
number_in (Err n) = n

abbrev broken_in : Option (ℕ × Rule) → Judgement
broken_in None = judgement.Legal
broken_in (Some (n, rule)) = judgement.Illegal n rule

module _ (s : Scenario) (text : List ℕ) where
  same_entries : (es fs : List Entry) → Reads (names_of s) text (Ok es) → Reads (names_of s) text (Ok fs) → es ≡ fs
  same_entries es fs a b = let is : Ok es ≡ Ok fs = one_reading (names_of s) text (Ok es) (Ok fs) a b in cc

  unread : (n : ℕ) (es : List Entry) → Reads (names_of s) text (Err n) → Reads (names_of s) text (Ok es) → ⊥
  unread n es a b = let is : Err n ≡ Ok es = one_reading (names_of s) text (Err n) (Ok es) a b in cc

  legal_of : (es : List Entry) (Holds : List ℕ → Type 0) → AreReported s es Holds → AreLegal (world_of s) no_past es
  legal_of es Holds r = record { history = r.history; legal = r.legal; printed = r.printed }

  -- legal entries break no rule
  unbroken : (n : ℕ) (rule : Rule) (es fs : List Entry) (Holds : List ℕ → Type 0)
      → Reads (names_of s) text (Ok es) → IsVerdict (world_of s) no_past es (Some (n, rule))
      → Reads (names_of s) text (Ok fs) → AreReported s fs Holds → ⊥
  unbroken n rule es fs Holds a v b r =
      let broken = subst (λ xs. IsVerdict (world_of s) no_past xs (Some (n, rule))) (same_entries es fs a b) v in
      let no_one : ◌≡◌ {A = Option (ℕ × Rule)} (Some (n, rule)) None = agree (world_of s) no_past fs (Some (n, rule)) None broken (legal_of fs Holds r) in cc

  -- they have one report
  one_report : (es fs : List Entry) → Reads (names_of s) text (Ok es) → AreReported s es (λ told. text ≢ told)
      → Reads (names_of s) text (Ok fs) → AreReported s fs (λ told. text ≡ told) → ⊥
  one_report es fs a r b q =
      let same = entries_tell (world_of s) no_past q.history r.history q.legal r.legal (q.printed ∙ sym (same_entries es fs a b) ∙ sym r.printed) in
      r.holds (q.holds ∙ ap (report s no_past) same)

  of_unreadable : (n : ℕ) → Reads (names_of s) text (Err n) → (other : Judgement) → IsFound s text other → judgement.Unreadable n ≡ other
  of_unreadable n a judgement.TooLong b = absurd b
  of_unreadable n a (judgement.NoScenario e) b = absurd b
  of_unreadable n a (judgement.Unreadable m) b = ap (λ k. judgement.Unreadable k) (ap number_in (one_reading (names_of s) text (Err n) (Err m) a b))
  of_unreadable n a (judgement.Illegal m rule) b = absurd (unread n b.0 a b.1)
  of_unreadable n a judgement.IllegalReport b = absurd (unread n b.0 a b.1)
  of_unreadable n a judgement.Legal b = absurd (unread n b.0 a b.1)

  of_illegal : (n : ℕ) (rule : Rule) → (a : IsFound s text (judgement.Illegal n rule)) → (other : Judgement) → IsFound s text other → judgement.Illegal n rule ≡ other
  of_illegal n rule a judgement.TooLong b = absurd b
  of_illegal n rule a (judgement.NoScenario e) b = absurd b
  of_illegal n rule a (judgement.Unreadable m) b = absurd (unread m a.0 b a.1)
  of_illegal n rule a (judgement.Illegal m other) b =
      let first = subst (λ xs. IsVerdict (world_of s) no_past xs (Some (n, rule))) (same_entries a.0 b.0 a.1 b.1) a.2 in
      ap broken_in (agree (world_of s) no_past b.0 (Some (n, rule)) (Some (m, other)) first b.2)
  of_illegal n rule a judgement.IllegalReport b = absurd (unbroken n rule a.0 b.0 (λ told. text ≢ told) a.1 a.2 b.1 b.2)
  of_illegal n rule a judgement.Legal b = absurd (unbroken n rule a.0 b.0 (λ told. text ≡ told) a.1 a.2 b.1 b.2)

  of_illegal_report : (a : IsFound s text judgement.IllegalReport) → (other : Judgement) → IsFound s text other → judgement.IllegalReport ≡ other
  of_illegal_report a judgement.TooLong b = absurd b
  of_illegal_report a (judgement.NoScenario e) b = absurd b
  of_illegal_report a (judgement.Unreadable m) b = absurd (unread m a.0 b a.1)
  of_illegal_report a (judgement.Illegal m rule) b = absurd (unbroken m rule b.0 a.0 (λ told. text ≢ told) b.1 b.2 a.1 a.2)
  of_illegal_report a judgement.IllegalReport b = refl
  of_illegal_report a judgement.Legal b = absurd (one_report a.0 b.0 a.1 a.2 b.1 b.2)

  of_legal : (a : IsFound s text judgement.Legal) → (other : Judgement) → IsFound s text other → judgement.Legal ≡ other
  of_legal a judgement.TooLong b = absurd b
  of_legal a (judgement.NoScenario e) b = absurd b
  of_legal a (judgement.Unreadable m) b = absurd (unread m a.0 b a.1)
  of_legal a (judgement.Illegal m rule) b = absurd (unbroken m rule b.0 a.0 (λ told. text ≡ told) b.1 b.2 a.1 a.2)
  of_legal a judgement.IllegalReport b = absurd (one_report b.0 a.0 b.1 b.2 a.1 a.2)
  of_legal a judgement.Legal b = refl

  one_found : (one other : Judgement) → IsFound s text one → IsFound s text other → one ≡ other
  one_found judgement.TooLong other a b = absurd a
  one_found (judgement.NoScenario e) other a b = absurd a
  one_found (judgement.Unreadable n) other a b = of_unreadable n a other b
  one_found (judgement.Illegal n rule) other a b = of_illegal n rule a other b
  one_found judgement.IllegalReport other a b = of_illegal_report a other b
  one_found judgement.Legal other a b = of_legal a other b

-- ---- of an input

module _ (bytes : List ℕ) where
  not_long : length bytes ≤ HISTORY_BYTES → HISTORY_BYTES < length bytes → ⊥
  not_long short long = omega (arith, short, long)

  of_scenario : (one other : Judgement) → IsBehindScenario bytes one → IsBehindScenario bytes other → one ≡ other
  of_scenario one other a b =
      let text = behind_line bytes in
      let same = same_form (first_line bytes) b.scenario a.scenario b.is_scenario a.is_scenario in
      one_found (with_base [] a.scenario) text one other (same_found a.scenario text one a.is_found)
      (subst (λ (v : Scenario). IsFound v text other) same (same_found b.scenario text other b.is_found))

  of_too_long : HISTORY_BYTES < length bytes → (other : Judgement) → Judges bytes other → judgement.TooLong ≡ other
  unfolding Judges
  of_too_long a judgement.TooLong b = refl
  of_too_long a (judgement.NoScenario e) b = absurd (not_long b.0 a)
  of_too_long a (judgement.Unreadable n) b = absurd (not_long b.short a)
  of_too_long a (judgement.Illegal n rule) b = absurd (not_long b.short a)
  of_too_long a judgement.IllegalReport b = absurd (not_long b.short a)
  of_too_long a judgement.Legal b = absurd (not_long b.short a)

  no_fault : (found : Judgement) (e : ScenarioError) → IsBehindScenario bytes found → IsFault (first_line bytes) e → ⊥
  no_fault found e b fault = scenario_has_no_fault (first_line bytes) b.scenario e b.is_scenario fault

  of_fault : (e : ScenarioError) → length bytes ≤ HISTORY_BYTES → IsFault (first_line bytes) e → (other : Judgement) → Judges bytes other → judgement.NoScenario e ≡ other
  unfolding Judges
  of_fault e short a judgement.TooLong b = absurd (not_long short b)
  of_fault e short a (judgement.NoScenario f) b = ap (λ x. judgement.NoScenario x) (one_fault (first_line bytes) e f a b.1)
  of_fault e short a (judgement.Unreadable n) b = absurd (no_fault (judgement.Unreadable n) e b a)
  of_fault e short a (judgement.Illegal n rule) b = absurd (no_fault (judgement.Illegal n rule) e b a)
  of_fault e short a judgement.IllegalReport b = absurd (no_fault judgement.IllegalReport e b a)
  of_fault e short a judgement.Legal b = absurd (no_fault judgement.Legal e b a)

  of_found : (one : Judgement) → IsBehindScenario bytes one → (other : Judgement) → Judges bytes other → one ≡ other
  unfolding Judges
  of_found one a judgement.TooLong b = absurd (not_long a.short b)
  of_found one a (judgement.NoScenario e) b = absurd (no_fault one e a b.1)
  of_found one a (judgement.Unreadable n) b = of_scenario one (judgement.Unreadable n) a b
  of_found one a (judgement.Illegal n rule) b = of_scenario one (judgement.Illegal n rule) a b
  of_found one a judgement.IllegalReport b = of_scenario one judgement.IllegalReport a b
  of_found one a judgement.Legal b = of_scenario one judgement.Legal a b

  one_judgement : (one other : Judgement) → Judges bytes one → Judges bytes other → one ≡ other
  unfolding Judges
  one_judgement judgement.TooLong other a b = of_too_long a other b
  one_judgement (judgement.NoScenario e) other a b = of_fault e a.0 a.1 other b
  one_judgement (judgement.Unreadable n) other a b = of_found (judgement.Unreadable n) a other b
  one_judgement (judgement.Illegal n rule) other a b = of_found (judgement.Illegal n rule) a other b
  one_judgement judgement.IllegalReport other a b = of_found judgement.IllegalReport a other b
  one_judgement judgement.Legal other a b = of_found judgement.Legal a other b

pub judgements_agree : JudgementsAgree
judgements_agree = one_judgement
