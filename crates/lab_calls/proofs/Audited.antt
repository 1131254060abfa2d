-- What is answered to an input that is judged, and what the status says of it.
use Rattle.std.proofs.Common.{◌≡◌, ◌⊎◌, ◌∙◌, inr, ◌+◌, ◌≤◌, ℕ, Bool, true, false, List, length, Some, Result, Ok, Err, IfOk, IfErr, refl, sym, ap, subst, arith, string_bytes}
use Rattle.std.specs.Io.KnownBytes.{Consumes, IsAtEnd}
use Rattle.disk_model.specs.Disk.{Rose}
use Rattle.seata_types.specs.declared.limits.TheConstants.{HISTORY_BYTES}
use Rattle.history_text.specs.Report.{line}
use Rattle.report_judge.specs.Judging.{Judges}
use Rattle.report_judge.specs.declared.judgements.Judgement.{Judgement}
use Rattle.report_judge.specs.declared.judgements.Judgement.TheVariants as judgement
use Rattle.report_judge.proofs.Found.{is_safe}
use Rattle.report_judge.proofs.Whole.{judges_whole}
use Rattle.lab_calls.specs.declared.answers.Answer.{Answer}
use Rattle.lab_calls.specs.declared.tasks.Task.{Task}
use Rattle.lab_calls.specs.declared.tasks.Task.TheVariants as task
use Rattle.lab_calls.specs.Answers.{is_among}
use Rattle.lab_calls.specs.Auditing.{AuditsOnce, IsJudged, audit_statuses, judgement_status, judgement_text}
use Rattle.lab_calls.specs.Steps.{AnswersInput, WritesAnswer}
use Rattle.lab_calls.specs.Streams.{Devices, SourceState}
use Rattle.lab_calls.proofs.Concluded.{AreTexts, calm, concluded, input_of}

-- no failure is among the statuses that come with a text
audit_texts : AreTexts audit_statuses
audit_texts = record { not_four = refl; not_five = refl; not_six = refl }

-- what is found has one of these
found_known : (found : Judgement) → is_among audit_statuses (judgement_status found) ≡ true
found_known judgement.TooLong = refl
found_known (judgement.NoScenario e) = refl
found_known (judgement.Unreadable n) = refl
found_known (judgement.Illegal n broken) = refl
found_known judgement.IllegalReport = refl
found_known judgement.Legal = refl

-- ---- the answer

pub judged_by : (bytes : List ℕ) (found : Judgement) → Judges bytes found → (r : Result Answer ℕ) → IfOk r (λ a. string_bytes a.text ≡ line (judgement_text found)) → IfOk r (λ a. a.status ≡ judgement_status found)
    → IfOk r (λ a. IsJudged bytes (string_bytes a.text) a.status)
judged_by bytes found judges (Ok a) text status = record { found = found; judges = judges; text_is = text; status_is = status }
judged_by bytes found judges (Err n) text status = tt

-- ---- the input

-- it wasn't read
pub not_read : (old new : SourceState) (n : ℕ) → (n ≡ 4) ⊎ (n ≡ 6) → (n ≡ 4 → Rose old.faults new.faults) → AnswersInput HISTORY_BYTES IsJudged audit_statuses old new (Err n)
not_read old new n known rose = record { answer = tt; statuses = known; failed = rose }

module _ (old new : SourceState) (bytes : List ℕ) (taken : Consumes old.left new.left bytes) (limit : length bytes ≤ HISTORY_BYTES + 1)
    (whole : length bytes ≤ HISTORY_BYTES → IsAtEnd new.left) where
  -- what was found of its bytes is found of it
  judged_whole : (text : List ℕ) (n : ℕ) → IsJudged bytes text n → (input : List ℕ) → old.left ≡ Some input → IsJudged input text n
  judged_whole text n j input told =
      let t = input_of HISTORY_BYTES input bytes old.left new.left taken limit whole told in
      record { found = j.found; judges = judges_whole input j.found (subst (λ b. Judges b j.found) t.bytes_are j.judges); text_is = j.text_is; status_is = j.status_is }

  pub judged_read : (given : List ℕ) → given ≡ bytes → (r : Result Answer ℕ) → IfOk r (λ a. IsJudged given (string_bytes a.text) a.status) → IfErr r (λ n. n ≡ 6)
      → AnswersInput HISTORY_BYTES IsJudged audit_statuses old new r
  judged_read given same (Ok a) text six = record {
    answer = record {
      is_known = ap (is_among audit_statuses) text.status_is ∙ found_known text.found;
      is_answer = λ input told. judged_whole (string_bytes a.text) a.status (subst (λ b. IsJudged b (string_bytes a.text) a.status) same text) input told;
      read = λ input told. (input_of HISTORY_BYTES input bytes old.left new.left taken limit whole told).left_are;
    };
    statuses = tt;
    failed = tt;
  }
  judged_read given same (Err n) text six = not_read old new n (inr six) (λ four. absurd (omega (arith, four, six)))

-- ---- a legal report

legal_of : (input : List ℕ) (found : Judgement) → judgement_status found ≡ 0 → Judges input found → Judges input judgement.Legal
legal_of input judgement.Legal zero j = j
legal_of input judgement.TooLong zero j = absurd (omega (arith, zero))
legal_of input (judgement.NoScenario e) zero j = absurd (omega (arith, zero))
legal_of input (judgement.Unreadable n) zero j = absurd (omega (arith, zero))
legal_of input (judgement.Illegal n broken) zero j = absurd (omega (arith, zero))
legal_of input judgement.IllegalReport zero j = absurd (omega (arith, zero))

-- ---- the call

pub audited_once : (status : ℕ) (old new : Devices) (answer : Result Answer ℕ) → AnswersInput HISTORY_BYTES IsJudged audit_statuses old.source new.source answer → WritesAnswer answer status old.sink new.sink
    → AuditsOnce status old new
audited_once status old new answer read wrote =
    let t = concluded HISTORY_BYTES IsJudged audit_statuses audit_texts status old new answer read wrote in
    record {
      judged = λ known input told. let w = t.written known input told in record { read_to_end = w.read; text = w.text; judged = w.is_answer; printed = w.printed };
      safe = λ zero input told.
          let w = t.written (rw zero refl) input told in
          let j = w.is_answer in
          is_safe input (legal_of input j.found (sym j.status_is ∙ zero) j.judges);
      cut_short = λ five input told. let w = t.front five input told in record { read_to_end = w.read; text = w.text; status = w.status; judged = w.is_answer; printed = w.printed };
      complete = λ still. calm HISTORY_BYTES IsJudged audit_statuses status old new t still;
      faults = t.faults;
    }

-- ---- other words

abbrev pub is_audit : Task → Bool
is_audit task.Audit = true
is_audit _ = false

-- a task is not another one
pub no_audit : {P : Type 0} {t u : Task} → t ≡ u → t ≡ task.Audit → is_audit u ≡ false → P
no_audit one two other = absurd (let no : true ≡ false = sym (ap is_audit (sym one ∙ two)) ∙ other in cc)
