-- What a call tells that judges a report.
use Rattle.std.specs.Prelude.{◌≡◌, ◌⊎◌, ◌++◌, ℕ, List, [], ◌∷◌, true, Some, codes}
use Rattle.std.specs.Fmt.{decimal}
use Rattle.std.specs.Io.KnownBytes.{Appends}
use Rattle.seata_types.specs.declared.limits.TheConstants.{HISTORY_BYTES}
use Rattle.history_text.specs.Report.{line}
use Rattle.report_judge.specs.Judging.{Judges}
use Rattle.report_judge.specs.Safe.{HasSafeReport}
use Rattle.report_judge.specs.declared.judgements.Judgement.{Judgement}
use Rattle.report_judge.specs.declared.judgements.Judgement.TheVariants as judgement
use Rattle.verdict_law.specs.Rules.{rule_text}
use Rattle.lab_calls.specs.Answers.{TellsFaults, fault_text, is_among, unread_past, with_failures}
use Rattle.lab_calls.specs.Streams.{Devices, GainsFront, IsCalm}

-- ---- the text

-- the line of what is found of an input
abbrev pub judgement_text : Judgement → List ℕ
judgement_text judgement.TooLong =
    codes "input: over " ++ (decimal HISTORY_BYTES ++ codes " bytes")
judgement_text (judgement.NoScenario e) = fault_text e
judgement_text (judgement.Unreadable n) = codes "history: " ++ decimal n
judgement_text (judgement.Illegal n broken) =
    codes "illegal at " ++ (decimal n ++ (codes " " ++ rule_text broken))
judgement_text judgement.IllegalReport = codes "illegal report"
judgement_text judgement.Legal = codes "legal"

-- and the status with it
abbrev pub judgement_status : Judgement → ℕ
judgement_status judgement.TooLong = 3
judgement_status (judgement.NoScenario e) = 3
judgement_status (judgement.Unreadable n) = 3
judgement_status (judgement.Illegal n broken) = 10
judgement_status judgement.IllegalReport = 10
judgement_status judgement.Legal = 0

-- the statuses of an audit that come with a text
abbrev pub audit_statuses : List ℕ
audit_statuses = 0 ∷ 3 ∷ 10 ∷ []

-- a text and its status tell what is found of an input
pub record IsJudged (input text : List ℕ) (status : ℕ) : Type 0 where
  pub found : Judgement
  pub judges : Judges input found
  pub text_is : text ≡ line (judgement_text found)
  pub status_is : status ≡ judgement_status found

-- ---- the call

-- the source was read as far as such inputs are, and the sink got the line of what is found
pub record Audits (status : ℕ) (input : List ℕ) (old new : Devices) : Type 0 where
  pub read_to_end : new.source.left ≡ Some (unread_past HISTORY_BYTES input)
  pub text : List ℕ
  pub judged : IsJudged input text status
  pub printed : Appends old.sink.written new.sink.written text

-- the same, and the sink got the front of the line that another status would have
pub record CutsAudit (input : List ℕ) (old new : Devices) : Type 0 where
  pub read_to_end : new.source.left ≡ Some (unread_past HISTORY_BYTES input)
  pub text : List ℕ
  pub status : ℕ
  pub judged : IsJudged input text status
  pub printed : GainsFront old.sink.written new.sink.written text

-- A call judged the report of a source once, where its bytes are told: 0 is for a legal one, whose
-- history is safe, 10 for one that isn't, and 3 for an input that is no scenario with a report, or too
-- long. At 4 the source failed, at 5 the sink did, and at 6 memory was refused.
pub record AuditsOnce (status : ℕ) (old new : Devices) : Type 0 where
  pub judged : is_among audit_statuses status ≡ true → (input : List ℕ)
      → old.source.left ≡ Some input → Audits status input old new
  pub safe : status ≡ 0 → (input : List ℕ) → old.source.left ≡ Some input → HasSafeReport input
  pub cut_short : status ≡ 5 → (input : List ℕ) → old.source.left ≡ Some input
      → CutsAudit input old new
  pub complete : IsCalm old new → (is_among audit_statuses status ≡ true) ⊎ (status ≡ 6)
  pub faults : TellsFaults (with_failures audit_statuses) status old new
