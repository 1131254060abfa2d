-- What a call tells that wrote a made scenario.
use Rattle.std.specs.Prelude.{◌≡◌, ◌⊎◌, ℕ, List, Result, Ok, Err, string_bytes}
use Rattle.std.specs.Io.KnownBytes.{Appends}
use Rattle.disk_model.specs.Disk.{Rose}
use Rattle.history_text.specs.Report.{line}
use Rattle.scenario_maker.specs.Made.{made}
use Rattle.lab_calls.specs.declared.answers.Answer.{Answer}
use Rattle.lab_calls.specs.Streams.{GainsFront, SinkState}

-- the scenario that is made of a number for so many managers, with a line feed
abbrev pub made_text : (number size : ℕ) → List ℕ
made_text n size = line (made n size)

-- A call wrote it: at 0 the sink got all of it; at 5 the sink failed, and got the front of it; at 6
-- memory was refused, and nothing was written.
pub record MakesOnce (n size status : ℕ) (old new : SinkState) : Type 0 where
  pub statuses : (status ≡ 0) ⊎ ((status ≡ 5) ⊎ (status ≡ 6))
  pub written : status ≡ 0 → Appends old.written new.written (made_text n size)
  pub cut_short : status ≡ 5 → GainsFront old.written new.written (made_text n size)
  pub sink_failed : status ≡ 5 → Rose old.faults new.faults
  pub no_memory : status ≡ 6 → new.written ≡ old.written

-- for the proofs alone: the text was made, or memory was refused
abbrev pub AnswersMade : (number size : ℕ) → Result Answer ℕ → Type 0
AnswersMade n size (Ok a) = (string_bytes a.text ≡ made_text n size) × (a.status ≡ 0)
AnswersMade n size (Err status) = status ≡ 6
