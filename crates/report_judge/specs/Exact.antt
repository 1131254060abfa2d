-- That an input has one judgement, and that a line which isn't readable is the line of no entry.
use Rattle.std.specs.Prelude.{◌≡◌, ℕ, List, IsUtf8}
use Rattle.scenario_form.specs.declared.scenarios.Scenario.{Scenario}
use Rattle.scenario_form.specs.Runnable.{IsRunnable}
use Rattle.history_text.specs.declared.entries.Entry.{Entry}
use Rattle.history_text.specs.Report.{names_of}
use Rattle.entry_reader.specs.Reading.{IsLineOf}
use Rattle.entry_reader.specs.Types.{IsOfTypes}
use Rattle.report_judge.specs.Judging.{Judges}
use Rattle.report_judge.specs.Reading.{IsReadable}
use Rattle.report_judge.specs.declared.judgements.Judgement.{Judgement}

-- two judgements of the same input are the same
abbrev pub JudgementsAgree : Type 0
JudgementsAgree = (bytes : List ℕ) (one other : Judgement) → Judges bytes one → Judges bytes other → one ≡ other

-- a line that isn't readable with the names of a scenario's nodes is the line of no entry of the program
abbrev pub UnreadableIsNoEntry : Type 0
UnreadableIsNoEntry =
    (s : Scenario) (line : List ℕ) → IsRunnable s → IsUtf8 line → (IsReadable (names_of s) line → ⊥)
    → (e : Entry) → IsOfTypes e → IsLineOf (names_of s) e line → ⊥
