-- What a call that replayed or ran the scenario of a source tells by its status.
use Rattle.std.proofs.Common.{ℕ, List, Result, refl, subst}
use Rattle.disk_model.specs.Disk.{DiskState}
use Rattle.disk_model.specs.Shelf.{ShelfState}
use Rattle.scenario_form.specs.declared.scenarios.Scenario.{Scenario}
use Rattle.seata_types.specs.declared.limits.TheConstants.{INPUT_BYTES}
use Rattle.history_rules.specs.Nodes.{Past}
use Rattle.history_rules.specs.Histories.{Moment}
use Rattle.scenario_nodes.specs.Nodes.{Held}
use Rattle.replay_runner.specs.Leaving.{Showing}
use Rattle.replay_runner.proofs.Calm.{NeverDamaged}
use Rattle.lab_calls.specs.declared.answers.Answer.{Answer}
use Rattle.lab_calls.specs.Answers.{Done, Ending, IsAnswerTo, Plays, replay_statuses}
use Rattle.lab_calls.specs.Once.{PlaysOnce}
use Rattle.lab_calls.specs.Kept.{EndsKept}
use Rattle.lab_calls.specs.Steps.{PlaysInput, WritesAnswer}
use Rattle.lab_calls.specs.Streams.{Devices}
use Rattle.lab_calls.proofs.CalmStatus.{calm_status}
use Rattle.lab_calls.proofs.Concluded.{concluded}
use Rattle.lab_calls.proofs.Headline.{IsReportOf, answer_zero, status_zero}
use Rattle.lab_calls.proofs.Kept.{tells_base, tells_sound}
use Rattle.lab_calls.proofs.Replayed.{replay_texts, tells_play}
use Rattle.lab_calls.proofs.Shelved.{shelf_told}

module _ {D S : Type 0} (Shows : Scenario → Held → Showing) (never : (s : Scenario) (held : Held) → NeverDamaged (Shows s held)) (IsHistory : Scenario → Past → List Moment → Type 0) (state : D → DiskState)
    (seen : S → ShelfState D) (reported : IsReportOf Shows IsHistory state) (had has : S) (same : Type 0) where
  abbrev ends : Ending
  ends s r = EndsKept (Shows s) state seen had has s r

  pub plays_once : (status : ℕ) (old new : Devices) (answer : Result Answer ℕ) → PlaysInput ends (seen had) (seen has) same old.source new.source answer
      → WritesAnswer answer status old.sink new.sink → PlaysOnce ends (Done IsHistory state (seen had) (seen has)) state (seen had) (seen has) same status old new
  plays_once status old new answer read wrote =
      let t = concluded INPUT_BYTES (IsAnswerTo ends) replay_statuses replay_texts status old new answer read.input wrote in
      let said = tells_play ends status old new t (Done IsHistory state (seen had) (seen has)) (answer_zero Shows IsHistory state seen reported had has) in
      record {
        tells = said;
        done = λ zero input told.
            let r = subst (λ n. Plays ends n input old new) zero (said.replayed (rw zero refl) input told) in
            (r, status_zero Shows IsHistory state seen reported had has input old new r);
        shelf = shelf_told ends same status old new answer read.input read.shelf wrote;
        base = λ input r held holds records net.
            tells_base (Shows r.scenario) state seen r.scenario held (never r.scenario held) had has holds records net r.is_play.ended r.text status r.is_play.has_ended r.is_play.is_text;
        sound = λ known input r.
            tells_sound (Shows r.scenario) state seen r.scenario had has r.is_play.ended r.text status r.is_play.has_ended r.is_play.is_text known;
        calm = λ still input s told is held holds shelf net. calm_status Shows never state seen had has read.same_tells status old new input told s is held holds net said still shelf;
        returned = read.returned;
        same_tells = read.same_tells;
        faults = t.faults;
      }
