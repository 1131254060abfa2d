-- What status 0 of a replay and of a run says, where the shelf's disks tell their bytes.
use Rattle.std.proofs.Common.{◌≡◌, inl, inr, ℕ, List, Result, Ok, Err, sym, arith}
use Rattle.disk_model.specs.Disk.{DiskState}
use Rattle.disk_model.specs.Shelf.{ShelfState}
use Rattle.scenario_form.specs.declared.scenarios.Scenario.{Scenario}
use Rattle.scenario_reader.specs.Reading.{IsScenario}
use Rattle.history_rules.specs.Nodes.{Past}
use Rattle.history_rules.specs.Histories.{Moment}
use Rattle.history_text.specs.History.{IsRun}
use Rattle.node_seat.specs.declared.faults.RunFault.{RunFault}
use Rattle.node_seat.specs.declared.faults.RunFault.TheVariants as run_fault
use Rattle.scenario_nodes.specs.Nodes.{Held, HoldAll}
use Rattle.replay_runner.specs.Leaving as replayed
use Rattle.replay_runner.specs.Leaving.{GivesBack, Showing}
use Rattle.thread_runner.specs.Running as ran
use Rattle.thread_runner.specs.Running.{IsRunOf}
use Rattle.lab_calls.specs.declared.played.Played.{Played}
use Rattle.lab_calls.specs.Answers.{Done, IsAnswerTo, IsEndText, IsReportOver, Plays, Reported, status_of}
use Rattle.lab_calls.specs.Kept.{EndsKept}
use Rattle.lab_calls.specs.Over.{IsReadOn}
use Rattle.lab_calls.specs.Streams.{Devices}
use Rattle.lab_calls.proofs.Kept.{done_kept, has_base}

-- ---- status 0

pub no_fault_is_done : (missed : RunFault) → 0 ≡ status_of missed → ⊥
no_fault_is_done (run_fault.Store at) e = omega (arith, e)
no_fault_is_done (run_fault.Full at full) e = omega (arith, e)
no_fault_is_done (run_fault.Damaged at second offset) e = omega (arith, e)
no_fault_is_done run_fault.Other e = omega (arith, e)
no_fault_is_done run_fault.NoMemory e = omega (arith, e)

-- a text of status 0 is a report
abbrev pub IsReportOf : {D : Type 0} (Shows : Scenario → Held → Showing) (IsHistory : Scenario → Past → List Moment → Type 0) → (D → DiskState) → Type 1
IsReportOf Shows IsHistory state =
    (old new : ShelfState _) (s : Scenario) (text : List ℕ) (p : Played) (g : GivesBack (Shows s) state old new s (Ok p.history)) → IsReadOn state old s p.before → IsReportOver s p text
    → (held : Held) → HoldAll state old s held → Reported IsHistory state s held g.disks text

module _ {D S : Type 0} (Shows : Scenario → Held → Showing) (IsHistory : Scenario → Past → List Moment → Type 0) (state : D → DiskState) (seen : S → ShelfState D) (reported : IsReportOf Shows IsHistory state) (old new : S) where
  of_end : (s : Scenario) (text : List ℕ) (ended : Result Played RunFault) → EndsKept (Shows s) state seen old new s ended → IsEndText s ended text 0 → Done IsHistory state (seen old) (seen new) s text
  of_end s text (Ok p) (inl k) t =
      let ends = done_kept (Shows s) state seen s old new p k in
      record { disks = ends.0.disks; back = ends.0.back; net = has_base (Shows s) state seen s old new (Ok p) k; reported = reported (seen old) (seen new) s text p ends.0 ends.1 t.1 }
  of_end s text (Ok p) (inr none) t = absurd none
  of_end s text (Err missed) ends t = absurd (no_fault_is_done missed t.1)

  -- also where it was cut short
  pub answer_zero : (input text : List ℕ) → IsAnswerTo (λ s r. EndsKept (Shows s) state seen old new s r) input text 0 → (s : Scenario) × IsScenario input s × Done IsHistory state (seen old) (seen new) s text
  unfolding IsAnswerTo
  answer_zero input text (inl (zero, f)) = absurd (omega (arith, zero))
  answer_zero input text (inr (s, is, r)) = (s, is, of_end s text r.ended r.has_ended r.is_text)

  pub status_zero : (input : List ℕ) (before after : Devices) → (r : Plays (λ s e. EndsKept (Shows s) state seen old new s e) 0 input before after) → Done IsHistory state (seen old) (seen new) r.scenario r.text
  status_zero input before after r = of_end r.scenario r.text r.is_play.ended r.is_play.has_ended r.is_play.is_text

-- ---- the report of a replay, and of a run

pub replay_reported : {D : Type 0} (state : D → DiskState) → IsReportOf replayed.Leaves IsRun state
replay_reported state old new s text p g read report held holds =
    let d = g.leaves held holds in
    record {
      history = d.history;
      is_run = d.is_run;
      is_safe = d.safe;
      is_report = report held.past d.history (read held holds) d.is_run.legal (sym d.printed);
      fits = d.fits;
      device = d.device;
      laid = d.laid;
      sized = d.sized;
    }

pub run_reported : {D : Type 0} (state : D → DiskState) → IsReportOf ran.Leaves IsRunOf state
run_reported state old new s text p g read report held holds =
    let d = g.leaves held holds in
    record {
      history = d.history;
      is_run = d.is_run;
      is_safe = d.safe;
      is_report = report held.past d.history (read held holds) d.is_run.legal (sym d.printed);
      fits = d.fits;
      device = d.device;
      laid = d.laid;
      sized = d.sized;
    }
