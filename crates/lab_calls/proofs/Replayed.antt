-- What the status of a replay or a run says.
use Rattle.std.proofs.Common.{◌≡◌, ◌⊎◌, inl, inr, ◌||◌, ℕ, nat_eq, Bool, true, false, List, [], ◌∷◌, Some, Result, Ok, Err, refl, ap, subst, sym, ◌∙◌, arith}
use Rattle.std.proofs.lemmas.Bool.Decides.{nat_tests}
use Rattle.scenario_reader.proofs.Causes.{scenario_has_no_fault, scenario_is_short}
use Rattle.scenario_reader.specs.Reading.{IsScenario}
use Rattle.scenario_form.specs.declared.scenarios.Scenario.{Scenario}
use Rattle.seata_types.specs.declared.limits.TheConstants.{INPUT_BYTES}
use Rattle.lab_calls.specs.declared.played.Played.{Played}
use Rattle.node_seat.specs.declared.faults.RunFault.{RunFault}
use Rattle.node_seat.specs.declared.faults.RunFault.TheVariants as run_fault
use Rattle.lab_calls.specs.Answers.{Ending, IsAnswerTo, IsEndText, IsPlayOf, IsFaultOf, Plays, Refuses, TellsPlay, is_among, is_end, replay_statuses, status_of}
use Rattle.lab_calls.specs.Streams.{Devices, IsCalm}
use Rattle.lab_calls.proofs.Concluded.{none_unread, AreTexts, Writes, Concludes, calm}

-- no failure is among the statuses that come with a text
pub replay_texts : AreTexts replay_statuses
replay_texts = record { not_four = refl; not_five = refl; not_six = refl }

-- the status of how a replay or a run ended is one of those that come with a text
pub fault_known : (missed : RunFault) → (missed ≡ run_fault.NoMemory → ⊥) → is_among replay_statuses (status_of missed) ≡ true
fault_known (run_fault.Store at) some = refl
fault_known (run_fault.Full at full) some = refl
fault_known (run_fault.Damaged at second offset) some = refl
fault_known run_fault.Other some = refl
fault_known run_fault.NoMemory some = absurd (some refl)

pub end_known : (s : Scenario) (ended : Result Played RunFault) (text : List ℕ) (n : ℕ) → IsEndText s ended text n → is_among replay_statuses n ≡ true
end_known s (Ok es) text n t = rw t.0 refl
end_known s (Err missed) text n t = ap (is_among replay_statuses) t.1 ∙ fault_known missed t.0

module _ (ends : Ending) where
  module _ (result : ℕ) (old new : Devices) (t : Concludes INPUT_BYTES (IsAnswerTo ends) replay_statuses result old new) where
    -- what was written of a scenario that was replayed or run
    told_by : (input : List ℕ) (w : Writes INPUT_BYTES (IsAnswerTo ends) result input old new) (s : Scenario) → IsScenario input s → IsPlayOf ends s w.text result → Plays ends result input old new
    told_by input w s is r = record {
      read_to_end = none_unread INPUT_BYTES input w.read (scenario_is_short input s is);
      scenario = s;
      is_scenario = is;
      text = w.text;
      is_play = r;
      printed = w.printed;
    }

    replayed_says : is_among (0 ∷ 7 ∷ 8 ∷ 9 ∷ []) result ≡ true → (input : List ℕ) → old.source.left ≡ Some input → Plays ends result input old new
    unfolding IsAnswerTo
    replayed_says known input told = by (t.written (more (nat_eq result 0) (nat_eq result 3) (nat_eq result 7) (nat_eq result 8) (nat_eq result 9) known) input told)
      where
        more : (zero three seven eight nine : Bool) → (zero || (seven || (eight || (nine || false)))) ≡ true → (zero || (three || (seven || (eight || (nine || false))))) ≡ true
        more true three seven eight nine e = refl
        more false true seven eight nine e = refl
        more false false seven eight nine e = e

        by : (w : Writes INPUT_BYTES (IsAnswerTo ends) result input old new) → Plays ends result input old new
        by w = cases w.is_answer
          where
            cases : ((result ≡ 3) × IsFaultOf input w.text) ⊎ ((s : Scenario) × IsScenario input s × IsPlayOf ends s w.text result) → Plays ends result input old new
            cases (inl (st, f)) = absurd (let no : is_among (0 ∷ 7 ∷ 8 ∷ 9 ∷ []) 3 ≡ true = ap (is_among (0 ∷ 7 ∷ 8 ∷ 9 ∷ [])) (sym st) ∙ known in let never : false ≡ true = no in cc)
            cases (inr (s, is, r)) = told_by input w s is r

    refused_says : result ≡ 3 → (input : List ℕ) → old.source.left ≡ Some input → Refuses input old new ⊎ Plays ends 3 input old new
    unfolding IsAnswerTo
    refused_says three input told = by w.is_answer
      where
        w : Writes INPUT_BYTES (IsAnswerTo ends) result input old new
        w = t.written (rw three refl) input told

        by : ((result ≡ 3) × IsFaultOf input w.text) ⊎ ((s : Scenario) × IsScenario input s × IsPlayOf ends s w.text result) → Refuses input old new ⊎ Plays ends 3 input old new
        by (inl (st, refusal)) = inl (record { read_to_end = w.read; text = w.text; is_refusal = refusal; printed = w.printed })
        by (inr (s, is, r)) = inr (subst (λ n. Plays ends n input old new) three (told_by input w s is r))

    -- a scenario is not refused
    not_refused : (input text : List ℕ) (s : Scenario) → IsScenario input s → IsFaultOf input text → ⊥
    unfolding IsFaultOf
    not_refused input text s is (e, f, printed) = scenario_has_no_fault input s e is f

    complete_says : (input : List ℕ) (s : Scenario) → old.source.left ≡ Some input → IsScenario input s → IsCalm old new → (is_end result ≡ true) ⊎ Plays ends 3 input old new
    complete_says input s told is still = by (calm INPUT_BYTES (IsAnswerTo ends) replay_statuses result old new t still)
      where
        other : Refuses input old new ⊎ Plays ends 3 input old new → Plays ends 3 input old new
        other (inl w) = absurd (not_refused input w.text s is w.is_refusal)
        other (inr r) = r

        known : (zero three six seven eight nine : Bool) → nat_eq result 3 ≡ three → (zero || (three || (seven || (eight || (nine || false))))) ≡ true
            → ((zero || (six || (seven || (eight || (nine || false))))) ≡ true) ⊎ Plays ends 3 input old new
        known true three six seven eight nine e among = inl refl
        known false true six seven eight nine e among = inr (other (refused_says (grind (arith, nat_tests)) input told))
        known false false true seven eight nine e among = inl refl
        known false false false seven eight nine e among = inl among

        by : (is_among replay_statuses result ≡ true) ⊎ (result ≡ 6) → (is_end result ≡ true) ⊎ Plays ends 3 input old new
        by (inl among) = known (nat_eq result 0) (nat_eq result 3) (nat_eq result 6) (nat_eq result 7) (nat_eq result 8) (nat_eq result 9) refl among
        by (inr six) = inl (rw six refl)

    pub tells_play : (IsDone : Scenario → List ℕ → Type 0) → ((input text : List ℕ) → IsAnswerTo ends input text 0 → (s : Scenario) × IsScenario input s × IsDone s text)
        → TellsPlay ends IsDone result old new
    tells_play IsDone finish = record {
      replayed = replayed_says;
      refused = refused_says;
      cut_short = λ five input told.
          let w = t.front five input told in
          record {
            read_to_end = w.read;
            text = w.text;
            status = w.status;
            is_answer = w.is_answer;
            done = λ zero. finish input w.text (subst (λ n. IsAnswerTo ends input w.text n) zero w.is_answer);
            printed = w.printed;
          };
      complete = complete_says;
    }
