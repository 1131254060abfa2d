-- What is answered to the input of a source: without a scenario, and with one.
use Rattle.std.proofs.Common.{◌≡◌, ◌≢◌, ◌⊎◌, inl, inr, ◌+◌, ◌≤◌, ℕ, List, length, Some, Result, Ok, Err, IfOk, IfErr, refl, subst, sym, arith, string_bytes}
use Rattle.std.specs.Io.KnownBytes.{Consumes, IsAtEnd}
use Rattle.disk_model.specs.Disk.{Rose}
use Rattle.disk_model.specs.Shelf.{ShelfState}
use Rattle.seata_types.specs.declared.limits.TheConstants.{INPUT_BYTES}
use Rattle.scenario_reader.proofs.Causes.{fault_of_whole, scenario_has_no_fault, scenario_is_short}
use Rattle.scenario_reader.specs.Reading.{IsFault, IsScenario}
use Rattle.scenario_reader.specs.declared.errors.ScenarioError.{ScenarioError}
use Rattle.scenario_reader.specs.declared.errors.ScenarioError.TheVariants as fault
use Rattle.scenario_form.specs.declared.scenarios.Scenario.{Scenario}
use Rattle.scenario_form.specs.Runnable.{IsRunnable}
use Rattle.scenario_nodes.proofs.Returned.{all_same}
use Rattle.scenario_nodes.specs.Shelves.{ReturnsAll}
use Rattle.lab_calls.specs.declared.played.Played.{Played}
use Rattle.history_text.specs.Report.{line}
use Rattle.node_seat.specs.declared.faults.RunFault.{RunFault}
use Rattle.lab_calls.specs.declared.answers.Answer.{Answer}
use Rattle.lab_calls.specs.Answers.{Ending, HasRead, IsAnswerTo, IsEndText, IsFaultOf, IsLeftByPlay, IsStatusAfter, IsUntouched, ended_status, fault_text}
use Rattle.lab_calls.specs.Steps.{HasNoScenario, HasScenario, PlaysInput, TellsEnd}
use Rattle.lab_calls.specs.Streams.{SourceState}
use Rattle.lab_calls.proofs.Concluded.{all_read, false_true, input_of, longer, none_unread}
use Rattle.lab_calls.proofs.Replayed.{end_known}

-- ---- reading

-- nothing is said of an input that wasn't answered
pub unanswered : (old new : SourceState) (n : ℕ) → (n ≡ 4) ⊎ (n ≡ 6) → (n ≡ 4 → Rose old.faults new.faults) → HasNoScenario old new (Err n)
unanswered old new n known rose = record {
  input = record { answer = tt; statuses = known; failed = rose };
  unplayed = by known;
}
  where
    by : (n ≡ 4) ⊎ (n ≡ 6) → IsUntouched (Unit {0}) n old.left
    by (inl four) = record { is_same = tt; statuses = rw four refl; no_scenario = λ is. false_true (rw four at is) }
    by (inr six) = record { is_same = tt; statuses = rw six refl; no_scenario = λ is. false_true (rw six at is) }

module _ (old new : SourceState) (bytes : List ℕ) (taken : Consumes old.left new.left bytes) (most : length bytes ≤ INPUT_BYTES + 1)
    (whole : length bytes ≤ INPUT_BYTES → IsAtEnd new.left) where
  has_read : (input : List ℕ) → old.left ≡ Some input → HasRead INPUT_BYTES input bytes new.left
  has_read input told = input_of INPUT_BYTES input bytes old.left new.left taken most whole told

  pub scenario_read : (given : List ℕ) → given ≡ bytes → (s : Scenario) → IsScenario given s → IsRunnable s → HasScenario old new s
  scenario_read given same s is runs = record {
    runnable = runs;
    is_scenario = λ input told.
        let of_bytes = subst (λ b. IsScenario b s) same is in
        subst (λ b. IsScenario b s) (sym (all_read (has_read input told) (scenario_is_short bytes s of_bytes))) of_bytes;
    read = λ input told. (has_read input told).left_are;
  }

  -- what keeps the bytes from being a scenario keeps the input
  fault_of : (e : ScenarioError) → IsFault bytes e → (input : List ℕ) → old.left ≡ Some input → IsFault input e
  fault_of e found input told = let t = has_read input told in fault_of_whole bytes input (longer t) (λ short. all_read t short) e found

  pub refused_read : (given : List ℕ) → given ≡ bytes → (e : ScenarioError) → (e ≢ fault.NoMemory → IsFault given e) → (r : Result Answer ℕ) → IfOk r (λ a. e ≢ fault.NoMemory)
      → IfOk r (λ a. string_bytes a.text ≡ line (fault_text e)) → IfOk r (λ a. a.status ≡ 3) → IfErr r (λ n. n ≡ 6) → HasNoScenario old new r
  unfolding IsFaultOf
  refused_read given same e found (Ok a) other text three six = record {
    input = record {
      answer = record {
        is_known = rw three refl;
        is_answer = λ input told. (three, (e, fault_of e (subst (λ b. IsFault b e) same (found other)) input told, text));
        read = λ input told. (has_read input told).left_are;
      };
      statuses = tt;
      failed = tt;
    };
    unplayed = record {
      is_same = tt;
      statuses = rw three refl;
      no_scenario = λ known input s told is. scenario_has_no_fault input s e is (fault_of e (subst (λ b. IsFault b e) same (found other)) input told);
    };
  }
  refused_read given same e found (Err n) other text three six = unanswered old new n (inr six) (λ four. absurd (omega (arith, four, six)))

-- ---- no scenario

pub unplayed : {D : Type 0} (ends : Ending) (shelf : ShelfState D) (same : Type 0) → same → (old new : SourceState) (r : Result Answer ℕ) → HasNoScenario old new r
    → PlaysInput ends shelf shelf same old new r
unfolding IsAnswerTo
unplayed ends shelf same is old new (Ok a) h = record {
  input = record {
    answer = let t = h.input.answer in record { is_known = t.is_known; is_answer = λ input told. inl (t.is_answer input told); read = t.read };
    statuses = tt;
    failed = tt;
  };
  shelf = inl (record { is_same = is; statuses = h.unplayed.statuses; no_scenario = h.unplayed.no_scenario });
  returned = all_same shelf;
  same_tells = refl;
}
unplayed ends shelf same is old new (Err n) h = record {
  input = record { answer = tt; statuses = h.input.statuses; failed = h.input.failed };
  shelf = inl (record { is_same = is; statuses = h.unplayed.statuses; no_scenario = h.unplayed.no_scenario });
  returned = all_same shelf;
  same_tells = refl;
}

-- ---- a scenario, which was replayed or run

end_status : (s : Scenario) (ended : Result Played RunFault) (text : List ℕ) (n : ℕ) → IsEndText s ended text n → n ≡ ended_status ended
end_status s (Ok es) text n t = t.0
end_status s (Err missed) text n t = t.1

module _ {D : Type 0} (ends : Ending) (had has : ShelfState D) (same : Type 0) (returned : ReturnsAll had has) (tells : has.tells ≡ had.tells) (old new : SourceState)
    (s : Scenario) (h : HasScenario old new s) (ended : Result Played RunFault) (so : ends s ended) where
  left_by : (n : ℕ) → IsStatusAfter ended n → IsLeftByPlay ends n old.left new.left
  left_by n known = record {
    scenario = s;
    is_scenario = h.is_scenario;
    read_to_end = λ input told. none_unread INPUT_BYTES input (h.read input told) (scenario_is_short input s (h.is_scenario input told));
    ended = ended;
    has_ended = so;
    is_status = known;
  }

  pub played : (r : Result Answer ℕ) → TellsEnd s ended r → PlaysInput ends had has same old new r
  unfolding IsAnswerTo
  played (Ok a) t = record {
    input = record {
      answer = record {
        is_known = end_known s ended (string_bytes a.text) a.status t.text;
        is_answer = λ input told. inr (s, h.is_scenario input told, record { ended = ended; has_ended = so; is_text = t.text });
        read = h.read;
      };
      statuses = tt;
      failed = tt;
    };
    shelf = inr (left_by a.status (inl (end_status s ended (string_bytes a.text) a.status t.text)));
    returned = returned;
    same_tells = tells;
  }
  played (Err n) t = record {
    input = record { answer = tt; statuses = inr t.no_memory; failed = λ four. absurd (let six = t.no_memory in omega (arith, four, six)) };
    shelf = inr (left_by n (inr (inl t.no_memory)));
    returned = returned;
    same_tells = tells;
  }
