-- What the status says of a call that ran a made scenario.
use Rattle.std.proofs.Common.{◌≡◌, ◌≢◌, ◌⊎◌, inl, inr, ℕ, nat_eq, Bool, true, false, List, [], ◌∷◌, Result, Ok, Err, refl, sym, subst, ◌∙◌, arith, string_bytes}
use Rattle.std.proofs.lemmas.Bool.Decides.{nat_tests}
use Rattle.disk_model.specs.Disk.{DiskState, Rose}
use Rattle.disk_model.specs.Shelf.{ShelfState}
use Rattle.scenario_form.specs.declared.scenarios.Scenario.{Scenario}
use Rattle.scenario_maker.specs.Made.{made}
use Rattle.node_seat.specs.declared.faults.RunFault.{RunFault}
use Rattle.node_seat.specs.declared.faults.RunFault.TheVariants as run_fault
use Rattle.replay_runner.specs.Leaving.{IsCalmEnd, IsCalmShelf}
use Rattle.scenario_nodes.specs.Nodes.{Held, HoldAll}
use Rattle.thread_runner.specs.Running.{Leaves}
use Rattle.thread_runner.proofs.Calm.{never_damaged}
use Rattle.lab_calls.specs.declared.played.Played.{Played}
use Rattle.lab_calls.specs.declared.answers.Answer.{Answer}
use Rattle.lab_calls.specs.Answers.{is_among, is_calm_end}
use Rattle.lab_calls.specs.Steps.{WritesAnswer}
use Rattle.lab_calls.specs.Over.{EndsOver, entries_of}
use Rattle.lab_calls.specs.Streams.{SinkState}
use Rattle.lab_calls.specs.Stressing.{IsNoMemory, IsRunOrNot, IsStressed, IsStressText, RunsMade, StressesMade, StressesOnce, TellsStress, WritesStress}
use Rattle.report_judge.proofs.OneScenario.{same_form}
use Rattle.lab_calls.proofs.CalmStatus.{calm_of, holds_of}
use Rattle.lab_calls.proofs.Headline.{no_fault_is_done}
use Rattle.lab_calls.proofs.Kept.{never_other}
use Rattle.lab_calls.proofs.Over.{over_calmly}

-- ---- a text and its status

abbrev of_texts : List ℕ
of_texts = 0 ∷ 3 ∷ 7 ∷ 8 ∷ 9 ∷ []

text_known : (s : Scenario) (ended : Result Played RunFault) (text : List ℕ) (n : ℕ) → IsStressText s ended text n → is_among of_texts n ≡ true
text_known s (Ok p) text n t = rw t.0 refl
text_known s (Err (run_fault.Store at)) text n t = rw t.1 refl
text_known s (Err (run_fault.Full at full)) text n t = rw t.1 refl
text_known s (Err (run_fault.Damaged at second offset)) text n t = rw t.1 refl
text_known s (Err run_fault.Other) text n t = rw t.1 refl
text_known s (Err run_fault.NoMemory) text n t = absurd (t.0 refl)

calm_text : (s : Scenario) (ended : Result Played RunFault) (text : List ℕ) (n : ℕ) → IsCalmEnd (entries_of ended) → IsStressText s ended text n → is_calm_end n ≡ true
calm_text s (Ok p) text n calm t = rw t.0 refl
calm_text s (Err (run_fault.Full at full)) text n calm t = rw t.1 refl
calm_text s (Err run_fault.NoMemory) text n calm t = absurd (t.0 refl)
calm_text s (Err (run_fault.Store at)) text n calm t = absurd calm
calm_text s (Err (run_fault.Damaged at second offset)) text n calm t = absurd calm
calm_text s (Err run_fault.Other) text n calm t = absurd calm

false_true : false ≡ true → ⊥
false_true e = cc

not_five : (n : ℕ) → is_among of_texts n ≡ true → n ≢ 5
not_five n known five = false_true (rw five at known)

not_six : (n : ℕ) → is_among of_texts n ≡ true → n ≢ 6
not_six n known six = false_true (rw six at known)

more_known : (n : ℕ) → is_among of_texts n ≡ true → is_among (0 ∷ 3 ∷ 5 ∷ 6 ∷ 7 ∷ 8 ∷ 9 ∷ []) n ≡ true
more_known n known = by (nat_eq n 0) (nat_eq n 3) (nat_eq n 5) (nat_eq n 6) (nat_eq n 7) (nat_eq n 8) (nat_eq n 9) known
  where
    or : Bool → Bool → Bool
    or true b = true
    or false b = b

    by : (zero three five six seven eight nine : Bool) → or zero (or three (or seven (or eight (or nine false)))) ≡ true
        → or zero (or three (or five (or six (or seven (or eight (or nine false)))))) ≡ true
    by true three five six seven eight nine e = refl
    by false true five six seven eight nine e = refl
    by false false true six seven eight nine e = refl
    by false false false true seven eight nine e = refl
    by false false false false seven eight nine e = e

-- ---- the call

err_of : (status : ℕ) → IsNoMemory (Err status) → status ≡ 6
err_of status e = cc

told_by : (s : Scenario) (ended : Result Played RunFault) (status : ℕ) → TellsStress s ended (Err status) ⊎ IsNoMemory (Err status) → status ≡ 6
told_by s ended status (inl t) = t.no_memory
told_by s ended status (inr e) = err_of status e

not_refused : (a : Answer) → IsNoMemory (Ok a) → ⊥
not_refused a e = cc

module _ {D S : Type 0} (state : D → DiskState) (seen : S → ShelfState D) (had has : S) (same : Type 0) (n size result : ℕ) (old new : SinkState) where
  abbrev Once : Type 0
  Once = StressesOnce state seen had has same n size result old new

  refused_by : {status : ℕ} → IsRunOrNot state seen had has same n size (λ s ended. TellsStress s ended (Err status)) (IsNoMemory (Err status)) → status ≡ 6
  refused_by {status} (inl none) = err_of status none.1
  refused_by {status} (inr r) = told_by r.scenario r.ended status r.told

  -- nothing was told
  module _ (status : ℕ) (m : StressesMade state seen had has same n size (Err status)) (wrote : WritesAnswer (Err status) result old new) where
    refused : status ≡ 6
    refused = refused_by m.ran

    six : result ≡ 6
    six = wrote.0 ∙ refused

    ran_so : IsRunOrNot state seen had has same n size (λ s ended. TellsStress s ended (Err status)) (IsNoMemory (Err status))
        → IsRunOrNot state seen had has same n size (λ s ended. WritesStress s ended result old new) ((result ≡ 6) × (new.written ≡ old.written))
    ran_so (inl none) = inl (none.0, (six, wrote.1))
    ran_so (inr r) = inr (record {
      scenario = r.scenario;
      is_made = r.is_made;
      ended = r.ended;
      has_ended = r.has_ended;
      told = inr (six, wrote.1);
    })

    untold : Once
    untold = record {
      statuses = rw six refl;
      ran = ran_so m.ran;
      done = λ zero. absurd (omega (arith, zero, six));
      other = λ three. absurd (omega (arith, three, six));
      calm = λ still s is held holds shelf. rw six refl;
      sink_failed = λ five. absurd (omega (arith, five, six));
      no_memory = λ _. wrote.1;
      returned = m.returned;
      same_tells = m.same_tells;
    }

  -- a text was told
  module _ (a : Answer) (m : StressesMade state seen had has same n size (Ok a)) (wrote : WritesAnswer (Ok a) result old new)
      (r : RunsMade state seen had has n size (λ s ended. TellsStress s ended (Ok a)) (IsNoMemory (Ok a))) (is_text : IsStressText r.scenario r.ended (string_bytes a.text) a.status) where
    known : is_among of_texts a.status ≡ true
    known = text_known r.scenario r.ended (string_bytes a.text) a.status is_text

    writes : WritesStress r.scenario r.ended result old new
    writes = record {
      text = string_bytes a.text;
      own = a.status;
      is_text = is_text;
      written = λ other. wrote.whole other;
      cut_short = λ five. (wrote.front five (not_five a.status known)).1;
    }

    is_stressed : (ended : Result Played RunFault) → EndsOver (Leaves r.scenario) state seen had has r.scenario ended → IsStressText r.scenario ended (string_bytes a.text) 0
        → IsStressed state (seen had) (seen has) r.scenario (string_bytes a.text)
    is_stressed (Ok p) ends t = record {
      disks = ends.0.disks;
      back = ends.0.back;
      stressed = λ held holds.
          let d = ends.0.leaves held holds in
          record { entries = p.history; run = d; counts = t.1 held.past d.history (ends.1 held holds) d.is_run.legal (sym d.printed) };
    }
    is_stressed (Err missed) ends t = absurd (no_fault_is_done missed t.1)

    calm_status : (b : Bool) → nat_eq result 5 ≡ b → ¬ Rose old.faults new.faults → (held : Held) → HoldAll state (seen had) r.scenario held → IsCalmShelf state r.scenario (seen had) (seen has)
        → is_calm_end result ≡ true
    calm_status true e still held holds shelf = absurd (still (wrote.front (let five : result ≡ 5 = grind (arith, nat_tests) in five) (not_five a.status known)).0)
    calm_status false e still held holds shelf =
        let other : result ≢ 5 = grind (arith, nat_tests) in
        subst (λ k. is_calm_end k ≡ true) (sym (wrote.whole other).0) (calm_text r.scenario r.ended (string_bytes a.text) a.status
        (over_calmly (Leaves r.scenario) state seen r.scenario had has held (never_damaged r.scenario held) holds m.same_tells r.ended r.has_ended shelf) is_text)

    not_other : (held : Held) → HoldAll state (seen had) r.scenario held → (ended : Result Played RunFault) → EndsOver (Leaves r.scenario) state seen had has r.scenario ended
        → IsStressText r.scenario ended (string_bytes a.text) 3 → ⊥
    not_other held holds (Ok p) ends t = let zero = t.0 in omega (arith, zero)
    not_other held holds (Err run_fault.Other) ends t = never_other (Leaves r.scenario) state seen r.scenario held (never_damaged r.scenario held) had has holds ends
    not_other held holds (Err (run_fault.Store at)) ends t = let seven = t.1 in omega (arith, seven)
    not_other held holds (Err (run_fault.Full at full)) ends t = let eight = t.1 in omega (arith, eight)
    not_other held holds (Err (run_fault.Damaged at second offset)) ends t = let nine = t.1 in omega (arith, nine)
    not_other held holds (Err run_fault.NoMemory) ends t = t.0 refl

    among : (b : Bool) → nat_eq result 5 ≡ b → is_among (0 ∷ 3 ∷ 5 ∷ 6 ∷ 7 ∷ 8 ∷ 9 ∷ []) result ≡ true
    among true e = let five : result ≡ 5 = grind (arith, nat_tests) in rw five refl
    among false e =
        let other : result ≢ 5 = grind (arith, nat_tests) in
        subst (λ k. is_among (0 ∷ 3 ∷ 5 ∷ 6 ∷ 7 ∷ 8 ∷ 9 ∷ []) k ≡ true) (sym (wrote.whole other).0) (more_known a.status known)

    told : Once
    told = record {
      statuses = among (nat_eq result 5) refl;
      ran = inr (record {
        scenario = r.scenario;
        is_made = r.is_made;
        ended = r.ended;
        has_ended = r.has_ended;
        told = inl writes;
      });
      done = λ zero.
          let whole = wrote.whole (λ five. absurd (omega (arith, zero, five))) in
          let none : a.status ≡ 0 = sym whole.0 ∙ zero in
          (r.scenario, r.is_made, (string_bytes a.text, whole.1, is_stressed r.ended r.has_ended (subst (λ k. IsStressText r.scenario r.ended (string_bytes a.text) k) none is_text)));
      other = λ three s is held holds.
          let whole = wrote.whole (λ five. absurd (omega (arith, three, five))) in
          let own : a.status ≡ 3 = sym whole.0 ∙ three in
          not_other held (holds_of state (seen had) held r.scenario s (same_form (made n size) r.scenario s r.is_made is) holds) r.ended r.has_ended
          (subst (λ k. IsStressText r.scenario r.ended (string_bytes a.text) k) own is_text);
      calm = λ still s is held holds shelf.
          let same = same_form (made n size) r.scenario s r.is_made is in
          calm_status (nat_eq result 5) refl still held (holds_of state (seen had) held r.scenario s same holds) (calm_of state (seen had) (seen has) r.scenario s same shelf);
      sink_failed = λ five. (wrote.front five (not_five a.status known)).0;
      no_memory = λ six. absurd (not_six a.status known (sym (wrote.whole (λ five. absurd (omega (arith, six, five)))).0 ∙ six));
      returned = m.returned;
      same_tells = m.same_tells;
    }

  of_told : (a : Answer) (m : StressesMade state seen had has same n size (Ok a)) (wrote : WritesAnswer (Ok a) result old new)
      (r : RunsMade state seen had has n size (λ s ended. TellsStress s ended (Ok a)) (IsNoMemory (Ok a))) → TellsStress r.scenario r.ended (Ok a) ⊎ IsNoMemory (Ok a) → Once
  of_told a m wrote r (inl t) = told a m wrote r t.text
  of_told a m wrote r (inr e) = absurd (not_refused a e)

  text_told : (a : Answer) → StressesMade state seen had has same n size (Ok a) → WritesAnswer (Ok a) result old new
      → IsRunOrNot state seen had has same n size (λ s ended. TellsStress s ended (Ok a)) (IsNoMemory (Ok a)) → Once
  text_told a m wrote (inl none) = absurd (not_refused a none.1)
  text_told a m wrote (inr r) = of_told a m wrote r r.told

  pub stressed_once : (answer : Result Answer ℕ) → StressesMade state seen had has same n size answer → WritesAnswer answer result old new → Once
  stressed_once (Err status) m wrote = untold status m wrote
  stressed_once (Ok a) m wrote = text_told a m wrote m.ran
