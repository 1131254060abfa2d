-- What a replay or a run does with a shelf, by the status.
use Rattle.std.proofs.Common.{◌≡◌, ◌≢◌, inl, inr, ℕ, nat_eq, Bool, true, false, List, [], ◌∷◌, Option, Result, Ok, Err, refl, ap, subst, sym, ◌∙◌, arith}
use Rattle.std.proofs.lemmas.Bool.Decides.{nat_tests}
use Rattle.lab_calls.specs.declared.played.Played.{Played}
use Rattle.node_seat.specs.declared.faults.RunFault.{RunFault}
use Rattle.seata_types.specs.declared.limits.TheConstants.{INPUT_BYTES}
use Rattle.lab_calls.specs.declared.answers.Answer.{Answer}
use Rattle.lab_calls.specs.Answers.{Ending, IsAnswerTo, IsStatusAfter, TellsShelf, ended_status, is_among, replay_statuses}
use Rattle.lab_calls.specs.Steps.{AnswersInput, WritesAnswer, status_in}
use Rattle.lab_calls.specs.Streams.{Devices}
use Rattle.lab_calls.proofs.Concluded.{false_true}

module _ (ends : Ending) (same : Type 0) where
  three_of : (n : ℕ) → is_among replay_statuses n ≡ true → is_among (3 ∷ 4 ∷ 5 ∷ 6 ∷ []) n ≡ true → is_among (3 ∷ 5 ∷ []) n ≡ true
  three_of n one two = by (nat_eq n 3) refl
    where
      by : (b : Bool) → nat_eq n 3 ≡ b → is_among (3 ∷ 5 ∷ []) n ≡ true
      by true e = rw e refl
      by false e = absurd (grind (arith, nat_tests))

  after_cut : (ended : Result Played RunFault) (n : ℕ) → is_among replay_statuses n ≡ true → IsStatusAfter ended n → IsStatusAfter ended 5
  after_cut ended n known (inl own) = inr (inr (refl, λ memory. false_true (sym (ap (is_among replay_statuses) (own ∙ ap ended_status memory)) ∙ known)))
  after_cut ended n known (inr (inl six)) = false_true (rw six at known)
  after_cut ended n known (inr (inr five)) = inr (inr (refl, five.1))

  -- the text was cut short
  cut : (old left : Option (List ℕ)) (n : ℕ) → is_among replay_statuses n ≡ true → TellsShelf ends same n old left → TellsShelf ends same 5 old left
  cut old left n known (inl u) = inl (record { is_same = u.is_same; statuses = refl; no_scenario = λ five. u.no_scenario (three_of n known u.statuses) })
  cut old left n known (inr l) = inr (record {
    scenario = l.scenario;
    is_scenario = l.is_scenario;
    read_to_end = l.read_to_end;
    ended = l.ended;
    has_ended = l.has_ended;
    is_status = after_cut l.ended n known l.is_status;
  })

  pub shelf_told : (result : ℕ) (old new : Devices) (answer : Result Answer ℕ) → AnswersInput INPUT_BYTES (IsAnswerTo ends) replay_statuses old.source new.source answer
      → TellsShelf ends same (status_in answer) old.source.left new.source.left → WritesAnswer answer result old.sink new.sink
      → TellsShelf ends same result old.source.left new.source.left
  shelf_told result old new (Ok a) read shelf wrote = by (nat_eq result 5) refl
    where
      by : (b : Bool) → nat_eq result 5 ≡ b → TellsShelf ends same result old.source.left new.source.left
      by true e =
          let five : result ≡ 5 = grind (arith, nat_tests) in
          subst (λ n. TellsShelf ends same n old.source.left new.source.left) (sym five) (cut old.source.left new.source.left a.status read.answer.is_known shelf)
      by false e =
          let other : result ≢ 5 = grind (arith, nat_tests) in
          subst (λ n. TellsShelf ends same n old.source.left new.source.left) (sym (wrote.whole other).0) shelf
  shelf_told result old new (Err status) read shelf wrote = subst (λ n. TellsShelf ends same n old.source.left new.source.left) (sym wrote.0) shelf
