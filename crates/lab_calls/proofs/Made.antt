-- What the status says of a call that wrote a made scenario.
use Rattle.std.proofs.Common.{◌≡◌, ◌≢◌, inl, inr, ℕ, nat_eq, Bool, true, false, Result, Ok, Err, refl, subst, ◌∙◌, arith}
use Rattle.std.proofs.lemmas.Bool.Decides.{nat_tests}
use Rattle.std.specs.Io.KnownBytes.{Appends}
use Rattle.lab_calls.specs.declared.answers.Answer.{Answer}
use Rattle.lab_calls.specs.Making.{AnswersMade, MakesOnce}
use Rattle.lab_calls.specs.Steps.{WritesAnswer}
use Rattle.lab_calls.specs.Streams.{GainsFront, SinkState}

pub made_once : (n size result : ℕ) (old new : SinkState) (answer : Result Answer ℕ) → AnswersMade n size answer → WritesAnswer answer result old new → MakesOnce n size result old new
made_once n size result old new (Ok a) is wrote = by (nat_eq result 5) refl
  where
    other : a.status ≢ 5
    other five = absurd (let zero = is.1 in omega (arith, five, zero))

    by : (b : Bool) → nat_eq result 5 ≡ b → MakesOnce n size result old new
    by true e =
        let five : result ≡ 5 = grind (arith, nat_tests) in
        let front = wrote.front five other in
        record {
          statuses = inr (inl five);
          written = λ zero. absurd (omega (arith, zero, five));
          cut_short = λ _. subst (λ text. GainsFront old.written new.written text) is.0 front.1;
          sink_failed = λ _. front.0;
          no_memory = λ six. absurd (omega (arith, six, five));
        }
    by false e =
        let done : result ≢ 5 = grind (arith, nat_tests) in
        let whole = wrote.whole done in
        let zero : result ≡ 0 = whole.0 ∙ is.1 in
        record {
          statuses = inl zero;
          written = λ _. subst (λ text. Appends old.written new.written text) is.0 whole.1;
          cut_short = λ five. absurd (done five);
          sink_failed = λ five. absurd (done five);
          no_memory = λ six. absurd (omega (arith, six, zero));
        }
made_once n size result old new (Err status) is wrote =
    let six : result ≡ 6 = wrote.0 ∙ is in
    record {
      statuses = inr (inr six);
      written = λ zero. absurd (omega (arith, zero, six));
      cut_short = λ five. absurd (omega (arith, five, six));
      sink_failed = λ five. absurd (omega (arith, five, six));
      no_memory = λ _. wrote.1;
    }
