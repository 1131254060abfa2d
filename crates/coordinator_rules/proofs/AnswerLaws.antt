-- Answers that are the rules': of those that ask for no record, of those that ask for one, and of those after which a transaction is due
-- again.
use Rattle.std.proofs.Common.{◌≡◌, ◌<◌, ◌^◌, ℕ, true, Option, Some, None, refl, sym, ap, subst}
use Rattle.std.specs.Option.{option_and_then}
use Rattle.seata_types.specs.declared.acts.Act.{Act}
use Rattle.seata_types.specs.declared.acts.Act.TheVariants as act
use Rattle.seata_types.specs.declared.acts.Durable.{Durable}
use Rattle.seata_types.specs.declared.ids.BranchId.{BranchId}
use Rattle.seata_types.specs.declared.ids.Xid.{Xid}
use Rattle.seata_types.specs.declared.messages.Input.{Input}
use Rattle.seata_types.specs.declared.messages.Input.TheVariants as input
use Rattle.seata_types.specs.declared.messages.Outgoing.{Outgoing}
use Rattle.seata_types.specs.declared.messages.Step.{Step}
use Rattle.durable_records.specs.declared.coordinators.SessionRecord.{SessionRecord}
use Rattle.durable_records.specs.Progress.{is_going as goes}
use Rattle.history_rules.specs.Own.{Given, still}
use Rattle.history_rules.specs.CoordinatorMemory.{session_record, due_by_durable, rests_after}
use Rattle.session_memory.specs.Changes.{may_come}
use Rattle.coordinator_rules.specs.declared.answers.Answer.{Answer}
use Rattle.coordinator_rules.specs.Answers.{Answers, IsRuled, IsSentBy, answer, later, own_step}
use Rattle.coordinator_rules.specs.Knowledge.{Knowledge, times_in}
use Rattle.coordinator_rules.specs.Naming.{ActNames}
use Rattle.coordinator_rules.specs.Tracks.{Course, with_own, rule_answer, Follows, records}
use Rattle.coordinator_rules.proofs.Kept.{due_by, rested_by, is_quiet, quiet_again, quiet_asks, quiet_unrecorded, stands_made, stands_quiet, stands_asked, stands_retry}

abbrev pub of_act : Act → Option Outgoing → Step
of_act done sent = record { act = done; sent = sent }

-- nothing is sent
pub still_sent : (given : Input) (done : Act) → ((resources : ℕ) → ActNames resources done) → IsSentBy given (still done)
still_sent input.Turn done names = λ managers resources e. record { framable = λ f. tt; named = λ n. record { act = names resources; sent = tt } }
still_sent (input.Message from heard) done names = λ managers resources. record { framable = λ f. tt; named = λ n. record { act = names resources; sent = tt } }
still_sent (input.Local number) done names = λ managers resources. record { framable = λ f. tt; named = λ n. record { act = names resources; sent = tt } }
still_sent (input.Outside number) done names = λ managers resources. record { framable = λ f. tt; named = λ n. record { act = names resources; sent = tt } }

-- what is sent by an answer that is another one
pub as_value : (given : Input) (a b : Answer) → a ≡ b → IsSentBy given a.step → IsSentBy given b.step
as_value given a b same out = subst (λ (z : Answer). IsSentBy given z.step) same out

module _ (k : Knowledge) (given : Input) (now : ℕ) where
  -- the rules give this step
  abbrev pub IsRule : Step → Type 0
  IsRule step = (owns : Course) → Follows k owns → step ≡ rule_answer (times_in k) owns now given

  -- nothing changes
  pub told_ruled : (done : Act) (sent : Option Outgoing) → is_quiet done ≡ true → IsRule (of_act done sent) → IsRuled k given now (answer None (of_act done sent))
  told_ruled done sent quiet rule = record {
    rules = λ owns s. record {
      step = rule owns s;
      left = λ after stays. subst (λ z. Follows z (with_own (own_step given now (of_act done sent)) owns)) (sym stays) (stands_quiet k owns now given done sent quiet s);
    };
    asked = ap (option_and_then (session_record now (Given given))) (quiet_asks done quiet);
    recorded = quiet_unrecorded done quiet;
    again = quiet_again done quiet;
  }

  pub told : (done : Act) (sent : Option Outgoing) → is_quiet done ≡ true → IsRule (of_act done sent) → IsSentBy given (of_act done sent)
      → (a : Answer) → a ≡ answer None (of_act done sent) → Answers k given now a
  told done sent quiet rule out a same = subst (Answers k given now) (sym same) (record { ruled = told_ruled done sent quiet rule; sent = out })

  -- a record is asked for
  pub made_ruled : (r : SessionRecord) (d : Durable) (sent : Option Outgoing) → now < 2 ^ 64 → may_come k.memory r ≡ true → session_record now (Given given) d ≡ Some r
      → ((x before : ℕ) → due_by_durable k.retry now d x before ≡ due_by k.retry now r x before)
      → ((x before : ℕ) → rests_after now (act.Durable d) x before ≡ rested_by now r x before)
      → IsRule (of_act (act.Durable d) sent) → IsRuled k given now (answer (Some r) (of_act (act.Durable d) sent))
  made_ruled r d sent in_time may asked dues rests rule = record {
    rules = λ owns s. record {
      step = rule owns s;
      left = λ after makes. stands_made k after owns now r given d sent s in_time makes asked dues rests;
    };
    asked = sym asked;
    recorded = record { durable = d; is = refl; asked = asked; may = may };
    again = refl;
  }

  pub made : (r : SessionRecord) (d : Durable) (sent : Option Outgoing) → now < 2 ^ 64 → may_come k.memory r ≡ true → session_record now (Given given) d ≡ Some r
      → ((x before : ℕ) → due_by_durable k.retry now d x before ≡ due_by k.retry now r x before)
      → ((x before : ℕ) → rests_after now (act.Durable d) x before ≡ rested_by now r x before)
      → IsRule (of_act (act.Durable d) sent) → IsSentBy given (of_act (act.Durable d) sent)
      → (a : Answer) → a ≡ answer (Some r) (of_act (act.Durable d) sent) → Answers k given now a
  made r d sent in_time may asked dues rests rule out a same =
      subst (Answers k given now) (sym same) (record { ruled = made_ruled r d sent in_time may asked dues rests rule; sent = out })

  -- a branch is asked
  pub asked_later : (xid : Xid) (b : BranchId) (sent : Option Outgoing) → now < 2 ^ 64 → ((owns : Course) → Follows k owns → goes (records owns) xid.0 ≡ true)
      → IsRule (of_act (act.Asked xid b) sent) → IsSentBy given (of_act (act.Asked xid b) sent) → (a : Answer) → a ≡ later xid (of_act (act.Asked xid b) sent) → Answers k given now a
  asked_later xid b sent in_time going rule out a same = subst (Answers k given now) (sym same) (record {
    ruled = record {
      rules = λ owns s. record { step = rule owns s; left = λ after plans. stands_asked k after owns now given xid b sent s in_time plans (going owns s) };
      asked = refl;
      recorded = refl;
      again = refl;
    };
    sent = out;
  })

  -- or is to be asked again
  pub retried_later : (xid : Xid) (b : BranchId) (sent : Option Outgoing) → now < 2 ^ 64 → ((owns : Course) → Follows k owns → goes (records owns) xid.0 ≡ true)
      → IsRule (of_act (act.Retry xid b) sent) → IsSentBy given (of_act (act.Retry xid b) sent) → (a : Answer) → a ≡ later xid (of_act (act.Retry xid b) sent) → Answers k given now a
  retried_later xid b sent in_time going rule out a same = subst (Answers k given now) (sym same) (record {
    ruled = record {
      rules = λ owns s. record { step = rule owns s; left = λ after plans. stands_retry k after owns now given xid b sent s in_time plans (going owns s) };
      asked = refl;
      recorded = refl;
      again = refl;
    };
    sent = out;
  })
