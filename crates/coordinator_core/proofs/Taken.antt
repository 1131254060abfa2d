-- What becomes of an answer of the rules is an answer of the table.
use Rattle.std.proofs.Common.{◌≡◌, ◌∙◌, ℕ, true, false, Option, Some, None, refl, sym, ap, subst}
use Rattle.std.specs.Prelude.{Result, Ok, Err}
use Rattle.disk_model.specs.Disk.{DiskState}
use Rattle.seata_types.specs.declared.acts.Act.{Act}
use Rattle.seata_types.specs.declared.acts.Act.TheVariants as act
use Rattle.seata_types.specs.declared.errors.NodeError.{NodeError}
use Rattle.seata_types.specs.declared.errors.NodeError.TheVariants as error
use Rattle.seata_types.specs.declared.errors.StoreError.{StoreError}
use Rattle.seata_types.specs.declared.errors.StoreError.TheVariants as store_error
use Rattle.seata_types.specs.declared.ids.Xid.{Xid}
use Rattle.seata_types.specs.declared.messages.Input.{Input}
use Rattle.seata_types.specs.declared.messages.Step.{Step}
use Rattle.durable_records.specs.declared.coordinators.SessionRecord.{SessionRecord}
use Rattle.history_rules.specs.Own.{Given, still}
use Rattle.node_steps.specs.Framing.{SendsFramable}
use Rattle.session_memory.proofs.Small.{false_true}
use Rattle.session_store.specs.Keeping.{managers_of, resources_of}
use Rattle.coordinator_rules.specs.Answers as rules
use Rattle.coordinator_rules.specs.Answers.{IsRecorded, IsSent, LeavesBy, is_unrecorded}
use Rattle.coordinator_rules.specs.declared.answers.Answer.{Answer}
use Rattle.coordinator_rules.specs.Naming.{IsNamed}
use Rattle.coordinator_rules.specs.Tracks.{Course, Follows}
use Rattle.coordinator_core.specs.declared.table.Table.{Table}
use Rattle.coordinator_core.specs.Answers.{Answers, AnswersWhere, IsAnswered, Puts, is_answer}
use Rattle.coordinator_core.specs.Knowledge.{Knowledge, SameTimes, knowledge, memory}
use Rattle.coordinator_core.specs.Plain.{error_at}
use Rattle.coordinator_core.specs.Taking.{KeepsOn, TakesAnswer}
use Rattle.coordinator_core.proofs.Errors.{puts_none, unanswered_same, unmade_where, would}

-- ---- acts

told_answers : (done : Act) → is_unrecorded done ≡ true → is_answer done ≡ true
told_answers (act.Down kept at) q = q
told_answers (act.Restarted kept) q = q
told_answers act.Armed q = q
told_answers _ q = refl

recorded_answers : (k : Knowledge) (given : Input) (now : ℕ) (done : Act) (asked : Option SessionRecord) → IsRecorded k.memory given now done asked → is_answer done ≡ true
recorded_answers k given now done None told = told_answers done told
recorded_answers k given now done (Some r) taken = ap is_answer taken.is

-- without memory nothing is told of the act
no_memory_at : (done : Act) → error_at store_error.NoMemory done ≡ error.NoMemory
no_memory_at (act.Durable d) = refl
no_memory_at _ = refl

-- ---- settings

times_left : (asked : Option SessionRecord) (again : Option Xid) (old new : Knowledge) (now : ℕ) → LeavesBy asked again old new now → SameTimes old new
times_left (Some r) again old new now makes = makes.same
times_left None (Some xid) old new now plans = plans.same
times_left None None old new now same = record { retry = ap (λ (k : Knowledge). k.retry) same; forget = ap (λ (k : Knowledge). k.forget) same }

-- ---- by the rules

module _ (Applies : Course → Type 0) (old : Knowledge) (given : Input) (now : ℕ) (a : Answer) (is : rules.IsRuled old given now a) where
  pub is_answered : (new : Knowledge) → LeavesBy a.asked a.again old new now → IsAnswered Applies old new given now a.step
  is_answered new leaves = record {
    takes = λ owns s applies. ((is.rules owns s).step, (is.rules owns s).left new leaves, recorded_answers old given now a.step.act a.asked is.recorded);
    same = times_left a.asked a.again old new now leaves;
  }

module _ {D : Type 0} (state : D → DiskState) (Applies : Course → Type 0) (old new : Table D) (given : Input) (now : ℕ) (a : Answer) (is : rules.IsRuled (knowledge old) given now a) where
  abbrev LeavesIt : Option SessionRecord → Option Xid → Type 0
  LeavesIt asked again = (k : Knowledge) → LeavesBy asked again (knowledge old) k now → IsAnswered Applies (knowledge old) k given now a.step

  done_by : (asked : Option SessionRecord) (again : Option Xid) → LeavesIt asked again → IsRecorded (memory old) given now a.step.act asked → KeepsOn state asked again old new now (Ok tt)
      → AnswersWhere state Applies old new given now (Ok a.step)
  done_by (Some r) again leaves taken kept =
      (leaves (knowledge new) kept.0, subst (λ (d : Act). Puts state (Given given) now d old.sessions new.sessions) (sym taken.is) (r, taken.asked, kept.1))
  done_by None again leaves told kept = (leaves (knowledge new) kept.0, puts_none state (Given given) now a.step.act old.sessions new.sessions told kept.1)

  failed_by : (asked : Option SessionRecord) (again : Option Xid) → LeavesIt asked again → IsRecorded (memory old) given now a.step.act asked → (cause : StoreError) → KeepsOn state asked again old new now (Err cause)
      → AnswersWhere state Applies old new given now (Err (error_at cause a.step.act))
  failed_by (Some r) again leaves taken cause kept =
      subst (λ (d : Act). AnswersWhere state Applies old new given now (Err (error_at cause d))) (sym taken.is)
      (unmade_where state Applies old new given now r (λ k. taken.durable)
      (λ k makes. would Applies (knowledge old) k given now a.step taken.durable r taken.is taken.asked (leaves k makes)) cause kept)
  failed_by None again leaves told cause (is_memory, same) =
      subst (λ (e : NodeError). AnswersWhere state Applies old new given now (Err e)) (sym (ap (λ (c : StoreError). error_at c a.step.act) is_memory ∙ no_memory_at a.step.act))
      (unanswered_same (knowledge old) (knowledge new) (ap memory same) (ap (λ (t : Table D). t.moments) same) (ap (λ (t : Table D). t.retry) same) (ap (λ (t : Table D). t.forget) same), ap (λ (t : Table D). t.sessions) same)

  pub is_taken : (result : Result Step NodeError) → TakesAnswer state a old new now result → AnswersWhere state Applies old new given now result
  is_taken (Ok step) (same, kept) =
      subst (λ (s : Step). AnswersWhere state Applies old new given now (Ok s)) (sym same)
      (done_by a.asked a.again (λ k leaves. is_answered Applies (knowledge old) given now a is k leaves) is.recorded kept)
  is_taken (Err told) (cause, at, kept) =
      subst (λ (e : NodeError). AnswersWhere state Applies old new given now (Err e)) (sym at)
      (failed_by a.asked a.again (λ k leaves. is_answered Applies (knowledge old) given now a is k leaves) is.recorded cause kept)

  -- with what is sent
  pub taken_answers : IsSent (managers_of old.sessions) (resources_of old.sessions) given a.step → (result : Result Step NodeError) → TakesAnswer state a old new now result → Answers state Applies old new given now result
  taken_answers sent (Ok step) t = record {
    answers = is_taken (Ok step) t;
    framable = λ f. subst SendsFramable (sym t.0) (sent.framable f);
    named = λ n. subst (IsNamed (managers_of old.sessions) (resources_of old.sessions)) (sym t.0) (sent.named n);
  }
  taken_answers sent (Err told) t = record { answers = is_taken (Err told) t; framable = λ f. tt; named = λ n. tt }

-- ---- without an answer of the rules

module _ {D : Type 0} (state : D → DiskState) (Applies : Course → Type 0) (old : Table D) (given : Input) (now : ℕ) where
  -- memory was refused
  pub none_taken : Answers state Applies old old given now (Err error.NoMemory)
  none_taken = record { answers = (unanswered_same (knowledge old) (knowledge old) refl refl refl refl, refl); framable = λ f. tt; named = λ n. tt }

  -- what never comes: the rule's answer is another one
  pub never_taken : (step : Step) → step ≡ still act.Nothing → ((owns : Course) → Follows (knowledge old) owns → Applies owns → false ≡ true) → Answers state Applies old old given now (Ok step)
  never_taken step is never = subst (λ (s : Step). Answers state Applies old old given now (Ok s)) (sym is) (record {
    answers = (record { takes = λ owns s applies. false_true (never owns s applies); same = record { retry = refl; forget = refl } }, refl);
    framable = λ f. tt;
    named = λ n. record { act = tt; sent = tt };
  })
