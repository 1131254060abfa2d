-- What a turn sends.
use Rattle.std.proofs.Common.{◌≡◌, ◌∙◌, ◌&&◌, ℕ, Bool, true, false, if◌then◌else◌, Some, refl, sym, ap}
use Rattle.seata_types.specs.declared.acts.Act.TheVariants as act
use Rattle.seata_types.specs.declared.acts.Durable.TheVariants as durable
use Rattle.seata_types.specs.declared.ids.Place.TheVariants as place
use Rattle.seata_types.specs.declared.ids.Xid.{Xid}
use Rattle.seata_types.specs.declared.messages.Input.TheVariants as input
use Rattle.seata_types.specs.declared.statuses.Decision.TheVariants as how
use Rattle.seata_types.specs.declared.statuses.GlobalStatus.{GlobalStatus}
use Rattle.durable_records.specs.declared.coordinators.SessionRecord.TheVariants as log
use Rattle.history_rules.specs.Own.{still}
use Rattle.session_log.specs.declared.sessions.Snapshot.{Snapshot}
use Rattle.session_memory.specs.Changes.{may_come}
use Rattle.session_memory.proofs.Small.{and_left, and_right}
use Rattle.coordinator_rules.specs.declared.answers.Answer.{Answer}
use Rattle.coordinator_rules.specs.declared.questions.Question.{Question}
use Rattle.coordinator_rules.specs.Answers.{IsSentBy, answer, later, asks_in, asks_nodes}
use Rattle.coordinator_rules.specs.Choices.{is_sendable, names_nodes}
use Rattle.coordinator_rules.specs.Framing.{SendsFramable}
use Rattle.coordinator_rules.specs.Looked as looked
use Rattle.coordinator_rules.specs.Naming.{IsNamed}
use Rattle.coordinator_rules.specs.Steps.{asked_step, asks_by}
use Rattle.coordinator_rules.proofs.AnswerLaws.{as_value, still_sent}

-- a branch is asked with numbers of a scenario where its question has them
asks_is : (managers resources : ℕ) (xid : Xid) (q : Question) (c : Bool) → asks_in managers resources (place.Res q.resource) (asks_by c xid q) ≡ (names_nodes managers resources q && is_sendable q)
asks_is managers resources xid q true = refl
asks_is managers resources xid q false = refl

pub asked_sent : (xid : Xid) (q : Question) (a : Answer) → a ≡ later xid (asked_step xid q) → (is_sendable q ≡ true → SendsFramable a.step)
    → ((managers resources : ℕ) → names_nodes managers resources q ≡ true → IsNamed managers resources a.step) → IsSentBy input.Turn a.step
asked_sent xid q a same framable named = λ managers resources e.
    let both : (names_nodes managers resources q && is_sendable q) ≡ true = sym (asks_is managers resources xid q q.commit) ∙ ap (λ (z : Answer). asks_nodes managers resources z.step.sent) (sym same) ∙ e in record {
      framable = λ f. framable (and_right (names_nodes managers resources q) (is_sendable q) both);
      named = λ n. named managers resources (and_left (names_nodes managers resources q) (is_sendable q) both);
    }

pub nothing_sent : (a : Answer) → a ≡ looked.nothing → IsSentBy input.Turn a.step
nothing_sent a same = as_value input.Turn looked.nothing a (sym same) (still_sent input.Turn act.Nothing (λ resources. tt))

pub finished_sent : (xid : Xid) (st : GlobalStatus) (a : Answer) → a ≡ answer (Some (log.Finished xid)) (still (act.Durable (durable.Finished xid st))) → IsSentBy input.Turn a.step
finished_sent xid st a same =
    as_value input.Turn (answer (Some (log.Finished xid)) (still (act.Durable (durable.Finished xid st)))) a (sym same) (still_sent input.Turn (act.Durable (durable.Finished xid st)) (λ resources. tt))

pub timed_out_sent : (s : Snapshot) (xid : Xid) (a : Answer) → a ≡ looked.timed_out s xid → IsSentBy input.Turn a.step
timed_out_sent s xid a same = as_value input.Turn (looked.timed_out s xid) a (sym same) (by (may_come s (log.Decided xid how.Timeout)))
  where
    by : (b : Bool) → IsSentBy input.Turn (if b then answer (Some (log.Decided xid how.Timeout)) (still (act.Durable (durable.Decided xid how.Timeout))) else looked.nothing).step
    by true = still_sent input.Turn (act.Durable (durable.Decided xid how.Timeout)) (λ resources. tt)
    by false = still_sent input.Turn act.Nothing (λ resources. tt)

pub forgotten_sent : (s : Snapshot) (xid : Xid) (a : Answer) → a ≡ looked.forgotten s xid → IsSentBy input.Turn a.step
forgotten_sent s xid a same = as_value input.Turn (looked.forgotten s xid) a (sym same) (by (may_come s (log.Forgot xid)))
  where
    by : (b : Bool) → IsSentBy input.Turn (if b then answer (Some (log.Forgot xid)) (still (act.Durable (durable.Forgot xid))) else looked.nothing).step
    by true = still_sent input.Turn (act.Durable (durable.Forgot xid)) (λ resources. tt)
    by false = still_sent input.Turn act.Nothing (λ resources. tt)
