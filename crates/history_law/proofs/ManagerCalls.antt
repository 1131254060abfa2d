-- What a manager says of the work of its calls.
use Rattle.std.proofs.Common.{◌≡◌, ◌+◌, ◌≤◌, ◌==◌, ◌&&◌, nat_le, ℕ, zero, suc, Bool, true, false, if◌then◌else◌, List, [], ◌∷◌, length, Option, Some, None, refl, ap, sym, subst, ◌∙◌, arith}
use Rattle.std.specs.Prelude.{slice_get}
use Rattle.seata_types.specs.declared.acts.Act.{Act}
use Rattle.seata_types.specs.declared.acts.Act.TheVariants as act
use Rattle.seata_types.specs.declared.ids.BranchId.{BranchId}
use Rattle.seata_types.specs.declared.ids.Place.{Place}
use Rattle.seata_types.specs.declared.ids.Xid.{Xid}
use Rattle.seata_types.specs.declared.messages.CallAnswer.{CallAnswer}
use Rattle.seata_types.specs.declared.messages.CallAnswer.TheVariants as called
use Rattle.seata_types.specs.declared.messages.Input.{Input}
use Rattle.seata_types.specs.declared.messages.Input.TheVariants as input
use Rattle.seata_types.specs.declared.messages.Message.{Message}
use Rattle.seata_types.specs.declared.messages.Message.TheVariants as message
use Rattle.seata_types.specs.declared.messages.Outgoing.{Outgoing}
use Rattle.seata_types.specs.declared.messages.Step.{Step}
use Rattle.seata_types.specs.declared.statements.Work.{Work}
use Rattle.seata_types.specs.declared.statuses.Ending.{Ending}
use Rattle.seata_types.specs.declared.statuses.Ending.TheVariants as ending
use Rattle.history_rules.specs.Own.{Event, Given, Stopped, Crashed, Restarted, Own, still, sends}
use Rattle.history_rules.specs.Devices.{is_down, fails, written}
use Rattle.history_rules.specs.ManagerRules
use Rattle.history_rules.specs.ManagerRules.{Settings, last_sent, sent_count, busy_count, is_closed, is_silent, end_message, receiver, ended_by, manager_answer}
use Rattle.history_rules.specs.Nodes.{Manager, Happens, happens, up_answer, down_answer, left_at}
use Rattle.history_law.proofs.Tests.{none_some, and_left, and_right, same_nat}

-- a place that isn't there is past the end
past_end : {A : Type 0} (xs : List A) (n : ℕ) → slice_get xs n ≡ None → length xs ≤ n
past_end [] n e = omega arith
past_end (x ∷ xs) zero e = none_some (sym e)
past_end (x ∷ xs) (suc n) e = let k = past_end xs n e in omega arith

-- what a manager with these calls says, where `To x d` says that each call of x up to d worked
module _ (m : Settings) (To : ℕ → ℕ → Type 0) (none : (x : ℕ) → To x 0) (fewer : (x d e : ℕ) → To x d → e ≤ d → To x e) where
  abbrev pub ManagerSays : Message → Type 0
  ManagerSays (message.GlobalCommit xid) = To xid.0 (length m.calls)
  ManagerSays (message.Call xid k r c w) = (d : ℕ) → c ≡ d + 1 → To xid.0 d
  ManagerSays _ = Unit {0}

  abbrev pub SentSays : Option Outgoing → Type 0
  SentSays None = Unit {0}
  SentSays (Some out) = ManagerSays out.message

  abbrev pub LastSays : Option Message → Type 0
  LastSays None = Unit {0}
  LastSays (Some msg) = ManagerSays msg

  module _ (count busy : ℕ) where
    speaks_by : (silent : Bool) (done : Act) (out : Message) → ManagerSays out → SentSays (if silent then still act.Silent else sends done (receiver out) out).sent
    speaks_by true done out is = tt
    speaks_by false done out is = is

    speaks_says : (done : Act) (out : Message) → ManagerSays out → SentSays (ManagerRules.speaks m count busy done out).sent
    speaks_says done out is = speaks_by (is_silent m.silent count) done out is

    closed_turn_says : (poll : Bool) (xid : Option Xid) → SentSays (ManagerRules.closed_turn m count busy poll xid).sent
    closed_turn_says true (Some xid) = speaks_says act.Polls (message.GlobalStatus xid) tt
    closed_turn_says true None = tt
    closed_turn_says false xid = tt

    turn_says : (closed : Bool) (last : Option Message) → LastSays last → SentSays (ManagerRules.turn_answer m count busy closed last).sent
    turn_says true last is = closed_turn_says m.poll (ended_by last)
    turn_says false None is = speaks_says act.Starts (message.Begin m.number m.timeout) tt
    turn_says false (Some msg) is = speaks_says act.Repeats msg is

    end_says : (e : Ending) (xid : Xid) → To xid.0 (length m.calls) → ManagerSays (end_message e xid)
    end_says ending.Commit xid to = to
    end_says ending.Rollback xid to = tt

    next_says : (xid : Xid) (done : ℕ) → To xid.0 done → (o : Option (ℕ × Work)) → slice_get m.calls done ≡ o → SentSays (ManagerRules.next_answer m count busy xid (done + 1) o).sent
    next_says xid done to None e = speaks_says act.GoesOn (end_message m.ending xid) (end_says m.ending xid (fewer xid.0 done (length m.calls) to (past_end m.calls done e)))
    next_says xid done to (Some (r, w)) e = speaks_says act.GoesOn (message.Call xid m.number r (done + 1) w) (λ d f. fewer xid.0 done d to (omega arith))

    gives_up_says : (xid : Xid) → SentSays (ManagerRules.gives_up m count busy xid).sent
    gives_up_says xid = speaks_says act.GivesUp (message.GlobalRollback xid) tt

    busy_says : (xid : Xid) (b : Bool) → SentSays (if b then ManagerRules.gives_up m count busy xid else still (act.CallBusy (busy + 1))).sent
    busy_says xid true = gives_up_says xid
    busy_says xid false = tt

    called_says : (xid : Xid) (c : ℕ) (answer : CallAnswer) → ((b : BranchId) → answer ≡ called.Done b → To xid.0 c) → SentSays (ManagerRules.called_answer m count busy xid c answer).sent
    called_says xid c (called.Done b) to = next_says xid c (to b refl) (slice_get m.calls c) refl
    called_says xid c (called.Failed cause) to = gives_up_says xid
    called_says xid c (called.Busy key by) to = busy_says xid (nat_le m.tries (busy + 1))

    if_says : (b : Bool) (step : Step) → (b ≡ true → SentSays step.sent) → SentSays (ManagerRules.if_same m count busy b step).sent
    if_says true step is = is refl
    if_says false step is = tt

    waiting_says : (last : Option Message) → LastSays last → (heard : Message)
        → ((xid : Xid) (c : ℕ) (b : BranchId) → heard ≡ message.Answer xid c (called.Done b) → ((d : ℕ) → c ≡ d + 1 → To xid.0 d) → To xid.0 c)
        → SentSays (ManagerRules.waiting_answer m count busy last heard).sent
    waiting_says (Some (message.Begin number timeout)) is (message.Begun xid) more = next_says xid 0 (none xid.0) (slice_get m.calls 0) refl
    waiting_says (Some (message.Call asked number r c w)) is (message.Answer xid d answer) more =
        if_says ((asked.0 == xid.0) && (c == d)) (ManagerRules.called_answer m count busy xid c answer)
        (λ t.
        let sx : asked.0 ≡ xid.0 = same_nat asked.0 xid.0 (and_left (asked.0 == xid.0) (c == d) t) in
        let sc : c ≡ d = same_nat c d (and_right (asked.0 == xid.0) (c == d) t) in
        called_says xid c answer (λ b e. subst (λ q. To xid.0 q) (sym sc) (more xid d b (ap (message.Answer xid d) e) (λ q f. subst (λ y. To y q) sx (is q (sc ∙ f))))))
    waiting_says (Some (message.GlobalCommit asked)) is (message.CommitStatus xid status) more = if_says (asked.0 == xid.0) (still (act.Closes status)) (λ t. tt)
    waiting_says (Some (message.GlobalRollback asked)) is (message.RollbackStatus xid status) more = if_says (asked.0 == xid.0) (still (act.Closes status)) (λ t. tt)
    waiting_says _ is heard more = tt

    closed_says : (asked : Option Xid) (heard : Message) → SentSays (ManagerRules.closed_answer m count busy asked heard).sent
    closed_says (Some asked) (message.StatusAnswer xid status) = if_says (asked.0 == xid.0) (still (act.Learns status)) (λ t. tt)
    closed_says _ heard = tt

  -- what an event tells of a call that is done
  Learned : Event → Type 0
  Learned event = (from : Place) (xid : Xid) (c : ℕ) (b : BranchId) → event ≡ Given (input.Message from (message.Answer xid c (called.Done b))) → ((d : ℕ) → c ≡ d + 1 → To xid.0 d) → To xid.0 c

  module _ (os : List Own) (last : LastSays (last_sent os)) (now : ℕ) (fault keeps : Bool) where
    message_says : (closed : Bool) (heard : Message)
        → ((xid : Xid) (c : ℕ) (b : BranchId) → heard ≡ message.Answer xid c (called.Done b) → ((d : ℕ) → c ≡ d + 1 → To xid.0 d) → To xid.0 c)
        → SentSays (ManagerRules.message_answer m (sent_count os) (busy_count os) closed (last_sent os) heard).sent
    message_says true heard more = closed_says (sent_count os) (busy_count os) (ended_by (last_sent os)) heard
    message_says false heard more = waiting_says (sent_count os) (busy_count os) (last_sent os) last heard more

    answer_says : (given : Input) → Learned (Given given) → SentSays (manager_answer m os given).sent
    unfolding Learned
    answer_says input.Turn more = turn_says (sent_count os) (busy_count os) (is_closed os) (last_sent os) last
    answer_says (input.Message from heard) more = message_says (is_closed os) heard (λ xid c b e. more from xid c b (ap (λ q. Given (input.Message from q)) e))
    answer_says (input.Local k) more = tt
    answer_says (input.Outside k) more = tt

    written_says : (done : Act) (failed : Bool) (sent : Option Outgoing) → SentSays sent → SentSays (written failed (record { act = done; sent = sent }) done).sent
    written_says (act.Durable d) true sent p = tt
    written_says (act.Durable d) false sent p = p
    written_says _ failed sent p = p

    up_says : (event : Event) → Learned event → SentSays (up_answer (Manager m) os now fault keeps event).sent
    up_says (Given given) more =
        let done = manager_answer m os given in
        written_says done.act (fails fault (left_at (Manager m) os)) done.sent (answer_says given more)
    up_says (Stopped calls) more = tt
    up_says Crashed more = tt
    up_says (Restarted pick calls) more = tt

    down_says : (event : Event) → SentSays (down_answer (Manager m) os now fault keeps event).sent
    down_says (Given given) = tt
    down_says (Stopped calls) = tt
    down_says Crashed = tt
    down_says (Restarted pick calls) = tt

    happens_says : (event : Event) → Learned event → (b : Bool) → is_down os ≡ b → SentSays (happens (Manager m) os now fault keeps event).sent
    happens_says event more true e = rw e (down_says event)
    happens_says event more false e = rw e (up_says event more)

  pub manager_calls : (os : List Own) → LastSays (last_sent os) → (event : Event) (now : ℕ) (step : Step)
      → ((from : Place) (xid : Xid) (c : ℕ) (b : BranchId) → event ≡ Given (input.Message from (message.Answer xid c (called.Done b))) → ((d : ℕ) → c ≡ d + 1 → To xid.0 d) → To xid.0 c)
      → Happens (Manager m) os now event step → SentSays step.sent
  unfolding Learned
  manager_calls os last event now step more h = subst (λ (st : Step). SentSays st.sent) (sym h.done) (happens_says os last now h.fault h.keeps event more (is_down os) refl)
