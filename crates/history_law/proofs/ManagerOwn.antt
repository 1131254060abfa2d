-- What a manager sends: the calls of its settings and its commit, of a transaction that is its own.
use Rattle.std.proofs.Common.{◌≡◌, ◌+◌, ◌==◌, ◌&&◌, nat_le, ℕ, Bool, true, false, if◌then◌else◌, List, Option, Some, None, refl, ap, sym, subst}
use Rattle.std.specs.Prelude.{slice_get}
use Rattle.seata_types.specs.declared.acts.Act.{Act}
use Rattle.seata_types.specs.declared.acts.Act.TheVariants as act
use Rattle.seata_types.specs.declared.ids.Place.{Place}
use Rattle.seata_types.specs.declared.ids.Xid.{Xid}
use Rattle.seata_types.specs.declared.messages.CallAnswer.{CallAnswer}
use Rattle.seata_types.specs.declared.messages.CallAnswer.TheVariants as called
use Rattle.seata_types.specs.declared.messages.Input.{Input}
use Rattle.seata_types.specs.declared.messages.Input.TheVariants as input
use Rattle.seata_types.specs.declared.messages.Message.{Message}
use Rattle.seata_types.specs.declared.messages.Message.TheVariants as message
use Rattle.seata_types.specs.declared.messages.Outgoing.{Outgoing}
use Rattle.seata_types.specs.declared.messages.Step.{Step}
use Rattle.seata_types.specs.declared.statements.Work.{Work}
use Rattle.seata_types.specs.declared.statuses.Ending.{Ending}
use Rattle.seata_types.specs.declared.statuses.Ending.TheVariants as ending
use Rattle.history_rules.specs.Own.{Event, Given, Stopped, Crashed, Restarted, Own, still, sends}
use Rattle.history_rules.specs.Devices.{is_down, fails, written}
use Rattle.history_rules.specs.ManagerRules
use Rattle.history_rules.specs.ManagerRules.{Settings, last_sent, sent_count, busy_count, is_closed, is_silent, end_message, receiver, ended_by, manager_answer}
use Rattle.history_rules.specs.Nodes.{Manager, Happens, happens, up_answer, down_answer, left_at}
use Rattle.history_law.proofs.Tests.{and_left, same_nat}

-- call c of these settings
abbrev pub SlotIs : Settings → (r c : ℕ) → Work → Type 0
SlotIs m r c w = (d : ℕ) × (c ≡ d + 1) × (slice_get m.calls d ≡ Some (r, w))

-- what the messages of a manager say, where `Is x` says that x is its own, and `Number n` holds of its number
module _ (m : Settings) (Is Number : ℕ → Type 0) where
  abbrev pub ManagerIs : Message → Type 0
  ManagerIs (message.Begin number timeout) = Number number
  ManagerIs (message.GlobalCommit xid) = Is xid.0
  ManagerIs (message.Call xid k r c w) = Is xid.0 × Number k × SlotIs m r c w
  ManagerIs _ = Unit {0}

  abbrev pub SentIs : Option Outgoing → Type 0
  SentIs None = Unit {0}
  SentIs (Some out) = ManagerIs out.message × (out.to ≡ receiver out.message)

  abbrev pub LastIs : Option Message → Type 0
  LastIs None = Unit {0}
  LastIs (Some msg) = ManagerIs msg

  module _ (mine : Number m.number) (count busy : ℕ) where
    speaks_by : (silent : Bool) (done : Act) (out : Message) → ManagerIs out → SentIs (if silent then still act.Silent else sends done (receiver out) out).sent
    speaks_by true done out is = tt
    speaks_by false done out is = (is, refl)

    speaks_is : (done : Act) (out : Message) → ManagerIs out → SentIs (ManagerRules.speaks m count busy done out).sent
    speaks_is done out is = speaks_by (is_silent m.silent count) done out is

    closed_turn_is : (poll : Bool) (xid : Option Xid) → SentIs (ManagerRules.closed_turn m count busy poll xid).sent
    closed_turn_is true (Some xid) = speaks_is act.Polls (message.GlobalStatus xid) tt
    closed_turn_is true None = tt
    closed_turn_is false xid = tt

    turn_is : (closed : Bool) (last : Option Message) → LastIs last → SentIs (ManagerRules.turn_answer m count busy closed last).sent
    turn_is true last is = closed_turn_is m.poll (ended_by last)
    turn_is false None is = speaks_is act.Starts (message.Begin m.number m.timeout) mine
    turn_is false (Some msg) is = speaks_is act.Repeats msg is

    end_is : (e : Ending) (xid : Xid) → Is xid.0 → ManagerIs (end_message e xid)
    end_is ending.Commit xid own = own
    end_is ending.Rollback xid own = tt

    next_is : (xid : Xid) (done : ℕ) → Is xid.0 → (o : Option (ℕ × Work)) → slice_get m.calls done ≡ o → SentIs (ManagerRules.next_answer m count busy xid (done + 1) o).sent
    next_is xid done own None e = speaks_is act.GoesOn (end_message m.ending xid) (end_is m.ending xid own)
    next_is xid done own (Some (r, w)) e = speaks_is act.GoesOn (message.Call xid m.number r (done + 1) w) (own, mine, (done, refl, e))

    gives_up_is : (xid : Xid) → SentIs (ManagerRules.gives_up m count busy xid).sent
    gives_up_is xid = speaks_is act.GivesUp (message.GlobalRollback xid) tt

    busy_is : (xid : Xid) (b : Bool) → SentIs (if b then ManagerRules.gives_up m count busy xid else still (act.CallBusy (busy + 1))).sent
    busy_is xid true = gives_up_is xid
    busy_is xid false = tt

    called_is : (xid : Xid) (c : ℕ) (answer : CallAnswer) → Is xid.0 → SentIs (ManagerRules.called_answer m count busy xid c answer).sent
    called_is xid c (called.Done b) own = next_is xid c own (slice_get m.calls c) refl
    called_is xid c (called.Failed cause) own = gives_up_is xid
    called_is xid c (called.Busy key by) own = busy_is xid (nat_le m.tries (busy + 1))

    if_is : (b : Bool) (step : Step) → (b ≡ true → SentIs step.sent) → SentIs (ManagerRules.if_same m count busy b step).sent
    if_is true step is = is refl
    if_is false step is = tt

    waiting_is : (last : Option Message) → LastIs last → (heard : Message) → ((xid : Xid) → heard ≡ message.Begun xid → Is xid.0) → SentIs (ManagerRules.waiting_answer m count busy last heard).sent
    waiting_is (Some (message.Begin number timeout)) is (message.Begun xid) begun = next_is xid 0 (begun xid refl) (slice_get m.calls 0) refl
    waiting_is (Some (message.Call asked number r c w)) is (message.Answer xid d answer) begun =
        if_is ((asked.0 == xid.0) && (c == d)) (ManagerRules.called_answer m count busy xid c answer)
        (λ t. called_is xid c answer (subst (λ q. Is q) (same_nat asked.0 xid.0 (and_left (asked.0 == xid.0) (c == d) t)) is.0))
    waiting_is (Some (message.GlobalCommit asked)) is (message.CommitStatus xid status) begun = if_is (asked.0 == xid.0) (still (act.Closes status)) (λ t. tt)
    waiting_is (Some (message.GlobalRollback asked)) is (message.RollbackStatus xid status) begun = if_is (asked.0 == xid.0) (still (act.Closes status)) (λ t. tt)
    waiting_is _ is heard begun = tt

    closed_is : (asked : Option Xid) (heard : Message) → SentIs (ManagerRules.closed_answer m count busy asked heard).sent
    closed_is (Some asked) (message.StatusAnswer xid status) = if_is (asked.0 == xid.0) (still (act.Learns status)) (λ t. tt)
    closed_is _ heard = tt

  -- a Begun tells its own transaction
  IsTold : Event → Type 0
  IsTold event = (from : Place) (xid : Xid) → event ≡ Given (input.Message from (message.Begun xid)) → Is xid.0

  module _ (mine : Number m.number) (os : List Own) (last : LastIs (last_sent os)) (now : ℕ) (fault keeps : Bool) where
    message_is : (closed : Bool) (heard : Message) → ((xid : Xid) → heard ≡ message.Begun xid → Is xid.0)
        → SentIs (ManagerRules.message_answer m (sent_count os) (busy_count os) closed (last_sent os) heard).sent
    message_is true heard begun = closed_is mine (sent_count os) (busy_count os) (ended_by (last_sent os)) heard
    message_is false heard begun = waiting_is mine (sent_count os) (busy_count os) (last_sent os) last heard begun

    answer_is : (given : Input) → IsTold (Given given) → SentIs (manager_answer m os given).sent
    unfolding IsTold
    answer_is input.Turn told = turn_is mine (sent_count os) (busy_count os) (is_closed os) (last_sent os) last
    answer_is (input.Message from heard) told = message_is (is_closed os) heard (λ xid e. told from xid (ap (λ q. Given (input.Message from q)) e))
    answer_is (input.Local k) told = tt
    answer_is (input.Outside k) told = tt

    written_is : (done : Act) (failed : Bool) (sent : Option Outgoing) → SentIs sent → SentIs (written failed (record { act = done; sent = sent }) done).sent
    written_is (act.Durable d) true sent p = tt
    written_is (act.Durable d) false sent p = p
    written_is _ failed sent p = p

    up_is : (event : Event) → IsTold event → SentIs (up_answer (Manager m) os now fault keeps event).sent
    up_is (Given given) told =
        let done = manager_answer m os given in
        written_is done.act (fails fault (left_at (Manager m) os)) done.sent (answer_is given told)
    up_is (Stopped calls) told = tt
    up_is Crashed told = tt
    up_is (Restarted pick calls) told = tt

    down_is : (event : Event) → SentIs (down_answer (Manager m) os now fault keeps event).sent
    down_is (Given given) = tt
    down_is (Stopped calls) = tt
    down_is Crashed = tt
    down_is (Restarted pick calls) = tt

    happens_is : (event : Event) → IsTold event → (b : Bool) → is_down os ≡ b → SentIs (happens (Manager m) os now fault keeps event).sent
    happens_is event told true e = rw e (down_is event)
    happens_is event told false e = rw e (up_is event told)

  pub manager_is : Number m.number → (os : List Own) → LastIs (last_sent os) → (event : Event) (now : ℕ) (step : Step)
      → ((from : Place) (xid : Xid) → event ≡ Given (input.Message from (message.Begun xid)) → Is xid.0)
      → Happens (Manager m) os now event step → SentIs step.sent
  unfolding IsTold
  manager_is mine os last event now step told h = subst (λ (st : Step). SentIs st.sent) (sym h.done) (happens_is mine os last now h.fault h.keeps event told (is_down os) refl)
