-- What a manager sends: a Begin, a Call, the end of its transaction, or the question for its status.
use Rattle.std.proofs.Common.{◌≡◌, ◌+◌, ◌==◌, ◌&&◌, nat_le, ℕ, Bool, true, false, if◌then◌else◌, List, [], ◌∷◌, Option, Some, None, refl, sym, subst}
use Rattle.std.specs.Prelude.{slice_get}
use Rattle.seata_types.specs.declared.acts.Act.{Act}
use Rattle.seata_types.specs.declared.acts.Act.TheVariants as act
use Rattle.seata_types.specs.declared.ids.Xid.{Xid}
use Rattle.seata_types.specs.declared.messages.CallAnswer.{CallAnswer}
use Rattle.seata_types.specs.declared.messages.CallAnswer.TheVariants as called
use Rattle.seata_types.specs.declared.messages.Input.{Input}
use Rattle.seata_types.specs.declared.messages.Input.TheVariants as input
use Rattle.seata_types.specs.declared.messages.Message.{Message}
use Rattle.seata_types.specs.declared.messages.Message.TheVariants as message
use Rattle.seata_types.specs.declared.messages.Outgoing.{Outgoing}
use Rattle.seata_types.specs.declared.messages.Step.{Step}
use Rattle.seata_types.specs.declared.statements.Work.{Work}
use Rattle.seata_types.specs.declared.statuses.Ending.{Ending}
use Rattle.seata_types.specs.declared.statuses.Ending.TheVariants as ending
use Rattle.history_rules.specs.Own.{Event, Given, Stopped, Crashed, Restarted, Own, still, sends}
use Rattle.history_rules.specs.Devices.{is_down, fails, written}
use Rattle.history_rules.specs.ManagerRules
use Rattle.history_rules.specs.ManagerRules.{Settings, last_sent, sent_after, sent_count, busy_count, is_closed, is_silent, end_message, receiver, ended_by, ended_xid, manager_answer}
use Rattle.history_rules.specs.Nodes.{Manager, Happens, Ran, happens, up_answer, down_answer, left_at}

abbrev pub IsManagers : Message → Type 0
IsManagers (message.Begin m timeout) = Unit {0}
IsManagers (message.Call xid m r c w) = Unit {0}
IsManagers (message.GlobalCommit xid) = Unit {0}
IsManagers (message.GlobalRollback xid) = Unit {0}
IsManagers (message.GlobalStatus xid) = Unit {0}
IsManagers _ = ⊥

abbrev pub SendsManagers : Option Outgoing → Type 0
SendsManagers None = Unit {0}
SendsManagers (Some out) = IsManagers out.message

abbrev LastManagers : Option Message → Type 0
LastManagers None = Unit {0}
LastManagers (Some m) = IsManagers m

module _ (m : Settings) (count busy : ℕ) where
  speaks_by : (silent : Bool) (done : Act) (out : Message) → IsManagers out → SendsManagers (if silent then still act.Silent else sends done (receiver out) out).sent
  speaks_by true done out is = tt
  speaks_by false done out is = is

  speaks_so : (done : Act) (out : Message) → IsManagers out → SendsManagers (ManagerRules.speaks m count busy done out).sent
  speaks_so done out is = speaks_by (is_silent m.silent count) done out is

  end_so : (e : Ending) (xid : Xid) → IsManagers (end_message e xid)
  end_so ending.Commit xid = tt
  end_so ending.Rollback xid = tt

  closed_turn_so : (poll : Bool) (xid : Option Xid) → SendsManagers (ManagerRules.closed_turn m count busy poll xid).sent
  closed_turn_so true (Some xid) = speaks_so act.Polls (message.GlobalStatus xid) tt
  closed_turn_so true None = tt
  closed_turn_so false xid = tt

  turn_so : (closed : Bool) (last : Option Message) → LastManagers last → SendsManagers (ManagerRules.turn_answer m count busy closed last).sent
  turn_so true last is = closed_turn_so m.poll (ended_by last)
  turn_so false None is = speaks_so act.Starts (message.Begin m.number m.timeout) tt
  turn_so false (Some last) is = speaks_so act.Repeats last is

  next_so : (xid : Xid) (c : ℕ) (o : Option (ℕ × Work)) → SendsManagers (ManagerRules.next_answer m count busy xid c o).sent
  next_so xid c (Some (resource, w)) = speaks_so act.GoesOn (message.Call xid m.number resource c w) tt
  next_so xid c None = speaks_so act.GoesOn (end_message m.ending xid) (end_so m.ending xid)

  goes_so : (xid : Xid) (done : ℕ) → SendsManagers (ManagerRules.goes_on m count busy xid done).sent
  goes_so xid done = next_so xid (done + 1) (slice_get m.calls done)

  gives_up_so : (xid : Xid) → SendsManagers (ManagerRules.gives_up m count busy xid).sent
  gives_up_so xid = speaks_so act.GivesUp (message.GlobalRollback xid) tt

  called_so : (xid : Xid) (c : ℕ) (answer : CallAnswer) → SendsManagers (ManagerRules.called_answer m count busy xid c answer).sent
  called_so xid c (called.Done b) = goes_so xid c
  called_so xid c (called.Failed cause) = gives_up_so xid
  called_so xid c (called.Busy key by) = busy_so (nat_le m.tries (busy + 1))
    where
      busy_so : (b : Bool) → SendsManagers (if b then ManagerRules.gives_up m count busy xid else still (act.CallBusy (busy + 1))).sent
      busy_so true = gives_up_so xid
      busy_so false = tt

  if_so : (b : Bool) (step : Step) → SendsManagers step.sent → SendsManagers (ManagerRules.if_same m count busy b step).sent
  if_so true step is = is
  if_so false step is = tt

  waiting_so : (last : Option Message) (heard : Message) → SendsManagers (ManagerRules.waiting_answer m count busy last heard).sent
  waiting_so (Some (message.Begin number timeout)) (message.Begun xid) = goes_so xid 0
  waiting_so (Some (message.Call asked number resource c w)) (message.Answer xid d answer) =
      if_so ((asked.0 == xid.0) && (c == d)) (ManagerRules.called_answer m count busy xid c answer) (called_so xid c answer)
  waiting_so (Some (message.GlobalCommit asked)) (message.CommitStatus xid status) = if_so (asked.0 == xid.0) (still (act.Closes status)) tt
  waiting_so (Some (message.GlobalRollback asked)) (message.RollbackStatus xid status) = if_so (asked.0 == xid.0) (still (act.Closes status)) tt
  waiting_so _ heard = tt

  closed_so : (asked : Option Xid) (heard : Message) → SendsManagers (ManagerRules.closed_answer m count busy asked heard).sent
  closed_so (Some asked) (message.StatusAnswer xid status) = if_so (asked.0 == xid.0) (still (act.Learns status)) tt
  closed_so _ heard = tt

  message_so : (closed : Bool) (last : Option Message) (heard : Message) → SendsManagers (ManagerRules.message_answer m count busy closed last heard).sent
  message_so true last heard = closed_so (ended_by last) heard
  message_so false last heard = waiting_so last heard

answer_so : (m : Settings) (os : List Own) → LastManagers (last_sent os) → (given : Input) → SendsManagers (manager_answer m os given).sent
answer_so m os last input.Turn = turn_so m (sent_count os) (busy_count os) (is_closed os) (last_sent os) last
answer_so m os last (input.Message from heard) = message_so m (sent_count os) (busy_count os) (is_closed os) (last_sent os) heard
answer_so m os last (input.Local k) = tt
answer_so m os last (input.Outside k) = tt

-- what a failing disk leaves unsent
written_sent : (done : Act) (failed : Bool) (sent : Option Outgoing) → SendsManagers sent → SendsManagers (written failed (record { act = done; sent = sent }) done).sent
written_sent (act.Durable d) true sent p = tt
written_sent (act.Durable d) false sent p = p
written_sent _ failed sent p = p

module _ (m : Settings) (os : List Own) (now : ℕ) (fault keeps : Bool) (last : LastManagers (last_sent os)) where
  up_so : (event : Event) → SendsManagers (up_answer (Manager m) os now fault keeps event).sent
  up_so (Given given) =
      let done = manager_answer m os given in
      written_sent done.act (fails fault (left_at (Manager m) os)) done.sent (answer_so m os last given)
  up_so (Stopped calls) = tt
  up_so Crashed = tt
  up_so (Restarted pick calls) = tt

  down_so : (event : Event) → SendsManagers (down_answer (Manager m) os now fault keeps event).sent
  down_so (Given given) = tt
  down_so (Stopped calls) = tt
  down_so Crashed = tt
  down_so (Restarted pick calls) = tt

  happens_so : (event : Event) (b : Bool) → is_down os ≡ b → SendsManagers (happens (Manager m) os now fault keeps event).sent
  happens_so event true e = rw e (down_so event)
  happens_so event false e = rw e (up_so event)

manager_sends : (m : Settings) (os : List Own) → LastManagers (last_sent os) → (event : Event) (now : ℕ) (step : Step) → Happens (Manager m) os now event step → SendsManagers step.sent
manager_sends m os last event now step d = subst (λ (st : Step). SendsManagers st.sent) (sym d.done) (happens_so m os now d.fault d.keeps last event (is_down os) refl)

last_after : (s : Option Outgoing) (before : Option Message) → SendsManagers s → LastManagers before → LastManagers (sent_after s before)
last_after None before now last = last
last_after (Some out) before now last = now

last_managers : (m : Settings) (os : List Own) → Ran (Manager m) os → LastManagers (last_sent os)
last_managers m [] ran = tt
last_managers m (o ∷ os) ran = let last = last_managers m os ran.0 in last_after o.step.sent (last_sent os) (manager_sends m os last o.event o.now o.step ran.1) last

-- of what happens at a manager
pub manager_says : (m : Settings) (os : List Own) → Ran (Manager m) os → (event : Event) (now : ℕ) (step : Step) → Happens (Manager m) os now event step → SendsManagers step.sent
manager_says m os ran event now step h = manager_sends m os (last_managers m os ran) event now step h
