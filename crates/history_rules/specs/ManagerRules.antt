-- A manager's rules. It runs one transaction: it begins it, makes its calls one after the other, and ends it. It has no
-- disk, so its own entries are all that it goes by.
use Rattle.std.specs.Prelude.{ℕ, ◌+◌, ◌==◌, ◌&&◌, nat_le, Bool, true, false, if◌then◌else◌, List, [], ◌∷◌, slice_get, Option, Some, None}
use Rattle.seata_types.specs.declared.acts.Act.{Act}
use Rattle.seata_types.specs.declared.acts.Act.TheVariants as act
use Rattle.seata_types.specs.declared.ids.Place.{Place}
use Rattle.seata_types.specs.declared.ids.Place.TheVariants as place
use Rattle.seata_types.specs.declared.ids.Xid.{Xid}
use Rattle.seata_types.specs.declared.messages.CallAnswer.{CallAnswer}
use Rattle.seata_types.specs.declared.messages.CallAnswer.TheVariants as called
use Rattle.seata_types.specs.declared.messages.Input.{Input}
use Rattle.seata_types.specs.declared.messages.Input.TheVariants as input
use Rattle.seata_types.specs.declared.messages.Message.{Message}
use Rattle.seata_types.specs.declared.messages.Message.TheVariants as message
use Rattle.seata_types.specs.declared.messages.Outgoing.{Outgoing}
use Rattle.seata_types.specs.declared.messages.Step.{Step}
use Rattle.seata_types.specs.declared.statements.Work.{Work}
use Rattle.seata_types.specs.declared.statuses.Ending.{Ending}
use Rattle.seata_types.specs.declared.statuses.Ending.TheVariants as ending
use Rattle.history_rules.specs.Own.{Own, still, sends}

-- a manager's settings: its number, the timeout of its transaction, how often a call may be busy, its calls with their
-- resources, how it ends, how many messages it sends (without a number, all), and whether it asks for the status at the end
pub record Settings : Type 0 where
  pub number : ℕ
  pub timeout : ℕ
  pub tries : ℕ
  pub calls : List (ℕ × Work)
  pub ending : Ending
  pub silent : Option ℕ
  pub poll : Bool

-- ---- what its own entries tell

-- the last message after a step, by the one before
abbrev pub sent_after : Option Outgoing → Option Message → Option Message
sent_after None before = before
sent_after (Some out) before = Some out.message

-- the message that it sent last
abbrev pub last_sent : List Own → Option Message
last_sent [] = None
last_sent (o ∷ os) = sent_after o.step.sent (last_sent os)

-- how many messages were sent after a step, by how many before
abbrev pub counted : Option Outgoing → ℕ → ℕ
counted None before = before
counted (Some out) before = before + 1

-- how many messages it sent
abbrev pub sent_count : List Own → ℕ
sent_count [] = 0
sent_count (o ∷ os) = counted o.step.sent (sent_count os)

-- whether the end was answered after an act, by whether it was before
abbrev pub closed_after : Act → Bool → Bool
closed_after (act.Closes status) before = true
closed_after _ before = before

-- whether its transaction's end was answered
abbrev pub is_closed : List Own → Bool
is_closed [] = false
is_closed (o ∷ os) = closed_after o.step.act (is_closed os)

-- how often the present call was busy after an act: as the act counts, and 0 once the manager goes on
abbrev pub busy_after : Act → ℕ → ℕ
busy_after (act.CallBusy count) before = count
busy_after act.GoesOn before = 0
busy_after _ before = before

-- how often its present call was busy
abbrev pub busy_count : List Own → ℕ
busy_count [] = 0
busy_count (o ∷ os) = busy_after o.step.act (busy_count os)

-- ---- answers

-- so many messages are all that a manager may send, where it has a bound
abbrev pub is_silent : Option ℕ → ℕ → Bool
is_silent None count = false
is_silent (Some most) count = nat_le most count

-- the message that asks for the end of x
abbrev pub end_message : Ending → Xid → Message
end_message ending.Commit xid = message.GlobalCommit xid
end_message ending.Rollback xid = message.GlobalRollback xid

-- calls go to their resource, all other messages to the coordinator
abbrev pub receiver : Message → Place
receiver (message.Call xid manager resource call w) = place.Res resource
receiver _ = place.Tc

-- the transaction whose end, or whose status after it, was asked for
abbrev pub ended_xid : Message → Option Xid
ended_xid (message.GlobalCommit xid) = Some xid
ended_xid (message.GlobalRollback xid) = Some xid
ended_xid (message.GlobalStatus xid) = Some xid
ended_xid _ = None

-- the same of the last message, if there is one
abbrev pub ended_by : Option Message → Option Xid
ended_by None = None
ended_by (Some last) = ended_xid last

module _ (m : Settings) (count busy : ℕ) where
  -- a step that sends; silent, and nothing else, once the manager has sent all its messages
  abbrev pub speaks : Act → Message → Step
  speaks done out = if is_silent m.silent count then still act.Silent else sends done (receiver out) out

  -- ---- turns

  -- after the end: polls where it is to, else nothing
  abbrev pub closed_turn : (poll : Bool) → Option Xid → Step
  closed_turn true (Some xid) = speaks act.Polls (message.GlobalStatus xid)
  closed_turn _ _ = still act.Nothing

  -- a turn: starts, repeats its last message while it waits, or polls
  abbrev pub turn_answer : (closed : Bool) → Option Message → Step
  turn_answer true last = closed_turn m.poll (ended_by last)
  turn_answer false None = speaks act.Starts (message.Begin m.number m.timeout)
  turn_answer false (Some last) = speaks act.Repeats last

  -- ---- messages

  -- the next call of x, which has this number, or the end where there is no call left
  abbrev pub next_answer : Xid → ℕ → Option (ℕ × Work) → Step
  next_answer xid c (Some (resource, w)) = speaks act.GoesOn (message.Call xid m.number resource c w)
  next_answer xid c None = speaks act.GoesOn (end_message m.ending xid)

  -- after so many calls: the next call, or after the last one the end
  abbrev pub goes_on : Xid → ℕ → Step
  goes_on xid done = next_answer xid (done + 1) (slice_get m.calls done)

  -- asks for the rollback of x
  abbrev pub gives_up : Xid → Step
  gives_up xid = speaks act.GivesUp (message.GlobalRollback xid)

  -- the present call: goes on where it is done, gives up where it failed or was busy for the last time, else is busy
  abbrev pub called_answer : Xid → ℕ → CallAnswer → Step
  called_answer xid c (called.Done b) = goes_on xid c
  called_answer xid c (called.Failed cause) = gives_up xid
  called_answer xid c (called.Busy key by) = if nat_le m.tries (busy + 1) then gives_up xid else still (act.CallBusy (busy + 1))

  -- an answer to what was asked, else the message is ignored
  abbrev pub if_same : Bool → Step → Step
  if_same true answer = answer
  if_same false answer = still act.Ignored

  -- what it waits for: Begun after its Begin, the answer of its call, the status of the end that it asked for
  abbrev pub waiting_answer : Option Message → Message → Step
  waiting_answer (Some (message.Begin number timeout)) (message.Begun xid) = goes_on xid 0
  waiting_answer (Some (message.Call asked number resource c w)) (message.Answer xid d answer) =
      if_same ((asked.0 == xid.0) && (c == d)) (called_answer xid c answer)
  waiting_answer (Some (message.GlobalCommit asked)) (message.CommitStatus xid status) = if_same (asked.0 == xid.0) (still (act.Closes status))
  waiting_answer (Some (message.GlobalRollback asked)) (message.RollbackStatus xid status) = if_same (asked.0 == xid.0) (still (act.Closes status))
  waiting_answer _ heard = still act.Ignored

  -- after the end: learns the status of its transaction
  abbrev pub closed_answer : Option Xid → Message → Step
  closed_answer (Some asked) (message.StatusAnswer xid status) = if_same (asked.0 == xid.0) (still (act.Learns status))
  closed_answer _ heard = still act.Ignored

  -- a message: after the end only a status counts, before it what the manager waits for
  abbrev pub message_answer : (closed : Bool) → Option Message → Message → Step
  message_answer true last heard = closed_answer (ended_by last) heard
  message_answer false last heard = waiting_answer last heard

-- what a manager does with an input
abbrev pub manager_answer : Settings → List Own → Input → Step
manager_answer m os input.Turn = turn_answer m (sent_count os) (busy_count os) (is_closed os) (last_sent os)
manager_answer m os (input.Message from heard) = message_answer m (sent_count os) (busy_count os) (is_closed os) (last_sent os) heard
manager_answer m os _ = still act.Ignored
