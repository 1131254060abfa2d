-- The status of each finish is the one of its decision, also while it is in flight.
use Rattle.std.proofs.Common.{◌≡◌, ◌&&◌, nat_le, ℕ, Bool, true, false, if◌then◌else◌, List, [], ◌∷◌, ◌++◌, length, Option, Some, None, is_some, refl, sym, subst}
use Rattle.seata_types.specs.declared.acts.Act.{Act}
use Rattle.seata_types.specs.declared.acts.Act.TheVariants as act
use Rattle.seata_types.specs.declared.acts.Durable.{Durable}
use Rattle.seata_types.specs.declared.ids.BranchId.{BranchId}
use Rattle.seata_types.specs.declared.ids.Place.{Place}
use Rattle.seata_types.specs.declared.ids.Ticket.{Ticket}
use Rattle.seata_types.specs.declared.ids.Xid.{Xid}
use Rattle.seata_types.specs.declared.messages.Input.{Input}
use Rattle.seata_types.specs.declared.messages.Input.TheVariants as input
use Rattle.seata_types.specs.declared.messages.Message.{Message}
use Rattle.seata_types.specs.declared.messages.Message.TheVariants as message
use Rattle.seata_types.specs.declared.messages.Step.{Step}
use Rattle.seata_types.specs.declared.rows.RowKey.{RowKey}
use Rattle.seata_types.specs.declared.statuses.BranchStatus.{BranchStatus}
use Rattle.seata_types.specs.declared.statuses.BranchStatus.TheVariants as branch
use Rattle.seata_types.specs.declared.statuses.Decision.{Decision}
use Rattle.seata_types.specs.declared.statuses.Decision.TheVariants as how
use Rattle.durable_records.specs.declared.coordinators.SessionRecord.{SessionRecord}
use Rattle.durable_records.specs.Transactions.{Session, sessions, session, session_for, decided, is_commit, is_rollback}
use Rattle.durable_records.specs.Branches.{Grant, granted, unended_branch}
use Rattle.durable_records.specs.Progress.{may_decide, is_going, may_retry}
use Rattle.durable_records.specs.Locks.{first_held}
use Rattle.history_rules.specs.Own.{Event, Given, Own}
use Rattle.history_rules.specs.CoordinatorMemory.{Times, start, due, is_past, due_moment, late_one, due_one, old_one}
use Rattle.history_rules.specs.CoordinatorRules.{begin_answer, commit_answer, rollback_answer, query_answer, retry_answer, end_answer, Request, hold_answer, timely_answer, open_answer, register_answer, next_asked, due_answer, old_answer, turn_answer, message_answer, coordinator_answer}
use Rattle.history_law.proofs.Tests.{false_true, true_false}
use Rattle.history_law.proofs.Turns.{soonest_is, due_is_going}
use Rattle.history_law.proofs.Transactions.{going_decided}
use Rattle.history_rules.specs.Own.{Stopped, Crashed, Restarted, still, leaves}
use Rattle.history_rules.specs.CoordinatorMemory.{session_asked, sessions_left}
use Rattle.history_rules.specs.Devices.{is_down, down_after, in_flight, flight_after, fails, may_stand, written}
use Rattle.history_rules.specs.Nodes.{Role, World, Past, Coordinator, Happens, Ran, happens, up_answer, down_answer, left_at, role_at}
use Rattle.history_rules.specs.Histories.{Moment, IsDone as IsDoneAt, HappensAt, Legal, own, coordinator_left}
use Rattle.seata_types.specs.declared.ids.Place.TheVariants as place
use Rattle.seata_types.specs.declared.messages.Outgoing.{Outgoing}
use Rattle.durable_records.specs.Branches.{branches, all_at}
use Rattle.durable_records.specs.Progress.{IsDone, status_by}
use Rattle.history_law.specs.FinishSafety.{IsEndOf, FinishTells, TellsEnd, FinishesLaw}
use Rattle.history_law.proofs.Nodes.{ran}

-- an answer of the rule that is a finish tells the status of its decision, and none is a stop
abbrev AnswersEnd : List SessionRecord → Act → Type 0
AnswersEnd rs (act.Durable done) = FinishTells rs (Some done)
AnswersEnd rs (act.Down kept at) = ⊥
AnswersEnd rs (act.Restarted kept) = ⊥
AnswersEnd rs _ = Unit {0}

end_of : (at : Bool) (d : Option Decision) → is_some d ≡ true → IsEndOf d (status_by at d IsDone)
end_of at None some = false_true some
end_of true (Some how.Commit) some = refl
end_of false (Some how.Commit) some = refl
end_of true (Some how.Rollback) some = refl
end_of false (Some how.Rollback) some = refl
end_of true (Some how.Timeout) some = refl
end_of false (Some how.Timeout) some = refl

-- ---- messages

module _ (rs : List SessionRecord) (now : ℕ) (from : Place) where
  begin_end : (m : ℕ) (known : Option Session) → AnswersEnd rs (begin_answer rs m known).act
  begin_end m (Some s) = tt
  begin_end m None = tt

  commit_end : (xid : Xid) (may late : Bool) → AnswersEnd rs (commit_answer rs from xid may late).act
  commit_end xid false late = tt
  commit_end xid true false = tt
  commit_end xid true true = tt

  rollback_end : (xid : Xid) (may : Bool) → AnswersEnd rs (rollback_answer rs from xid may).act
  rollback_end xid false = tt
  rollback_end xid true = tt

  query_end : (t : Ticket) (held : Option (RowKey × Grant)) → AnswersEnd rs (query_answer rs from t held).act
  query_end t None = tt
  query_end t (Some (key, g)) = tt

  retry_end : (xid : Xid) (b : BranchId) (changes : Bool) → AnswersEnd rs (retry_answer rs xid b changes).act
  retry_end xid b true = tt
  retry_end xid b false = tt

  ended_end : (xid : Xid) (b : BranchId) (st : BranchStatus) (stmt : ℕ) → AnswersEnd rs (end_answer rs xid b st stmt).act
  ended_end xid b branch.PhaseTwoCommitted stmt = tt
  ended_end xid b branch.PhaseTwoRollbacked stmt = tt
  ended_end xid b branch.PhaseTwoCommitFailedRetryable stmt = retry_end xid b (may_retry rs xid.0)
  ended_end xid b branch.PhaseTwoRollbackFailedRetryable stmt = retry_end xid b (may_retry rs xid.0)
  ended_end xid b branch.PhaseTwoCommitFailedUnretryable stmt = tt
  ended_end xid b branch.PhaseTwoRollbackFailedUnretryable stmt = tt
  ended_end xid b _ stmt = tt

  branch_end : (xid : Xid) (b : BranchId) (st : BranchStatus) (stmt : ℕ) (counts : Bool) → AnswersEnd rs (if counts then end_answer rs xid b st stmt else still act.Ignored).act
  branch_end xid b st stmt true = ended_end xid b st stmt
  branch_end xid b st stmt false = tt

  hold_end : (q : Request) (held : Option (RowKey × Grant)) → AnswersEnd rs (hold_answer rs now q held).act
  hold_end q (Some (key, g)) = tt
  hold_end q None = tt

  timely_end : (q : Request) (past : Bool) → AnswersEnd rs (timely_answer rs now q past).act
  timely_end q true = tt
  timely_end q false = hold_end q (first_held rs q.xid (q.hold ++ q.check))

  open_end : (q : Request) (may : Bool) → AnswersEnd rs (open_answer rs now q may).act
  open_end q true = timely_end q (is_past (session rs q.xid) now)
  open_end q false = tt

  register_end : (q : Request) (known : Option Grant) → AnswersEnd rs (register_answer rs now q known).act
  register_end q (Some g) = tt
  register_end q None = open_end q (may_decide rs q.xid)

  message_end : (heard : Message) → AnswersEnd rs (message_answer rs now from heard).act
  message_end (message.Begin m timeout) = begin_end m (session_for rs m)
  message_end (message.Register xid resource call ticket kind hold check) =
      register_end (record { xid = xid.0; resource = resource; call = call; ticket = ticket; kind = kind; hold = hold; check = check }) (granted rs xid.0 resource call ticket kind)
  message_end (message.GlobalCommit xid) = commit_end xid (may_decide rs xid.0) (is_past (session rs xid.0) now)
  message_end (message.GlobalRollback xid) = rollback_end xid (may_decide rs xid.0)
  message_end (message.GlobalStatus xid) = tt
  message_end (message.LockQuery resource ticket check) = query_end ticket (first_held rs 0 check)
  message_end (message.BranchCommitted xid b st stmt) = branch_end xid b st stmt (is_commit (decided rs xid.0) && (is_going rs xid.0 && is_some (unended_branch rs xid.0 b.0)))
  message_end (message.BranchRollbacked xid b st stmt) = branch_end xid b st stmt (is_rollback (decided rs xid.0) && (is_going rs xid.0 && is_some (unended_branch rs xid.0 b.0)))
  message_end _ = tt

-- ---- turns, and all

module _ (times : Times) (past : List SessionRecord) (os : List Own) (now : ℕ) where
  abbrev rs : List SessionRecord
  rs = (sessions_left past os).records

  due_end : (x : ℕ) → is_going rs x ≡ true → (g : Option Grant) → AnswersEnd rs (due_answer rs x g).act
  due_end x going None = end_of (all_at (branches rs x)) (decided rs x) (going_decided rs x going)
  due_end x going (Some g) = tt

  old_end : (o : Option ℕ) → AnswersEnd rs (old_answer rs o).act
  old_end None = tt
  old_end (Some x) = tt

  turn_end : (late : Option ℕ) (first : Option (ℕ × ℕ)) → due_one times past os rs now ≡ first → AnswersEnd rs (turn_answer rs late first (old_one times past os rs now)).act
  turn_end (Some x) first d = tt
  turn_end None (Some (x, moment)) d =
      due_end x (due_is_going (is_going rs x) (nat_le (due times.retry (start past) os x) now) (due times.retry (start past) os x) moment
      (soonest_is (due_moment times past os rs now) x moment (length (sessions rs)) d)) (next_asked rs x (is_commit (decided rs x)))
  turn_end None None d = old_end (old_one times past os rs now)

  answer_end : (given : Input) → AnswersEnd rs (coordinator_answer times past os rs now given).act
  answer_end input.Turn = turn_end (late_one times past os rs now) (due_one times past os rs now) refl
  answer_end (input.Message from heard) = message_end rs now from heard
  answer_end (input.Local k) = tt
  answer_end (input.Outside k) = tt

-- ---- in flight

-- what is in flight, where it is a finish, tells the status of its decision
abbrev FlightTells : List SessionRecord → List Own → Type 0
FlightTells past os = FinishTells (sessions_left past os).records (in_flight os)

nothing_tells : (records : List SessionRecord) (flight : Option Durable) → flight ≡ None → FinishTells records flight
nothing_tells records flight none = subst (λ (o : Option Durable). FinishTells records o) (sym none) tt

kept_tells : (records : List SessionRecord) (kept : Bool) (flight : Option Durable) → FinishTells records flight → FinishTells records (if kept then flight else None)
kept_tells records true flight tells = tells
kept_tells records false flight tells = tt

-- a node that is up has nothing in flight
lands : (os : List Own) → is_down os ≡ false → in_flight os ≡ None
lands [] up = refl
lands (o ∷ os) up = by o.step.act up (lands os)
  where
    by : (a : Act) → down_after a (is_down os) ≡ false → (is_down os ≡ false → in_flight os ≡ None) → flight_after a (in_flight os) ≡ None
    by (act.Down kept at) up below = true_false up
    by (act.Restarted kept) up below = refl
    by _ up below = below up

-- ---- what happens

module _ (times : Times) (past : List SessionRecord) (os : List Own) (now : ℕ) (tells : FlightTells past os) where
  abbrev before : List SessionRecord
  before = (sessions_left past os).records

  written_end : (done : Act) (failed : Bool) (sent : Option Outgoing) → AnswersEnd before done → TellsEnd before (written failed (record { act = done; sent = sent }) done).act
  written_end (act.Durable d) true sent p = (tt, p)
  written_end (act.Durable d) false sent p = p
  written_end (act.Down kept at) failed sent p = absurd p
  written_end (act.Restarted kept) failed sent p = absurd p
  written_end _ failed sent p = tt

  -- what is in flight after an act that asked for this record
  abbrev TellsAfter : Option SessionRecord → Act → Type 0
  TellsAfter asked done = FinishTells (leaves done asked (sessions_left past os)).records (flight_after done (in_flight os))

  module _ (asked : Option SessionRecord) (none : in_flight os ≡ None) where
    nothing_flight : (records : List SessionRecord) → FinishTells records (in_flight os)
    nothing_flight records = nothing_tells records (in_flight os) none

    written_flight : (done : Act) (failed : Bool) (sent : Option Outgoing) → AnswersEnd before done → TellsAfter asked (written failed (record { act = done; sent = sent }) done).act
    written_flight (act.Durable d) true sent p = p
    written_flight (act.Durable d) false sent p = nothing_flight (leaves (act.Durable d) asked (sessions_left past os)).records
    written_flight (act.Down kept at) failed sent p = absurd p
    written_flight (act.Restarted kept) failed sent p = absurd p
    written_flight _ failed sent p = nothing_flight before

  module _ (fault keeps : Bool) where
    abbrev role : Role
    role = Coordinator times past

    up_end : (event : Event) → TellsEnd before (up_answer role os now fault keeps event).act
    up_end (Given given) =
        let done = coordinator_answer times past os before now given in
        written_end done.act (fails fault (left_at role os)) done.sent (answer_end times past os now given)
    up_end (Stopped calls) = tt
    up_end Crashed = (tt, tt)
    up_end (Restarted pick calls) = tt

    down_end : (event : Event) → TellsEnd before (down_answer role os now fault keeps event).act
    down_end (Given given) = tt
    down_end (Stopped calls) = tt
    down_end Crashed = tt
    down_end (Restarted pick calls) =
        let stands = may_stand (left_at role os) in
        kept_tells before keeps (if stands then in_flight os else None) (kept_tells before stands (in_flight os) tells)

    happens_end : (event : Event) (down : Bool) → is_down os ≡ down → TellsEnd before (happens role os now fault keeps event).act
    happens_end event true e = rw e (down_end event)
    happens_end event false e = rw e (up_end event)

    up_flight : (asked : Option SessionRecord) → in_flight os ≡ None → (event : Event) → TellsAfter asked (up_answer role os now fault keeps event).act
    up_flight asked none (Given given) =
        let done = coordinator_answer times past os before now given in
        written_flight asked none done.act (fails fault (left_at role os)) done.sent (answer_end times past os now given)
    up_flight asked none (Stopped calls) = nothing_flight asked none before
    up_flight asked none Crashed = tt
    up_flight asked none (Restarted pick calls) = nothing_flight asked none before

    down_flight : (asked : Option SessionRecord) (event : Event) → TellsAfter asked (down_answer role os now fault keeps event).act
    down_flight asked (Given given) = tells
    down_flight asked (Stopped calls) = tells
    down_flight asked Crashed = tells
    down_flight asked (Restarted pick calls) = tt

    happens_flight : (asked : Option SessionRecord) (event : Event) (down : Bool) → is_down os ≡ down → TellsAfter asked (happens role os now fault keeps event).act
    happens_flight asked event true e = rw e (down_flight asked event)
    happens_flight asked event false e = rw e (up_flight asked (lands os e) event)

-- ---- all

flight_tells : (times : Times) (past : List SessionRecord) (os : List Own) → Ran (Coordinator times past) os → FlightTells past os
flight_tells times past [] all = tt
flight_tells times past (o ∷ os) all =
    let h = all.1 in
    let done : Own = record o { step = happens (Coordinator times past) os o.now h.fault h.keeps o.event } in
    subst (λ (st : Step). FlightTells past (record o { step = st } ∷ os)) (sym h.done)
    (happens_flight times past os o.now (flight_tells times past os all.0) h.fault h.keeps (session_asked done) o.event (is_down os) refl)

module _ (w : World) (past : Past) (ms : List Moment) (legal : Legal w past ms) (m : Moment) where
  ends_here : (event : Option Event) → m.place ≡ place.Tc → IsDoneAt w past ms m event → TellsEnd (coordinator_left past ms).records m.step.act
  ends_here (Some event) at done =
      let os = own place.Tc ms in
      let tells = flight_tells w.times past.sessions os (ran w past place.Tc (Coordinator w.times past.sessions) refl ms legal) in
      let h : Happens (Coordinator w.times past.sessions) (own place.Tc ms) m.now event m.step = subst (λ p. HappensAt (role_at w past p) (own p ms) m.now event m.step) at done in
      subst (λ (st : Step). TellsEnd (coordinator_left past ms).records st.act) (sym h.done) (happens_end w.times past.sessions os m.now tells h.fault h.keeps event (is_down (own place.Tc ms)) refl)
  ends_here None at done = subst (λ (st : Step). TellsEnd (coordinator_left past ms).records st.act) (sym done.1) tt

pub finishes_law : FinishesLaw
finishes_law w past [] legal = tt
finishes_law w past (m ∷ ms) legal = (finishes_law w past ms legal.0, λ at. ends_here w past ms legal.0 m m.event at legal.1.done)
