-- What the coordinator answers: a record that it asks for may come after those that stand, and a branch is asked as its
-- transaction is decided.
use Rattle.std.proofs.Common.{◌≡◌, inl, inr, ◌+◌, ◌==◌, ◌&&◌, nat_lt, nat_le, ℕ, Bool, true, false, List, [], ◌∷◌, ◌++◌, length, Option, Some, None, is_some, is_none, refl, ap, sym}
use Rattle.seata_types.specs.declared.acts.Act.{Act}
use Rattle.seata_types.specs.declared.acts.Act.TheVariants as act
use Rattle.seata_types.specs.declared.ids.BranchId.{BranchId}
use Rattle.seata_types.specs.declared.ids.Place.{Place}
use Rattle.seata_types.specs.declared.ids.Ticket.{Ticket}
use Rattle.seata_types.specs.declared.ids.Xid.{Xid}
use Rattle.seata_types.specs.declared.messages.Input.{Input}
use Rattle.seata_types.specs.declared.messages.Input.TheVariants as input
use Rattle.seata_types.specs.declared.messages.Message.{Message}
use Rattle.seata_types.specs.declared.messages.Message.TheVariants as message
use Rattle.seata_types.specs.declared.messages.Step.{Step}
use Rattle.seata_types.specs.declared.rows.RowKey.{RowKey}
use Rattle.seata_types.specs.declared.statuses.BranchStatus.{BranchStatus}
use Rattle.seata_types.specs.declared.statuses.BranchStatus.TheVariants as branch
use Rattle.seata_types.specs.declared.statuses.Decision.{Decision}
use Rattle.seata_types.specs.declared.statuses.Decision.TheVariants as how
use Rattle.durable_records.specs.declared.coordinators.SessionRecord.{SessionRecord}
use Rattle.durable_records.specs.Transactions.{Session, sessions, session, session_for, decided, next_xid, is_commit, is_rollback}
use Rattle.durable_records.specs.Branches.{Grant, granted, next_branch, unended, unended_branch}
use Rattle.durable_records.specs.Progress.{may_decide, is_going, is_finished, may_retry}
use Rattle.durable_records.specs.Locks.{first_held}
use Rattle.durable_records.specs.SessionOrder.{May, is_empty}
use Rattle.history_rules.specs.Own.{Event, Given, Own}
use Rattle.history_rules.specs.CoordinatorMemory.{Times, session_record, start, due, rests_since, is_past, is_late, due_moment, is_old, late_one, due_one, old_one}
use Rattle.history_rules.specs.CoordinatorRules.{xid_of, begin_answer, commit_answer, rollback_answer, query_answer, retry_answer, end_answer, branch_answer, Request, hold_answer, timely_answer, open_answer, register_answer, first_of, last_of, next_asked, asks, due_answer, old_answer, turn_answer, message_answer, coordinator_answer}
use Rattle.history_law.specs.Points.{In}
use Rattle.history_law.specs.SessionSafety.{IsAsked, Asks}
use Rattle.history_law.proofs.Tests.{false_true, true_false, none_some, and_left, and_right, and_both, nat_same, member_found}
use Rattle.history_law.proofs.Turns.{least_passes, soonest_is, due_is_going}
use Rattle.history_law.proofs.Transactions.{going_decided}
use Rattle.history_law.proofs.Holders.{held_left}

-- the record that an act asks for, if any, has a property, and the act is no stop
abbrev pub OnRecord : (SessionRecord → Type 0) → Option SessionRecord → Type 0
OnRecord C None = Unit {0}
OnRecord C (Some r) = C r

abbrev pub OnAct : (SessionRecord → Type 0) → ℕ → Event → Act → Type 0
OnAct C now event (act.Durable d) = OnRecord C (session_record now event d)
OnAct C now event (act.Down kept at) = ⊥
OnAct C now event (act.Restarted kept) = ⊥
OnAct C now event _ = Unit {0}

abbrev pub MayAct : List SessionRecord → ℕ → Event → Act → Type 0
MayAct rs now event done = OnAct (May rs) now event done

abbrev pub MayStep : List SessionRecord → ℕ → Event → Step → Type 0
MayStep rs now event step = MayAct rs now event step.act × Asks rs step.sent

-- ---- questions

first_in : {A : Type 0} (list : List A) (a : A) → first_of list ≡ Some a → In a list
first_in [] a e = none_some e
first_in (b ∷ rest) a e = let same : b ≡ a = cc in inl (sym same)

pub last_in : {A : Type 0} (list : List A) (a : A) → last_of list ≡ Some a → In a list
last_in [] a e = none_some e
last_in (b ∷ []) a e = let same : b ≡ a = cc in inl (sym same)
last_in (b ∷ c ∷ rest) a e = inr (last_in (c ∷ rest) a e)

pub rollback_else : (d : Option Decision) → is_some d ≡ true → is_commit d ≡ false → is_rollback d ≡ true
rollback_else None s c = false_true s
rollback_else (Some how.Commit) s c = true_false c
rollback_else (Some how.Rollback) s c = refl
rollback_else (Some how.Timeout) s c = refl

module _ (rs : List SessionRecord) (x : ℕ) where
  unended_is_found : (g : Grant) → In g (unended rs x) → is_some (unended_branch rs x g.branch) ≡ true
  unended_is_found g i = member_found (λ h. h.branch == g.branch) (unended rs x) g i (nat_same g.branch g.branch refl)

  pub asked_is_unended : (commit : Bool) (g : Grant) → next_asked rs x commit ≡ Some g → In g (unended rs x)
  asked_is_unended true g e = last_in (unended rs x) g e
  asked_is_unended false g e = first_in (unended rs x) g e

  question : (commit : Bool) → is_commit (decided rs x) ≡ commit → is_going rs x ≡ true → (g : Grant) → In g (unended rs x) → IsAsked rs (asks rs x g commit)
  question true e going g i = (e, unended_is_found g i)
  question false e going g i = (rollback_else (decided rs x) (going_decided rs x going) e, unended_is_found g i)

-- ---- answers to messages

module _ (rs : List SessionRecord) (now : ℕ) (event : Event) where
  commit_may : (from : Place) (xid : Xid) (may late : Bool) → may_decide rs xid.0 ≡ may → MayStep rs now event (commit_answer rs from xid may late)
  commit_may from xid false late e = (tt, tt)
  commit_may from xid true false e = (e, tt)
  commit_may from xid true true e = (e, tt)

  rollback_may : (from : Place) (xid : Xid) (may : Bool) → may_decide rs xid.0 ≡ may → MayStep rs now event (rollback_answer rs from xid may)
  rollback_may from xid false e = (tt, tt)
  rollback_may from xid true e = (e, tt)

  retry_may : (xid : Xid) (b : BranchId) (changes : Bool) → may_retry rs xid.0 ≡ changes → MayStep rs now event (retry_answer rs xid b changes)
  retry_may xid b true e = (e, tt)
  retry_may xid b false e = (tt, tt)

  end_may : (xid : Xid) (b : BranchId) (st : BranchStatus) (stmt : ℕ) → (is_going rs xid.0 && is_some (unended_branch rs xid.0 b.0)) ≡ true → MayStep rs now event (end_answer rs xid b st stmt)
  end_may xid b branch.PhaseTwoCommitted stmt e = (e, tt)
  end_may xid b branch.PhaseTwoRollbacked stmt e = (e, tt)
  end_may xid b branch.PhaseTwoCommitFailedRetryable stmt e = retry_may xid b (may_retry rs xid.0) refl
  end_may xid b branch.PhaseTwoRollbackFailedRetryable stmt e = retry_may xid b (may_retry rs xid.0) refl
  end_may xid b branch.PhaseTwoCommitFailedUnretryable stmt e = (e, tt)
  end_may xid b branch.PhaseTwoRollbackFailedUnretryable stmt e = (e, tt)
  end_may xid b _ stmt e = (tt, tt)

  branch_may : (of_kind : Bool) (xid : Xid) (b : BranchId) (st : BranchStatus) (stmt : ℕ) (counts : Bool)
      → (of_kind && (is_going rs xid.0 && is_some (unended_branch rs xid.0 b.0))) ≡ counts → MayStep rs now event (branch_answer rs of_kind xid b st stmt)
  branch_may of_kind xid b st stmt true e = rw e (end_may xid b st stmt (and_right of_kind (is_going rs xid.0 && is_some (unended_branch rs xid.0 b.0)) e))
  branch_may of_kind xid b st stmt false e = rw e (tt, tt)

  query_may : (from : Place) (t : Ticket) (held : Option (RowKey × Grant)) → MayStep rs now event (query_answer rs from t held)
  query_may from t None = (tt, tt)
  query_may from t (Some (key, g)) = (tt, tt)

-- a Begin, and a Register, whose records have the fields of the message
module _ (rs : List SessionRecord) (now : ℕ) (from : Place) where
  begin_may : (m timeout : ℕ) (known : Option Session) → session_for rs m ≡ known → MayStep rs now (Given (input.Message from (message.Begin m timeout))) (begin_answer rs m known)
  begin_may m timeout (Some s) e = (tt, tt)
  begin_may m timeout None e =
      (and_both (next_xid rs == next_xid rs) (is_none (session_for rs m)) (nat_same (next_xid rs) (next_xid rs) refl) (ap (λ o. is_none o) e), tt)

  abbrev asking : Request → Event
  asking q = Given (input.Message from (message.Register (xid_of q.xid) q.resource q.call q.ticket q.kind q.hold q.check))

  module _ (q : Request) (fresh : granted rs q.xid q.resource q.call q.ticket q.kind ≡ None) where
    hold_may : may_decide rs q.xid ≡ true → (held : Option (RowKey × Grant)) → first_held rs q.xid (q.hold ++ q.check) ≡ held → MayStep rs now (asking q) (hold_answer rs now q held)
    hold_may may (Some (k, g)) e = (tt, tt)
    hold_may may None e =
        let b = next_branch rs in
        let free : is_none (first_held rs q.xid q.hold) ≡ true = ap (λ o. is_none o) (held_left rs q.xid q.hold q.check e) in
        let grant = and_both (may_decide rs q.xid) ((b == b) && is_none (first_held rs q.xid q.hold)) may
        (and_both (b == b) (is_none (first_held rs q.xid q.hold)) (nat_same b b refl) free) in
        (and_both (may_decide rs q.xid && ((b == b) && is_none (first_held rs q.xid q.hold))) (is_none (granted rs q.xid q.resource q.call q.ticket q.kind)) grant (ap (λ o. is_none o) fresh), tt)

    timely_may : may_decide rs q.xid ≡ true → (past : Bool) → MayStep rs now (asking q) (timely_answer rs now q past)
    timely_may may true = (may, tt)
    timely_may may false = hold_may may (first_held rs q.xid (q.hold ++ q.check)) refl

    open_may : (may : Bool) → may_decide rs q.xid ≡ may → MayStep rs now (asking q) (open_answer rs now q may)
    open_may true e = timely_may e (is_past (session rs q.xid) now)
    open_may false e = (tt, tt)

  register_may : (q : Request) (known : Option Grant) → granted rs q.xid q.resource q.call q.ticket q.kind ≡ known → MayStep rs now (asking q) (register_answer rs now q known)
  register_may q (Some g) e = (tt, tt)
  register_may q None e = open_may q e (may_decide rs q.xid) refl

  abbrev hearing : Message → Event
  hearing heard = Given (input.Message from heard)

  message_may : (heard : Message) → MayStep rs now (Given (input.Message from heard)) (message_answer rs now from heard)
  message_may (message.Begin m timeout) = begin_may m timeout (session_for rs m) refl
  message_may (message.Register xid resource call ticket kind hold check) =
      register_may (record { xid = xid.0; resource = resource; call = call; ticket = ticket; kind = kind; hold = hold; check = check })
      (granted rs xid.0 resource call ticket kind) refl
  message_may (message.GlobalCommit xid) = commit_may rs now (hearing (message.GlobalCommit xid)) from xid (may_decide rs xid.0) (is_past (session rs xid.0) now) refl
  message_may (message.GlobalRollback xid) = rollback_may rs now (hearing (message.GlobalRollback xid)) from xid (may_decide rs xid.0) refl
  message_may (message.GlobalStatus xid) = (tt, tt)
  message_may (message.LockQuery resource ticket check) = query_may rs now (hearing (message.LockQuery resource ticket check)) from ticket (first_held rs 0 check)
  message_may (message.BranchCommitted xid b st stmt) = branch_may rs now (hearing (message.BranchCommitted xid b st stmt)) (is_commit (decided rs xid.0)) xid b st stmt _ refl
  message_may (message.BranchRollbacked xid b st stmt) = branch_may rs now (hearing (message.BranchRollbacked xid b st stmt)) (is_rollback (decided rs xid.0)) xid b st stmt _ refl
  message_may _ = (tt, tt)

-- ---- turns

last_is : (gs : List Grant) → last_of gs ≡ None → is_empty gs ≡ true
last_is [] e = refl
last_is (g ∷ []) e = none_some (sym e)
last_is (g ∷ h ∷ gs) e = last_is (h ∷ gs) e

first_is : (gs : List Grant) → first_of gs ≡ None → is_empty gs ≡ true
first_is [] e = refl
first_is (g ∷ gs) e = none_some (sym e)

empty_none : (rs : List SessionRecord) (x : ℕ) (commit : Bool) → next_asked rs x commit ≡ None → is_empty (unended rs x) ≡ true
empty_none rs x true e = last_is (unended rs x) e
empty_none rs x false e = first_is (unended rs x) e

module _ (times : Times) (past : List SessionRecord) (os : List Own) (rs : List SessionRecord) (now : ℕ) where
  abbrev turned : Event
  turned = Given input.Turn

  due_may : (x : ℕ) → is_going rs x ≡ true → (g : Option Grant) → next_asked rs x (is_commit (decided rs x)) ≡ g → MayStep rs now turned (due_answer rs x g)
  due_may x going None e = (and_both (is_going rs x) (is_empty (unended rs x)) going (empty_none rs x (is_commit (decided rs x)) e), tt)
  due_may x going (Some g) e = (tt, question rs x (is_commit (decided rs x)) refl going g (asked_is_unended rs x (is_commit (decided rs x)) g e))

  old_may : (o : Option ℕ) → old_one times past os rs now ≡ o → MayStep rs now turned (old_answer rs o)
  old_may None e = (tt, tt)
  old_may (Some x) e =
      let long = nat_le (rests_since (start past) os x + times.forget) now in
      (and_left (is_finished rs x) long (and_right (nat_lt 0 times.forget) (is_finished rs x && long) (least_passes (is_old times past os rs now) (length (sessions rs)) x e)), tt)

  turn_may : (late : Option ℕ) → late_one times past os rs now ≡ late → (first : Option (ℕ × ℕ)) → due_one times past os rs now ≡ first
      → MayStep rs now turned (turn_answer rs late first (old_one times past os rs now))
  turn_may (Some x) e first d = (and_left (may_decide rs x) (is_past (session rs x) now) (least_passes (is_late rs now) (length (sessions rs)) x e), tt)
  turn_may None e (Some (x, moment)) d =
      due_may x (due_is_going (is_going rs x) (nat_le (due times.retry (start past) os x) now) (due times.retry (start past) os x) moment
      (soonest_is (due_moment times past os rs now) x moment (length (sessions rs)) d)) (next_asked rs x (is_commit (decided rs x))) refl
  turn_may None e None d = old_may (old_one times past os rs now) refl

  pub coordinator_may : (given : Input) → MayStep rs now (Given given) (coordinator_answer times past os rs now given)
  coordinator_may input.Turn = turn_may (late_one times past os rs now) refl (due_one times past os rs now) refl
  coordinator_may (input.Message from heard) = message_may rs now from heard
  coordinator_may (input.Local k) = (tt, tt)
  coordinator_may (input.Outside k) = (tt, tt)
