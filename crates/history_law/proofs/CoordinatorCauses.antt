-- What asked the coordinator for a record, and what its messages say of the records after it.
use Rattle.std.proofs.Common.{◌≡◌, ◌⊎◌, inl, inr, ◌==◌, ◌&&◌, not, nat_le, ℕ, Bool, true, false, List, ◌++◌, length, Option, Some, None, is_some, refl, ap, sym, ◌∙◌}
use Rattle.std.specs.Option.{option_and_then}
use Rattle.seata_types.specs.declared.acts.Act.{Act}
use Rattle.seata_types.specs.declared.ids.BranchId.{BranchId}
use Rattle.seata_types.specs.declared.ids.Place.{Place}
use Rattle.seata_types.specs.declared.ids.Place.TheVariants as place
use Rattle.seata_types.specs.declared.ids.Ticket.{Ticket}
use Rattle.seata_types.specs.declared.ids.Xid.{Xid}
use Rattle.seata_types.specs.declared.messages.Input.{Input}
use Rattle.seata_types.specs.declared.messages.Input.TheVariants as input
use Rattle.seata_types.specs.declared.messages.Message.{Message}
use Rattle.seata_types.specs.declared.messages.Message.TheVariants as message
use Rattle.seata_types.specs.declared.messages.Outgoing.{Outgoing}
use Rattle.seata_types.specs.declared.messages.Registered.TheVariants as registered
use Rattle.seata_types.specs.declared.messages.Step.{Step}
use Rattle.seata_types.specs.declared.rows.RowKey.{RowKey}
use Rattle.seata_types.specs.declared.statuses.BranchKind.{BranchKind}
use Rattle.seata_types.specs.declared.statuses.BranchKind.TheVariants as kind
use Rattle.seata_types.specs.declared.statuses.BranchStatus.{BranchStatus}
use Rattle.seata_types.specs.declared.statuses.BranchStatus.TheVariants as branch
use Rattle.seata_types.specs.declared.statuses.Decision.TheVariants as how
use Rattle.durable_records.specs.declared.coordinators.SessionRecord.{SessionRecord}
use Rattle.durable_records.specs.declared.coordinators.SessionRecord.TheVariants as log
use Rattle.durable_records.specs.Transactions.{Session, sessions, session, session_for, has_manager, decided, is_forgotten, next_xid, is_commit, is_rollback}
use Rattle.durable_records.specs.Branches.{Grant, grants, granted, is_named, is_at, same_ticket, next_branch, unended_branch}
use Rattle.durable_records.specs.Progress.{may_decide, is_going, may_retry}
use Rattle.durable_records.specs.Locks.{first_held}
use Rattle.history_rules.specs.Own.{Event, Given, Own, asked_act, added}
use Rattle.history_rules.specs.CoordinatorMemory.{Times, session_record, start, due, is_past, due_moment, late_one, due_one, old_one}
use Rattle.history_rules.specs.CoordinatorRules.{xid_of, branch_of, begin_answer, commit_answer, rollback_answer, query_answer, retry_answer, end_answer, branch_answer, Request, hold_answer, timely_answer, open_answer, register_answer, next_asked, asks, due_answer, old_answer, turn_answer, message_answer, coordinator_answer}
use Rattle.history_law.specs.Points.{In}
use Rattle.history_law.proofs.Tests.{false_true, and_left, and_right, same_nat, found_in}
use Rattle.history_law.proofs.Turns.{soonest_is, due_is_going}
use Rattle.history_law.proofs.Transactions.{going_decided}
use Rattle.history_law.proofs.Branches.{unended_there}
use Rattle.history_law.proofs.CoordinatorAnswers.{OnAct, asked_is_unended, rollback_else}

-- ---- what asked for a record

-- a Register with the fields of the branch, which had not been granted, and whose rows no other transaction held
pub record IsRegistered (rs : List SessionRecord) (event : Event) (g : Grant) : Type 0 where
  pub from : Place
  pub xid : Xid
  pub same : xid.0 ≡ g.xid
  pub check : List RowKey
  pub free : first_held rs g.xid (g.hold ++ check) ≡ None
  pub is : event ≡ Given (input.Message from (message.Register xid g.resource g.call g.ticket g.kind g.hold check))
  pub fresh : granted rs g.xid g.resource g.call g.ticket g.kind ≡ None

-- the second phase of branch b of x is done: 5 or 8
abbrev pub Ends : BranchStatus → Type 0
Ends st = (st ≡ branch.PhaseTwoRollbacked) ⊎ (st ≡ branch.PhaseTwoCommitted)

pub record IsAnsweredCommitted (event : Event) (x b : ℕ) : Type 0 where
  pub from : Place
  pub status : BranchStatus
  pub stmt : ℕ
  pub is : event ≡ Given (input.Message from (message.BranchCommitted (xid_of x) (branch_of b) status stmt))
  pub ends : Ends status

pub record IsAnsweredRollbacked (event : Event) (x b : ℕ) : Type 0 where
  pub from : Place
  pub status : BranchStatus
  pub stmt : ℕ
  pub is : event ≡ Given (input.Message from (message.BranchRollbacked (xid_of x) (branch_of b) status stmt))
  pub ends : Ends status

pub record IsAskedCommit (event : Event) (x : ℕ) : Type 0 where
  pub from : Place
  pub is : event ≡ Given (input.Message from (message.GlobalCommit (xid_of x)))

abbrev pub EndedBy : List SessionRecord → Event → ℕ → ℕ → Type 0
EndedBy rs event x b = ((is_commit (decided rs x) ≡ true) × IsAnsweredCommitted event x b) ⊎ ((is_rollback (decided rs x) ≡ true) × IsAnsweredRollbacked event x b)

abbrev pub CausedBy : List SessionRecord → Event → SessionRecord → Type 0
CausedBy rs event (log.Granted xid branch resource call ticket kind hold) =
    IsRegistered rs event (record { xid = xid.0; branch = branch.0; resource = resource; call = call; ticket = ticket; kind = kind; hold = hold })
CausedBy rs event (log.Ended xid branch) = EndedBy rs event xid.0 branch.0
CausedBy rs event (log.Decided xid how.Commit) = IsAskedCommit event xid.0
CausedBy rs event _ = Unit {0}

-- ---- what a message says

-- a Granted names a branch of the resource that asked, with the kind that was asked for: an AT branch has the ticket that
-- was asked for, a TCC branch the transaction and the call
pub record TellsGrant (rs : List SessionRecord) (event : Event) (to : Place) (t : Ticket) (b : ℕ) : Type 0 where
  pub branch : Grant
  pub granted : In branch (grants rs)
  pub number : branch.branch ≡ b
  pub from : Place
  pub ask : Request
  pub is : event ≡ Given (input.Message from (message.Register (xid_of ask.xid) ask.resource ask.call ask.ticket ask.kind ask.hold ask.check))
  pub to_resource : to ≡ place.Res ask.resource
  pub resource : branch.resource ≡ ask.resource
  pub kind_is : branch.kind ≡ ask.kind
  pub ticket : t ≡ ask.ticket
  pub at : branch.kind ≡ kind.At → branch.ticket ≡ ask.ticket
  pub tcc : branch.kind ≡ kind.Tcc → (branch.xid ≡ ask.xid) × (branch.call ≡ ask.call)

-- a branch is asked at its resource, the one whose turn it is
pub record TellsBranch (rs : List SessionRecord) (to : Place) (x b : ℕ) (k : BranchKind) (c : ℕ) : Type 0 where
  pub branch : Grant
  pub granted : In branch (grants rs)
  pub xid : branch.xid ≡ x
  pub number : branch.branch ≡ b
  pub place : to ≡ place.Res branch.resource
  pub of_kind : branch.kind ≡ k
  pub call : branch.call ≡ c
  pub next : next_asked rs x (is_commit (decided rs x)) ≡ Some branch

-- a free answer to a LockQuery
pub record TellsFree (rs : List SessionRecord) (event : Event) (to : Place) (t : Ticket) : Type 0 where
  pub resource : ℕ
  pub check : List RowKey
  pub is : event ≡ Given (input.Message to (message.LockQuery resource t check))
  pub free : first_held rs 0 check ≡ None

-- a Begun goes to the manager of the transaction, the one that a Begin names
pub record TellsBegun (rs : List SessionRecord) (event : Event) (to : Place) (x : ℕ) : Type 0 where
  pub of : Session
  pub there : In of (sessions rs)
  pub xid : of.xid ≡ x
  pub manager : to ≡ place.Man of.manager
  pub from : Place
  pub timeout : ℕ
  pub is : event ≡ Given (input.Message from (message.Begin of.manager timeout))

-- an answer to a Register that isn't granted goes to the resource that it names
pub record TellsResource (event : Event) (to : Place) : Type 0 where
  pub from : Place
  pub ask : Request
  pub is : event ≡ Given (input.Message from (message.Register (xid_of ask.xid) ask.resource ask.call ask.ticket ask.kind ask.hold ask.check))
  pub to_resource : to ≡ place.Res ask.resource

-- any other answer goes to the sender
pub record TellsSender (event : Event) (to : Place) : Type 0 where
  pub asked : Message
  pub is : event ≡ Given (input.Message to asked)

abbrev pub Tells : List SessionRecord → Event → Place → Message → Type 0
Tells rs event to (message.RegisterAnswer t xid (registered.Granted b)) = TellsGrant rs event to t b.0
Tells rs event to (message.RegisterAnswer t xid _) = TellsResource event to
Tells rs event to (message.BranchCommit xid b k m c) = TellsBranch rs to xid.0 b.0 k c × (is_commit (decided rs xid.0) ≡ true)
Tells rs event to (message.BranchRollback xid b k m c) = TellsBranch rs to xid.0 b.0 k c × (is_rollback (decided rs xid.0) ≡ true)
Tells rs event to (message.LockAnswer t None) = TellsFree rs event to t
Tells rs event to (message.LockAnswer t (Some held)) = TellsSender event to
Tells rs event to (message.Begun xid) = TellsBegun rs event to xid.0
Tells rs event to (message.CommitStatus xid st) = TellsSender event to
Tells rs event to (message.RollbackStatus xid st) = TellsSender event to
Tells rs event to (message.StatusAnswer xid st) = TellsSender event to
Tells rs event to _ = ⊥

abbrev pub TellsOf : List SessionRecord → Event → Option Outgoing → Type 0
TellsOf rs event None = Unit {0}
TellsOf rs event (Some out) = Tells rs event out.to out.message

-- ---- the answers

abbrev asked_for : ℕ → Event → Act → Option SessionRecord
asked_for now event done = option_and_then (session_record now event) (asked_act done)

abbrev SaysStep : List SessionRecord → ℕ → Event → Step → Type 0
SaysStep rs now event step = OnAct (CausedBy rs event) now event step.act × TellsOf (added (asked_for now event step.act) rs) event step.sent

module _ (rs : List SessionRecord) (now : ℕ) (event : Event) where
  sender : (from : Place) (asked : Message) → event ≡ Given (input.Message from asked) → TellsSender event from
  sender from asked is = record { asked = asked; is = is }

  commit_says : (from : Place) (xid : Xid) (may late : Bool) → event ≡ Given (input.Message from (message.GlobalCommit xid)) → SaysStep rs now event (commit_answer rs from xid may late)
  commit_says from xid false late is = (tt, sender from (message.GlobalCommit xid) is)
  commit_says from xid true false is = (record { from = from; is = is }, sender from (message.GlobalCommit xid) is)
  commit_says from xid true true is = (tt, sender from (message.GlobalCommit xid) is)

  rollback_says : (from : Place) (xid : Xid) (may : Bool) → event ≡ Given (input.Message from (message.GlobalRollback xid)) → SaysStep rs now event (rollback_answer rs from xid may)
  rollback_says from xid false is = (tt, sender from (message.GlobalRollback xid) is)
  rollback_says from xid true is = (tt, sender from (message.GlobalRollback xid) is)

  retry_says : (xid : Xid) (b : BranchId) (changes : Bool) → SaysStep rs now event (retry_answer rs xid b changes)
  retry_says xid b true = (tt, tt)
  retry_says xid b false = (tt, tt)

  -- by an answer of the decided kind
  abbrev OfKind : Xid → BranchId → BranchStatus → ℕ → Type 0
  OfKind xid b st stmt = ((is_commit (decided rs xid.0) ≡ true) × (from : Place) × (event ≡ Given (input.Message from (message.BranchCommitted xid b st stmt))))
      ⊎ ((is_rollback (decided rs xid.0) ≡ true) × (from : Place) × (event ≡ Given (input.Message from (message.BranchRollbacked xid b st stmt))))

  ended_by : (xid : Xid) (b : BranchId) (st : BranchStatus) (stmt : ℕ) → OfKind xid b st stmt → Ends st → EndedBy rs event xid.0 b.0
  ended_by xid b st stmt (inl (c, from, is)) ends = inl (c, record { from = from; status = st; stmt = stmt; is = is; ends = ends })
  ended_by xid b st stmt (inr (c, from, is)) ends = inr (c, record { from = from; status = st; stmt = stmt; is = is; ends = ends })

  end_says : (xid : Xid) (b : BranchId) (st : BranchStatus) (stmt : ℕ) → OfKind xid b st stmt → SaysStep rs now event (end_answer rs xid b st stmt)
  end_says xid b branch.PhaseTwoCommitted stmt k = (ended_by xid b branch.PhaseTwoCommitted stmt k (inr refl), tt)
  end_says xid b branch.PhaseTwoRollbacked stmt k = (ended_by xid b branch.PhaseTwoRollbacked stmt k (inl refl), tt)
  end_says xid b branch.PhaseTwoCommitFailedRetryable stmt k = retry_says xid b (may_retry rs xid.0)
  end_says xid b branch.PhaseTwoRollbackFailedRetryable stmt k = retry_says xid b (may_retry rs xid.0)
  end_says xid b branch.PhaseTwoCommitFailedUnretryable stmt k = (tt, tt)
  end_says xid b branch.PhaseTwoRollbackFailedUnretryable stmt k = (tt, tt)
  end_says xid b _ stmt k = (tt, tt)

  branch_says : (of_kind : Bool) (xid : Xid) (b : BranchId) (st : BranchStatus) (stmt : ℕ) → (of_kind ≡ true → OfKind xid b st stmt) → (counts : Bool)
      → (of_kind && (is_going rs xid.0 && is_some (unended_branch rs xid.0 b.0))) ≡ counts → SaysStep rs now event (branch_answer rs of_kind xid b st stmt)
  branch_says of_kind xid b st stmt k true e = rw e (end_says xid b st stmt (k (and_left of_kind (is_going rs xid.0 && is_some (unended_branch rs xid.0 b.0)) e)))
  branch_says of_kind xid b st stmt k false e = rw e (tt, tt)

-- ---- what was asked for already

at_kind : (k : BranchKind) → is_at k ≡ true → k ≡ kind.At
at_kind kind.At e = refl
at_kind kind.Tcc e = false_true e

tcc_kind : (k : BranchKind) → not (is_at k) ≡ true → k ≡ kind.Tcc
tcc_kind kind.At e = false_true e
tcc_kind kind.Tcc e = refl

tcc_at : kind.Tcc ≡ kind.At → ⊥
tcc_at e = cc

pub tcc_not_at : {A : Type 0} → kind.Tcc ≡ kind.At → A
tcc_not_at e = absurd (tcc_at e)

pub one_ticket : (t u : Ticket) → same_ticket t u ≡ true → t ≡ u
one_ticket t u e =
    let b : t.boot ≡ u.boot = same_nat t.boot u.boot (and_left (t.boot == u.boot) (t.seq == u.seq) e) in
    let q : t.seq ≡ u.seq = same_nat t.seq u.seq (and_right (t.boot == u.boot) (t.seq == u.seq) e) in
    λ i. record { boot = b i; seq = q i }

pub record IsNamed (x resource call : ℕ) (t : Ticket) (k : BranchKind) (g : Grant) : Type 0 where
  pub resource_is : g.resource ≡ resource
  pub kind_is : g.kind ≡ k
  pub at : g.kind ≡ kind.At → g.ticket ≡ t
  pub tcc : g.kind ≡ kind.Tcc → (g.xid ≡ x) × (g.call ≡ call)

named_is : (x resource call : ℕ) (t : Ticket) (k : BranchKind) (g : Grant) → is_named x resource call t k g ≡ true → IsNamed x resource call t k g
named_is x resource call t kind.At g e =
    let is = at_kind g.kind (and_left (is_at g.kind) ((g.resource == resource) && same_ticket g.ticket t) e) in
    let rest = and_right (is_at g.kind) ((g.resource == resource) && same_ticket g.ticket t) e in
    record {
      resource_is = same_nat g.resource resource (and_left (g.resource == resource) (same_ticket g.ticket t) rest);
      kind_is = is;
      at = λ k. one_ticket g.ticket t (and_right (g.resource == resource) (same_ticket g.ticket t) rest);
      tcc = λ k. tcc_not_at (sym k ∙ is);
    }
named_is x resource call t kind.Tcc g e =
    let is = tcc_kind g.kind (and_left (not (is_at g.kind)) ((g.xid == x) && ((g.resource == resource) && (g.call == call))) e) in
    let rest = and_right (not (is_at g.kind)) ((g.xid == x) && ((g.resource == resource) && (g.call == call))) e in
    let last = and_right (g.xid == x) ((g.resource == resource) && (g.call == call)) rest in
    record {
      resource_is = same_nat g.resource resource (and_left (g.resource == resource) (g.call == call) last);
      kind_is = is;
      at = λ k. tcc_not_at (sym is ∙ k);
      tcc = λ k. (same_nat g.xid x (and_left (g.xid == x) ((g.resource == resource) && (g.call == call)) rest), same_nat g.call call (and_right (g.resource == resource) (g.call == call) last));
    }

module _ (rs : List SessionRecord) (now : ℕ) (from : Place) where
  begin_says : (m timeout : ℕ) (known : Option Session) → session_for rs m ≡ known → SaysStep rs now (Given (input.Message from (message.Begin m timeout))) (begin_answer rs m known)
  begin_says m timeout (Some s) e =
      let f = found_in (has_manager m) (sessions rs) s e in
      let same : m ≡ s.manager = sym (same_nat s.manager m f.1) in
      (tt, record { of = s; there = f.0; xid = refl; manager = ap place.Man same; from = from; timeout = timeout; is = ap (λ k. Given (input.Message from (message.Begin k timeout))) same })
  begin_says m timeout None e =
      (tt, record { of = record { xid = next_xid rs; manager = m; begun = now; timeout = timeout }; there = inl refl; xid = refl; manager = refl; from = from; timeout = timeout; is = refl })

  abbrev asking : Request → Event
  asking q = Given (input.Message from (message.Register (xid_of q.xid) q.resource q.call q.ticket q.kind q.hold q.check))

  asker : (q : Request) → TellsResource (asking q) (place.Res q.resource)
  asker q = record { from = from; ask = q; is = refl; to_resource = refl }

  module _ (q : Request) (fresh : granted rs q.xid q.resource q.call q.ticket q.kind ≡ None) where
    hold_says : (held : Option (RowKey × Grant)) → first_held rs q.xid (q.hold ++ q.check) ≡ held → SaysStep rs now (asking q) (hold_answer rs now q held)
    hold_says (Some (k, g)) e = (tt, asker q)
    hold_says None e = (
      record { from = from; xid = xid_of q.xid; same = refl; check = q.check; free = e; is = refl; fresh = fresh },
      record {
        branch = record { xid = q.xid; branch = next_branch rs; resource = q.resource; call = q.call; ticket = q.ticket; kind = q.kind; hold = q.hold };
        granted = inl refl;
        number = refl;
        from = from;
        ask = q;
        is = refl;
        to_resource = refl;
        resource = refl;
        kind_is = refl;
        ticket = refl;
        at = λ k. refl;
        tcc = λ k. (refl, refl);
      },
    )

    timely_says : (past : Bool) → SaysStep rs now (asking q) (timely_answer rs now q past)
    timely_says true = (tt, asker q)
    timely_says false = hold_says (first_held rs q.xid (q.hold ++ q.check)) refl

    open_says : (may : Bool) → SaysStep rs now (asking q) (open_answer rs now q may)
    open_says true = timely_says (is_past (session rs q.xid) now)
    open_says false = (tt, asker q)

  register_says : (q : Request) (known : Option Grant) → granted rs q.xid q.resource q.call q.ticket q.kind ≡ known → SaysStep rs now (asking q) (register_answer rs now q known)
  register_says q (Some g) e =
      let k = found_in (λ h. not (is_forgotten rs h.xid) && is_named q.xid q.resource q.call q.ticket q.kind h) (grants rs) g e in
      let n = named_is q.xid q.resource q.call q.ticket q.kind g (and_right (not (is_forgotten rs g.xid)) (is_named q.xid q.resource q.call q.ticket q.kind g) k.1) in
      (tt, record { branch = g; granted = k.0; number = refl; from = from; ask = q; is = refl; to_resource = refl; resource = n.resource_is; kind_is = n.kind_is; ticket = refl; at = n.at; tcc = n.tcc })
  register_says q None e = open_says q e (may_decide rs q.xid)

  query_says : (resource : ℕ) (t : Ticket) (check : List RowKey) (held : Option (RowKey × Grant)) → first_held rs 0 check ≡ held
      → SaysStep rs now (Given (input.Message from (message.LockQuery resource t check))) (query_answer rs from t held)
  query_says resource t check None e = (tt, record { resource = resource; check = check; is = refl; free = e })
  query_says resource t check (Some (key, g)) e = (tt, record { asked = message.LockQuery resource t check; is = refl })

  message_says : (heard : Message) → SaysStep rs now (Given (input.Message from heard)) (message_answer rs now from heard)
  message_says (message.Begin m timeout) = begin_says m timeout (session_for rs m) refl
  message_says (message.Register xid resource call ticket kind hold check) =
      register_says (record { xid = xid.0; resource = resource; call = call; ticket = ticket; kind = kind; hold = hold; check = check })
      (granted rs xid.0 resource call ticket kind) refl
  message_says (message.GlobalCommit xid) = commit_says rs now (Given (input.Message from (message.GlobalCommit xid))) from xid (may_decide rs xid.0) (is_past (session rs xid.0) now) refl
  message_says (message.GlobalRollback xid) = rollback_says rs now (Given (input.Message from (message.GlobalRollback xid))) from xid (may_decide rs xid.0) refl
  message_says (message.GlobalStatus xid) = (tt, record { asked = message.GlobalStatus xid; is = refl })
  message_says (message.LockQuery resource ticket check) = query_says resource ticket check (first_held rs 0 check) refl
  message_says (message.BranchCommitted xid b st stmt) =
      branch_says rs now (Given (input.Message from (message.BranchCommitted xid b st stmt))) (is_commit (decided rs xid.0)) xid b st stmt (λ e. inl (e, from, refl)) _ refl
  message_says (message.BranchRollbacked xid b st stmt) =
      branch_says rs now (Given (input.Message from (message.BranchRollbacked xid b st stmt))) (is_rollback (decided rs xid.0)) xid b st stmt (λ e. inr (e, from, refl)) _ refl
  message_says _ = (tt, tt)

module _ (times : Times) (past : List SessionRecord) (os : List Own) (rs : List SessionRecord) (now : ℕ) where
  abbrev turned : Event
  turned = Given input.Turn

  question_says : (x : ℕ) (g : Grant) → is_going rs x ≡ true → (commit : Bool) → is_commit (decided rs x) ≡ commit → next_asked rs x commit ≡ Some g → Tells rs turned (place.Res g.resource) (asks rs x g commit)
  question_says x g going true e n =
      let o = unended_there rs x g (asked_is_unended rs x true g n) in
      (record { branch = g; granted = o.0; xid = o.1; number = refl; place = refl; of_kind = refl; call = refl; next = ap (next_asked rs x) e ∙ n }, e)
  question_says x g going false e n =
      let o = unended_there rs x g (asked_is_unended rs x false g n) in
      (record { branch = g; granted = o.0; xid = o.1; number = refl; place = refl; of_kind = refl; call = refl; next = ap (next_asked rs x) e ∙ n }, rollback_else (decided rs x) (going_decided rs x going) e)

  due_says : (x : ℕ) → is_going rs x ≡ true → (g : Option Grant) → next_asked rs x (is_commit (decided rs x)) ≡ g → SaysStep rs now turned (due_answer rs x g)
  due_says x going None e = (tt, tt)
  due_says x going (Some g) e = (tt, question_says x g going (is_commit (decided rs x)) refl e)

  old_says : (o : Option ℕ) → SaysStep rs now turned (old_answer rs o)
  old_says None = (tt, tt)
  old_says (Some x) = (tt, tt)

  turn_says : (late : Option ℕ) (first : Option (ℕ × ℕ)) → due_one times past os rs now ≡ first → SaysStep rs now turned (turn_answer rs late first (old_one times past os rs now))
  turn_says (Some x) first d = (tt, tt)
  turn_says None (Some (x, moment)) d =
      due_says x (due_is_going (is_going rs x) (nat_le (due times.retry (start past) os x) now) (due times.retry (start past) os x) moment
      (soonest_is (due_moment times past os rs now) x moment (length (sessions rs)) d)) (next_asked rs x (is_commit (decided rs x))) refl
  turn_says None None d = old_says (old_one times past os rs now)

  pub coordinator_says : (given : Input) → SaysStep rs now (Given given) (coordinator_answer times past os rs now given)
  coordinator_says input.Turn = turn_says (late_one times past os rs now) (due_one times past os rs now) refl
  coordinator_says (input.Message from heard) = message_says rs now from heard
  coordinator_says (input.Local k) = (tt, tt)
  coordinator_says (input.Outside k) = (tt, tt)
