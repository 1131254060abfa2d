-- What the messages of a legal history tell, over disks with any records: a Register its resource, those of the second phase the manager
-- and the call of their branch, whose transaction wasn't forgotten before.
use Rattle.std.proofs.Common.{◌≡◌, ◌⊎◌, inl, inr, ◌==◌, ◌&&◌, not, ℕ, Bool, true, false, if◌then◌else◌, List, [], ◌∷◌, ◌++◌, length, nat_le, Option, Some, None, option_map, is_some, refl, sym, ap, ◌∙◌, subst}
use Rattle.std.specs.Option.{option_and_then}
use Rattle.seata_types.specs.declared.acts.Act.{Act}
use Rattle.seata_types.specs.declared.acts.Act.TheVariants as act
use Rattle.seata_types.specs.declared.ids.BranchId.{BranchId}
use Rattle.seata_types.specs.declared.ids.Place.{Place}
use Rattle.seata_types.specs.declared.ids.Place.TheVariants as place
use Rattle.seata_types.specs.declared.ids.Ticket.{Ticket}
use Rattle.seata_types.specs.declared.ids.Xid.{Xid}
use Rattle.seata_types.specs.declared.messages.Input.{Input}
use Rattle.seata_types.specs.declared.messages.Input.TheVariants as input
use Rattle.seata_types.specs.declared.messages.Message.{Message}
use Rattle.seata_types.specs.declared.messages.Message.TheVariants as message
use Rattle.seata_types.specs.declared.messages.Outgoing.{Outgoing}
use Rattle.seata_types.specs.declared.messages.Step.{Step}
use Rattle.seata_types.specs.declared.rows.RowKey.{RowKey}
use Rattle.seata_types.specs.declared.statuses.BranchStatus.{BranchStatus}
use Rattle.seata_types.specs.declared.statuses.BranchStatus.TheVariants as branch
use Rattle.durable_records.specs.declared.coordinators.SessionRecord.{SessionRecord}
use Rattle.durable_records.specs.declared.coordinators.SessionRecord.TheVariants as log
use Rattle.durable_records.specs.Transactions.{Session, sessions, session, session_for, decided, is_commit, is_forgotten, is_rollback, has_xid}
use Rattle.durable_records.specs.Branches.{Grant, grants, granted, unended_branch}
use Rattle.durable_records.specs.Locks.{first_held}
use Rattle.durable_records.specs.Progress.{may_decide, may_retry, is_going}
use Rattle.durable_records.specs.SessionOrder.{Allowed}
use Rattle.durable_records.proofs.MemberFacts.{found_in}
use Rattle.history_rules.specs.Own.{Event, Own, Left, added, asked_act, still}
use Rattle.history_rules.specs.CoordinatorMemory.{Times, is_past, due, due_moment, late_one, due_one, old_one, session_record, sessions_left, start}
use Rattle.history_rules.specs.CoordinatorRules
use Rattle.history_rules.specs.CoordinatorRules.{Request, coordinator_answer, manager_of, message_answer, next_asked, register_answer, turn_answer}
use Rattle.history_rules.specs.ManagerRules.{Settings}
use Rattle.history_rules.specs.Nodes.{World, Past, Coordinator, Resource, Manager, Happens, counted_at, role_at}
use Rattle.history_rules.specs.ResourceMemory.{Setup, Memory}
use Rattle.history_rules.specs.Histories.{Moment, own, own_if, same_place, HappensAt, IsDone, Legal, coordinator_left}
use Rattle.history_law.specs.Cover.{memory_of}
use Rattle.history_law.specs.Network.{OnSent, EachSent}
use Rattle.history_law.specs.Points.{In}
use Rattle.history_law.specs.TicketSafety.{AreNumbered}
use Rattle.history_law.proofs.CallBranches.{session_stays}
use Rattle.history_law.proofs.Branches.{grant_stays}
use Rattle.history_law.proofs.CoordinatorAnswers.{OnAct, OnRecord, MayAct, coordinator_may}
use Rattle.history_law.proofs.CoordinatorCauses.{Tells, TellsOf, coordinator_says}
use Rattle.history_law.proofs.CoordinatorSteps.{coordinator_moves}
use Rattle.history_law.proofs.Deliveries.{each_grows}
use Rattle.history_law.proofs.ManagerSteps.{IsManagers, SendsManagers, manager_says}
use Rattle.history_law.proofs.Nodes.{ran}
use Rattle.history_law.proofs.ResourceFits.{MessageFits, SentFits, Fits}
use Rattle.history_law.proofs.ResourceSteps.{resource_moves}
use Rattle.history_law.proofs.SessionHistory.{both_allowed}
use Rattle.history_law.proofs.Steps.{have_tickets}
use Rattle.history_law.proofs.Tests.{and_left, and_right, false_true, same_nat}
use Rattle.history_law.proofs.Turns.{due_is_going, soonest_is}
use Rattle.session_memory.proofs.GrantLaws.{grant_begun}
use Rattle.report_text.specs.Following.{FindCalls, FindManagers}
use Rattle.report_text.specs.Keeping.{Numbers, number_at}
use Rattle.report_text.proofs.MadeLaws.{TellsResource, TellResources}

-- ---- what is forgotten

not_true : (b : Bool) → not b ≡ true → b ≡ false
not_true true e = absurd (false_true e)
not_true false e = refl

-- a transaction whose branches are asked is known
going_known : (rs : List SessionRecord) (x : ℕ) → is_going rs x ≡ true → is_forgotten rs x ≡ false
going_known rs x going = not_true (is_forgotten rs x) (and_right (is_some (session rs x)) (not (is_forgotten rs x)) (and_left _ _ going))

-- what is forgotten stays so with one more record
forgotten_on : (r : SessionRecord) (rs : List SessionRecord) (x : ℕ) → is_forgotten rs x ≡ true → is_forgotten (r ∷ rs) x ≡ true
forgotten_on (log.Forgot xid) rs x e = by (xid.0 == x)
  where
    by : (b : Bool) → (if b then true else is_forgotten rs x) ≡ true
    by true = refl
    by false = e
forgotten_on _ rs x e = e

-- what was forgotten before is forgotten in these records
abbrev pub StayForgotten : (past rs : List SessionRecord) → Type 0
StayForgotten past rs = (x : ℕ) → is_forgotten past x ≡ true → is_forgotten rs x ≡ true

-- so what is known in them was known before
known_before : (past rs : List SessionRecord) (x : ℕ) → StayForgotten past rs → is_forgotten rs x ≡ false → is_forgotten past x ≡ false
known_before past rs x stay known = by (is_forgotten past x) refl
  where
    by : (b : Bool) → is_forgotten past x ≡ b → is_forgotten past x ≡ false
    by true e = absurd (false_true (sym known ∙ stay x e))
    by false e = e

-- ---- the manager that a question names, of a transaction that is known

abbrev pub NamesManager : List SessionRecord → Message → Type 0
NamesManager rs (message.BranchCommit xid b k m c) = (m ≡ manager_of (session rs xid.0)) × (is_forgotten rs xid.0 ≡ false)
NamesManager rs (message.BranchRollback xid b k m c) = (m ≡ manager_of (session rs xid.0)) × (is_forgotten rs xid.0 ≡ false)
NamesManager rs _ = Unit {0}

abbrev pub SentNames : List SessionRecord → Option Outgoing → Type 0
SentNames rs None = Unit {0}
SentNames rs (Some out) = NamesManager rs out.message

-- a coordinator's answer names the manager of the transaction, by the records that stand after it
module _ (rs : List SessionRecord) (now : ℕ) (event : Event) where
  abbrev Names : Step → Type 0
  Names step = SentNames (added (option_and_then (session_record now event) (asked_act step.act)) rs) step.sent

  due_names : (x : ℕ) → is_going rs x ≡ true → (o : Option Grant) → Names (CoordinatorRules.due_answer rs x o)
  due_names x going None = tt
  due_names x going (Some g) = by (is_commit (decided rs x))
    where
      by : (commit : Bool) → NamesManager rs (CoordinatorRules.asks rs x g commit)
      by true = (refl, going_known rs x going)
      by false = (refl, going_known rs x going)

  turn_names : (times : Times) (past : List SessionRecord) (os : List Own) (late : Option ℕ) (first : Option (ℕ × ℕ)) → due_one times past os rs now ≡ first → (old : Option ℕ) → Names (turn_answer rs late first old)
  turn_names times past os (Some x) first d old = tt
  turn_names times past os None (Some (x, moment)) d old =
      due_names x
      (due_is_going (is_going rs x) (nat_le (due times.retry (start past) os x) now) (due times.retry (start past) os x) moment
      (soonest_is (due_moment times past os rs now) x moment (length (sessions rs)) d)) (next_asked rs x (is_commit (decided rs x)))
  turn_names times past os None None d (Some x) = tt
  turn_names times past os None None d None = tt

  begin_names : (manager : ℕ) (o : Option Session) → Names (CoordinatorRules.begin_answer rs manager o)
  begin_names manager None = tt
  begin_names manager (Some s) = tt

  commit_names : (from : Place) (xid : Xid) (may late : Bool) → Names (CoordinatorRules.commit_answer rs from xid may late)
  commit_names from xid false late = tt
  commit_names from xid true false = tt
  commit_names from xid true true = tt

  rollback_names : (from : Place) (xid : Xid) (may : Bool) → Names (CoordinatorRules.rollback_answer rs from xid may)
  rollback_names from xid false = tt
  rollback_names from xid true = tt

  query_names : (from : Place) (t : Ticket) (o : Option (RowKey × Grant)) → Names (CoordinatorRules.query_answer rs from t o)
  query_names from t None = tt
  query_names from t (Some held) = tt

  retry_names : (xid : Xid) (b : BranchId) (changes : Bool) → Names (CoordinatorRules.retry_answer rs xid b changes)
  retry_names xid b true = tt
  retry_names xid b false = tt

  end_names : (xid : Xid) (b : BranchId) (st : BranchStatus) (stmt : ℕ) → Names (CoordinatorRules.end_answer rs xid b st stmt)
  end_names xid b branch.PhaseTwoCommitted stmt = tt
  end_names xid b branch.PhaseTwoRollbacked stmt = tt
  end_names xid b branch.PhaseTwoCommitFailedRetryable stmt = retry_names xid b (may_retry rs xid.0)
  end_names xid b branch.PhaseTwoRollbackFailedRetryable stmt = retry_names xid b (may_retry rs xid.0)
  end_names xid b branch.PhaseTwoCommitFailedUnretryable stmt = tt
  end_names xid b branch.PhaseTwoRollbackFailedUnretryable stmt = tt
  end_names xid b _ stmt = tt

  branch_names : (counts : Bool) (xid : Xid) (b : BranchId) (st : BranchStatus) (stmt : ℕ)
      → Names (if counts then CoordinatorRules.end_answer rs xid b st stmt else still act.Ignored)
  branch_names true xid b st stmt = end_names xid b st stmt
  branch_names false xid b st stmt = tt

  module _ (q : Request) where
    hold_names : (o : Option (RowKey × Grant)) → Names (CoordinatorRules.hold_answer rs now q o)
    hold_names None = tt
    hold_names (Some held) = tt

    timely_names : (past : Bool) → Names (CoordinatorRules.timely_answer rs now q past)
    timely_names true = tt
    timely_names false = hold_names (first_held rs q.xid (q.hold ++ q.check))

    open_names : (may : Bool) → Names (CoordinatorRules.open_answer rs now q may)
    open_names false = tt
    open_names true = timely_names (is_past (session rs q.xid) now)

    register_names : (o : Option Grant) → Names (register_answer rs now q o)
    register_names (Some g) = tt
    register_names None = open_names (may_decide rs q.xid)

  message_names : (from : Place) (msg : Message) → Names (message_answer rs now from msg)
  message_names from (message.Begin manager timeout) = begin_names manager (session_for rs manager)
  message_names from (message.Register xid r c t k hold check) =
      register_names (record { xid = xid.0; resource = r; call = c; ticket = t; kind = k; hold = hold; check = check }) (granted rs xid.0 r c t k)
  message_names from (message.GlobalCommit xid) = commit_names from xid (may_decide rs xid.0) (is_past (session rs xid.0) now)
  message_names from (message.GlobalRollback xid) = rollback_names from xid (may_decide rs xid.0)
  message_names from (message.GlobalStatus xid) = tt
  message_names from (message.LockQuery r t check) = query_names from t (first_held rs 0 check)
  message_names from (message.BranchCommitted xid b st stmt) =
      branch_names (is_commit (decided rs xid.0) && (is_going rs xid.0 && is_some (unended_branch rs xid.0 b.0))) xid b st stmt
  message_names from (message.BranchRollbacked xid b st stmt) =
      branch_names (is_rollback (decided rs xid.0) && (is_going rs xid.0 && is_some (unended_branch rs xid.0 b.0))) xid b st stmt
  message_names from _ = tt

  answer_names : (times : Times) (past : List SessionRecord) (os : List Own) (given : Input) → Names (coordinator_answer times past os rs now given)
  answer_names times past os input.Turn = turn_names times past os (late_one times past os rs now) (due_one times past os rs now) refl (old_one times past os rs now)
  answer_names times past os (input.Message from msg) = message_names from msg
  answer_names times past os (input.Local k) = tt
  answer_names times past os (input.Outside k) = tt

-- ---- branches, with their manager and call

-- of a transaction that wasn't forgotten before
pub record IsBranch (past rs : List SessionRecord) (x b manager call : ℕ) : Type 0 where
  pub branch : Grant
  pub granted : In branch (grants rs)
  pub of_xid : branch.xid ≡ x
  pub number : branch.branch ≡ b
  pub of_call : branch.call ≡ call
  pub known : is_forgotten past x ≡ false
  pub began : Session
  pub there : In began (sessions rs)
  pub xid : began.xid ≡ x
  pub of_manager : began.manager ≡ manager

abbrev pub TellsBranch : (past rs : List SessionRecord) → Message → Type 0
TellsBranch past rs (message.BranchCommit xid b k m c) = IsBranch past rs xid.0 b.0 m c
TellsBranch past rs (message.BranchRollback xid b k m c) = IsBranch past rs xid.0 b.0 m c
TellsBranch past rs _ = Unit {0}

abbrev pub TellBranches : (past rs : List SessionRecord) → Place → Outgoing → Type 0
TellBranches past rs from out = TellsBranch past rs out.message

-- they stay with one more record
branch_on : (past rs : List SessionRecord) (r : SessionRecord) (x b m c : ℕ) → IsBranch past rs x b m c → IsBranch past (r ∷ rs) x b m c
branch_on past rs r x b m c is = record {
  branch = is.branch;
  granted = grant_stays r rs is.branch is.granted;
  of_xid = is.of_xid;
  number = is.number;
  of_call = is.of_call;
  known = is.known;
  began = is.began;
  there = session_stays r rs is.began is.there;
  xid = is.xid;
  of_manager = is.of_manager;
}

tells_on : (past rs : List SessionRecord) (r : SessionRecord) (from : Place) (out : Outgoing) → TellBranches past rs from out → TellBranches past (r ∷ rs) from out
tells_on past rs r from out says = by out.message says
  where
    by : (msg : Message) → TellsBranch past rs msg → TellsBranch past (r ∷ rs) msg
    by (message.BranchCommit xid b k m c) is = branch_on past rs r xid.0 b.0 m c is
    by (message.BranchRollback xid b k m c) is = branch_on past rs r xid.0 b.0 m c is
    by _ is = tt

-- where they are kept, they are found by their numbers
pub manager_found : (past rs : List SessionRecord) (managers : Numbers) (x b m c : ℕ) → FindManagers past rs managers → IsBranch past rs x b m c → number_at managers x ≡ m
manager_found past rs managers x b m c find is =
    ap (number_at managers) (sym is.xid) ∙ find is.began is.there (ap (is_forgotten past) is.xid ∙ is.known) ∙ is.of_manager

pub call_found : (past rs : List SessionRecord) (calls : Numbers) (x b m c : ℕ) → FindCalls past rs calls → IsBranch past rs x b m c → number_at calls b ≡ c
call_found past rs calls x b m c find is =
    ap (number_at calls) (sym is.number) ∙ find is.branch is.granted (ap (is_forgotten past) is.of_xid ∙ is.known) ∙ is.of_call

-- ---- what each node tells

-- a question names a branch that was granted, and the manager of its transaction
branch_told : (past rs : List SessionRecord) (x b m c : ℕ) → Allowed rs → StayForgotten past rs → (g : Grant) → In g (grants rs) → g.xid ≡ x → g.branch ≡ b → g.call ≡ c
    → (m ≡ manager_of (session rs x)) × (is_forgotten rs x ≡ false) → IsBranch past rs x b m c
branch_told past rs x b m c a stay g there xid number call named =
    by (session rs x) refl (subst (λ n. is_some (session rs n) ≡ true) xid (grant_begun rs a g there))
  where
    by : (o : Option Session) → session rs x ≡ o → is_some o ≡ true → IsBranch past rs x b m c
    by None found e = false_true e
    by (Some s) found e =
        let k = found_in (has_xid x) (sessions rs) s found in
        record {
          branch = g;
          granted = there;
          of_xid = xid;
          number = number;
          of_call = call;
          known = known_before past rs x stay named.1;
          began = s;
          there = k.0;
          xid = same_nat s.xid x k.1;
          of_manager = sym (named.0 ∙ ap manager_of found);
        }

module _ (past rs : List SessionRecord) (event : Event) (to : Place) where
  branches_told : (msg : Message) → Allowed rs → StayForgotten past rs → Tells rs event to msg → NamesManager rs msg → TellsBranch past rs msg
  branches_told (message.BranchCommit xid b k m c) a stay said named =
      branch_told past rs xid.0 b.0 m c a stay said.0.branch said.0.granted said.0.xid said.0.number said.0.call named
  branches_told (message.BranchRollback xid b k m c) a stay said named =
      branch_told past rs xid.0 b.0 m c a stay said.0.branch said.0.granted said.0.xid said.0.number said.0.call named
  branches_told _ a stay said named = tt

  no_register : (from : Place) (msg : Message) → Tells rs event to msg → TellsResource from msg
  no_register from (message.Register xid r c t k hold check) said = absurd said
  no_register from _ said = tt

-- said of what a moment sent
pub record SaysAll (past rs : List SessionRecord) (from : Place) (sent : Option Outgoing) : Type 0 where
  pub resources : OnSent TellResources from sent
  pub branches : OnSent (TellBranches past rs) from sent

by_coordinator : (past rs : List SessionRecord) (event : Event) (from : Place) (sent : Option Outgoing) → Allowed rs → StayForgotten past rs → TellsOf rs event sent → SentNames rs sent → SaysAll past rs from sent
by_coordinator past rs event from None a stay said named = record { resources = tt; branches = tt }
by_coordinator past rs event from (Some out) a stay said named =
    record { resources = no_register past rs event out.to from out.message said; branches = branches_told past rs event out.to out.message a stay said named }

module _ (s : Setup) (mem : Memory) (event : Event) (done : Act) (k : ℕ) (named : s.number ≡ k) where
  resource_told : (msg : Message) → MessageFits s mem event done msg → TellsResource (place.Res k) msg
  resource_told (message.Register xid r c t kind hold check) fits = ap place.Res (sym (fits.number ∙ named))
  resource_told _ fits = tt

  no_question : (past rs : List SessionRecord) (msg : Message) → MessageFits s mem event done msg → TellsBranch past rs msg
  no_question past rs (message.BranchCommit xid b kind m c) fits = absurd fits
  no_question past rs (message.BranchRollback xid b kind m c) fits = absurd fits
  no_question past rs _ fits = tt

  by_resource : (past rs : List SessionRecord) (sent : Option Outgoing) → SentFits s mem event done sent → SaysAll past rs (place.Res k) sent
  by_resource past rs None fits = record { resources = tt; branches = tt }
  by_resource past rs (Some out) fits = record { resources = resource_told out.message fits; branches = no_question past rs out.message fits }

manager_told : (from : Place) (msg : Message) → IsManagers msg → TellsResource from msg
manager_told from (message.Register xid r c t k hold check) is = absurd is
manager_told from _ is = tt

manager_asks : (past rs : List SessionRecord) (msg : Message) → IsManagers msg → TellsBranch past rs msg
manager_asks past rs (message.BranchCommit xid b k m c) is = absurd is
manager_asks past rs (message.BranchRollback xid b k m c) is = absurd is
manager_asks past rs _ is = tt

by_manager : (past rs : List SessionRecord) (from : Place) (sent : Option Outgoing) → SendsManagers sent → SaysAll past rs from sent
by_manager past rs from None is = record { resources = tt; branches = tt }
by_manager past rs from (Some out) is = record { resources = manager_told from out.message is; branches = manager_asks past rs out.message is }

by_nobody : (past rs : List SessionRecord) (from : Place) (sent : Option Outgoing) → sent ≡ None → SaysAll past rs from sent
by_nobody past rs from sent none = subst (SaysAll past rs from) (sym none) (record { resources = tt; branches = tt })

-- ---- all messages of a legal history

pub record HeardBy (past rs : List SessionRecord) (ms : List Moment) : Type 0 where
  pub resources : EachSent TellResources ms
  pub branches : EachSent (TellBranches past rs) ms
  pub stay : StayForgotten past rs

-- what holds of the records, and goes on with one more
abbrev Heard : (past : List SessionRecord) (ms : List Moment) → List SessionRecord → Type 0
Heard past ms rs = EachSent (TellBranches past rs) ms × StayForgotten past rs

more_heard : (past : List SessionRecord) (ms : List Moment) (r : SessionRecord) (rs : List SessionRecord) → Heard past ms rs → Heard past ms (r ∷ rs)
more_heard past ms r rs heard = (
  each_grows (TellBranches past rs) (TellBranches past (r ∷ rs)) (λ p o says. tells_on past rs r p o says) ms heard.0,
  λ x e. forgotten_on r rs x (heard.1 x e),
)

in_flight_too : (past : List SessionRecord) (ms : List Moment) (left : Left SessionRecord) → Heard past ms left.records → (o : Option SessionRecord) → Heard past ms (added o left.records)
in_flight_too past ms left heard None = heard
in_flight_too past ms left heard (Some r) = more_heard past ms r left.records heard

any_record : (o : Option SessionRecord) → OnRecord (λ r. Unit {0}) o
any_record None = tt
any_record (Some r) = tt

any_act : (rs : List SessionRecord) (now : ℕ) (e : Event) (done : Act) → MayAct rs now e done → OnAct (λ r. Unit {0}) now e done
any_act rs now e (act.Durable d) may = any_record (session_record now e d)
any_act rs now e (act.Down kept at) may = absurd may
any_act rs now e (act.Restarted kept) may = absurd may
any_act rs now e _ may = tt

module _ (w : World) (past : Past) (numbered : AreNumbered w) (ms : List Moment) (m : Moment) (legal : Legal w past (m ∷ ms))
    (before : HeardBy past.sessions (coordinator_left past ms).records ms) where
  abbrev tc_by : Place → Option Event → List SessionRecord
  tc_by p event = (sessions_left past.sessions (own_if (same_place place.Tc p) event m (own place.Tc ms))).records

  -- where nothing more stands at the coordinator
  same_records : (p : Place) → SaysAll past.sessions (coordinator_left past ms).records p m.step.sent → p ≡ m.place → HeardBy past.sessions (coordinator_left past ms).records (m ∷ ms)
  same_records p says at = record {
    resources = (before.resources, subst (λ (q : Place). OnSent TellResources q m.step.sent) at says.resources);
    branches = (before.branches, subst (λ (q : Place). OnSent (TellBranches past.sessions (coordinator_left past ms).records) q m.step.sent) at says.branches);
    stay = before.stay;
  }

  at_tc : (event : Event) → place.Tc ≡ m.place → Allowed (tc_by place.Tc (Some event)) → Happens (Coordinator w.times past.sessions) (own place.Tc ms) m.now event m.step
      → HeardBy past.sessions (tc_by place.Tc (Some event)) (m ∷ ms)
  at_tc event at a h =
      let os = own place.Tc ms in
      let left = coordinator_left past ms in
      let rs = left.records in
      let v = coordinator_moves event m.now (λ r. Unit {0}) (λ after sent. TellsOf after event sent × SentNames after sent) (λ after. (tt, tt)) w.times past.sessions os m.step
      (λ given is.
      let step = coordinator_answer w.times past.sessions os rs m.now given in (
        any_act rs m.now event step.act (subst (λ e. MayAct rs m.now e step.act) (sym is) (coordinator_may w.times past.sessions os rs m.now given).0),
        (
          subst (λ e. TellsOf (added (option_and_then (session_record m.now e) (asked_act step.act)) rs) e step.sent) (sym is) (coordinator_says w.times past.sessions os rs m.now given).1,
          answer_names rs m.now event w.times past.sessions os given,
        ),
      )) h in
      let told : Heard past.sessions ms rs = (before.branches, before.stay) in
      let grown = v.0 (Heard past.sessions ms) (λ r c q. more_heard past.sessions ms r rs q) (told, in_flight_too past.sessions ms left told left.flight) in
      let says = by_coordinator past.sessions (tc_by place.Tc (Some event)) event place.Tc m.step.sent a grown.0.1 v.1.0 v.1.1 in
      record {
        resources = (before.resources, subst (λ (q : Place). OnSent TellResources q m.step.sent) at says.resources);
        branches = (grown.0.0, subst (λ (q : Place). OnSent (TellBranches past.sessions (tc_by place.Tc (Some event))) q m.step.sent) at says.branches);
        stay = grown.0.1;
      }

  at_resource : (k : ℕ) (event : Event) → place.Res k ≡ m.place → (o : Option Setup) → counted_at w.resources k ≡ o
      → HappensAt (option_map (λ s. Resource s (past.resource k)) o) (own (place.Res k) ms) m.now event m.step → HeardBy past.sessions (coordinator_left past ms).records (m ∷ ms)
  at_resource k event at None known d = absurd d
  at_resource k event at (Some s) known d =
      let moves = resource_moves s (past.resource k) (own (place.Res k) ms) event m.now m.step (have_tickets w past ms legal.0 k s known) d in
      same_records (place.Res k) (by moves.fits) at
    where
      by : Fits s (memory_of past ms k s) event m.step ⊎ (m.step.sent ≡ None) → SaysAll past.sessions (coordinator_left past ms).records (place.Res k) m.step.sent
      by (inl fits) = by_resource s (memory_of past ms k s) event m.step.act k (numbered k s known) past.sessions (coordinator_left past ms).records m.step.sent fits.1
      by (inr none) = by_nobody past.sessions (coordinator_left past ms).records (place.Res k) m.step.sent none

  at_manager : (k : ℕ) (event : Event) → place.Man k ≡ m.place → (o : Option Settings) → counted_at w.managers k ≡ o
      → HappensAt (option_map (λ s. Manager s) o) (own (place.Man k) ms) m.now event m.step → HeardBy past.sessions (coordinator_left past ms).records (m ∷ ms)
  at_manager k event at None known d = absurd d
  at_manager k event at (Some settings) known d =
      let role : role_at w past (place.Man k) ≡ Some (Manager settings) = ap (option_map (λ s. Manager s)) known in
      same_records (place.Man k)
      (by_manager past.sessions (coordinator_left past ms).records (place.Man k) m.step.sent
      (manager_says settings (own (place.Man k) ms) (ran w past (place.Man k) (Manager settings) role ms legal.0) event m.now m.step d)) at

  quiet : (p : Place) → p ≡ m.place → m.step ≡ still act.Nothing → HeardBy past.sessions (coordinator_left past ms).records (m ∷ ms)
  quiet p at is = same_records p (by_nobody past.sessions (coordinator_left past ms).records p m.step.sent (ap (λ (step : Step). step.sent) is)) at

  at_place : (p : Place) (event : Option Event) → p ≡ m.place → event ≡ m.event → Allowed (tc_by p event) → IsDone w past ms m event → HeardBy past.sessions (tc_by p event) (m ∷ ms)
  at_place place.Tc (Some event) at same a done = at_tc event at a (subst (λ p. HappensAt (role_at w past p) (own p ms) m.now event m.step) (sym at) done)
  at_place place.Tc None at same a done = quiet place.Tc at done.1
  at_place (place.Res k) (Some event) at same a done =
      at_resource k event at (counted_at w.resources k) refl (subst (λ p. HappensAt (role_at w past p) (own p ms) m.now event m.step) (sym at) done)
  at_place (place.Res k) None at same a done = quiet (place.Res k) at done.1
  at_place (place.Man k) (Some event) at same a done =
      at_manager k event at (counted_at w.managers k) refl (subst (λ p. HappensAt (role_at w past p) (own p ms) m.now event m.step) (sym at) done)
  at_place (place.Man k) None at same a done = quiet (place.Man k) at done.1
  at_place place.Net (Some event) at same a done = absurd (subst (λ p. HappensAt (role_at w past p) (own p ms) m.now event m.step) (sym at) done)
  at_place place.Net None at same a done = quiet place.Net at done.1

  next_heard : Allowed (coordinator_left past (m ∷ ms)).records → HeardBy past.sessions (coordinator_left past (m ∷ ms)).records (m ∷ ms)
  next_heard a = at_place m.place m.event refl refl a legal.1.done

pub heard : (w : World) (past : Past) → AreNumbered w → Allowed past.sessions → (ms : List Moment) → Legal w past ms → HeardBy past.sessions (coordinator_left past ms).records ms
heard w past numbered allowed [] legal = record { resources = tt; branches = tt; stay = λ x e. e }
heard w past numbered allowed (m ∷ ms) legal =
    next_heard w past numbered ms m legal (heard w past numbered allowed ms legal.0) (both_allowed w past (m ∷ ms) allowed legal).stand
