-- The work of a call stands once at its resource.
use Rattle.std.proofs.Common.{◌≡◌, ◌⊎◌, inl, inr, ◌+◌, ◌≤◌, ◌==◌, ◌&&◌, ℕ, Bool, true, false, if◌then◌else◌, List, [], ◌∷◌, filter, Option, Some, None, is_some, refl, ap, sym, subst, ◌∙◌, arith}
use Rattle.seata_types.specs.declared.ids.BranchId.{BranchId}
use Rattle.seata_types.specs.declared.ids.Ticket.{Ticket}
use Rattle.seata_types.specs.declared.ids.Xid.{Xid}
use Rattle.seata_types.specs.declared.messages.Message.TheVariants as message
use Rattle.seata_types.specs.declared.rows.Image.{Image}
use Rattle.seata_types.specs.declared.rows.ReadRow.{ReadRow}
use Rattle.seata_types.specs.declared.statements.Work.{Work}
use Rattle.seata_types.specs.declared.statements.Work.TheVariants as work
use Rattle.seata_types.specs.declared.statuses.BranchKind.{BranchKind}
use Rattle.seata_types.specs.declared.statuses.BranchKind.TheVariants as kind
use Rattle.seata_types.specs.declared.statuses.Decision.{Decision}
use Rattle.durable_records.specs.declared.coordinators.SessionRecord.{SessionRecord}
use Rattle.durable_records.specs.declared.coordinators.SessionRecord.TheVariants as log
use Rattle.durable_records.specs.declared.resources.ResourceRecord.{ResourceRecord}
use Rattle.durable_records.specs.declared.resources.ResourceRecord.TheVariants as resource_log
use Rattle.durable_records.specs.Transactions.{decided, is_commit, is_rollback}
use Rattle.durable_records.specs.Branches.{Grant, grants}
use Rattle.durable_records.specs.Fences.{Fence, Runs, fence, on_try}
use Rattle.durable_records.specs.Progress.{may_decide}
use Rattle.durable_records.specs.SessionOrder.{Allowed}
use Rattle.durable_records.specs.UndoRecords.{Undo, undos, is_leg, is_other_leg}
use Rattle.history_rules.specs.Own.{Left, added}
use Rattle.history_rules.specs.CoordinatorRules.{xid_of, branch_of}
use Rattle.history_rules.specs.ResourceMemory.{Setup, Owner, OfCall, OfLocal, Open, Memory, call_of, boot_over}
use Rattle.history_rules.specs.ResourceRules.{is_for_call}
use Rattle.history_rules.specs.Nodes.{World, Past, counted_at}
use Rattle.history_rules.specs.Histories.{Moment, coordinator_left}
use Rattle.history_law.specs.Points.{In}
use Rattle.history_law.specs.Tickets.{IsAtOf, Asks, Names}
use Rattle.history_law.specs.Cover.{all_of, memory_of, Says, Covers}
use Rattle.history_law.specs.EndingSafety.{how_many}
use Rattle.history_law.specs.CallSafety.{IsCallOf}
use Rattle.history_law.specs.OnceSafety.{is_work}
use Rattle.history_law.proofs.Tests.{false_true, true_false, and_left, and_right, and_both, false_not, same_nat, nat_same, in_filter}
use Rattle.history_law.proofs.Transactions.{decide_none}
use Rattle.history_law.proofs.Branches.{in_all, stays_decided, decided_in_all}
use Rattle.history_law.proofs.BranchOrder.{new_branch}
use Rattle.history_law.proofs.CoordinatorCauses.{IsRegistered, tcc_not_at}
use Rattle.history_law.proofs.CoverCoordinator.{MayCaused}
use Rattle.history_law.proofs.CoverResource.{in_added, granted_of}
use Rattle.history_law.proofs.FenceRecords.{none_passes}
use Rattle.history_law.proofs.CallBranches.{one_tcc, same_call, tried_fence}
use Rattle.history_law.proofs.Calls.{TriedOf, WorkIs, CallsBy}
use Rattle.history_law.proofs.CallResources.{work_of}
use Rattle.history_law.proofs.ResourceFits.{IsNew}
use Rattle.history_law.proofs.ResourceSteps.{CommitFits, RecordFits, NewOpen, OpenFrom}
use Rattle.history_law.proofs.TicketSteps.{memory_by, next_not_given}
use Rattle.history_law.proofs.UndoRecords.{leg_parts}
use Rattle.history_law.proofs.Steps.{TcStep, ResStep}

-- ---- records of work

-- no two of these records are the work of one call
abbrev pub AreOnce : List ResourceRecord → Type 0
AreOnce [] = Unit {0}
AreOnce (r ∷ rs) = AreOnce rs × ((x c : ℕ) → is_work x c r ≡ true → (q : ResourceRecord) → In q rs → is_work x c q ≡ false)

count_by : (test : ResourceRecord → Bool) (r : ResourceRecord) (rs : List ResourceRecord) (b : Bool) → (b ≡ true → how_many test rs ≡ 0) → how_many test rs ≤ 1 → (if b then how_many test rs + 1 else how_many test rs) ≤ 1
count_by test r rs true none most = let n = none refl in omega arith
count_by test r rs false none most = most

pub at_most_once : (rs : List ResourceRecord) → AreOnce rs → (x c : ℕ) → how_many (is_work x c) rs ≤ 1
at_most_once [] a x c = omega arith
at_most_once (r ∷ rs) a x c = count_by (is_work x c) r rs (is_work x c r) (λ e. none_passes (is_work x c) rs (λ q i. a.1 x c e q i)) (at_most_once rs a.0 x c)

one_by : (test : ResourceRecord → Bool) (rs : List ResourceRecord) (b : Bool) → (b ≡ true → how_many test rs ≡ 0) → (b ≡ false → how_many test rs ≡ 1) → (if b then how_many test rs + 1 else how_many test rs) ≡ 1
one_by test rs true none one = let n = none refl in omega arith
one_by test rs false none one = one refl

pub just_once : (rs : List ResourceRecord) → AreOnce rs → (x c : ℕ) (q : ResourceRecord) → In q rs → is_work x c q ≡ true → how_many (is_work x c) rs ≡ 1
just_once [] a x c q i e = absurd i
just_once (r ∷ rs) a x c q (inl is) e =
    one_by (is_work x c) rs (is_work x c r) (λ t. none_passes (is_work x c) rs (λ p j. a.1 x c t p j)) (λ f. true_false (sym e ∙ ap (is_work x c) is ∙ f))
just_once (r ∷ rs) a x c q (inr i) e =
    one_by (is_work x c) rs (is_work x c r) (λ t. none_passes (is_work x c) rs (λ p j. a.1 x c t p j)) (λ f. just_once rs a.0 x c q i e)

-- what became of a local commit: its undo record stands, it was undone, or it was cleared
data CommitState (rs : List ResourceRecord) (x b c : ℕ) : Type 0 where
  Stands : (u : Undo) → In u (undos rs) → u.xid ≡ x → u.branch ≡ b → u.call ≡ c → CommitState rs x b c
  WasUndone : In (resource_log.Undone (xid_of x) (branch_of b)) rs → CommitState rs x b c
  WasCleared : In (resource_log.Cleared (xid_of x) (branch_of b)) rs → CommitState rs x b c

state_below : (r : ResourceRecord) (rs : List ResourceRecord) (x b c : ℕ) → ((u : Undo) → In u (undos rs) → In u (undos (r ∷ rs))) → CommitState rs x b c → CommitState (r ∷ rs) x b c
state_below r rs x b c sub (Stands u i ex eb ec) = Stands u (sub u i) ex eb ec
state_below r rs x b c sub (WasUndone i) = WasUndone (inr i)
state_below r rs x b c sub (WasCleared i) = WasCleared (inr i)

struck_leg : (xid : Xid) (branch : BranchId) (u : Undo) (us : List Undo) → In u us → ((u.xid ≡ xid.0) × (u.branch ≡ branch.0)) ⊎ In u (filter (is_other_leg xid.0 branch.0) us)
struck_leg xid branch u us i = by (is_leg xid.0 branch.0 u) refl
  where
    by : (t : Bool) → is_leg xid.0 branch.0 u ≡ t → ((u.xid ≡ xid.0) × (u.branch ≡ branch.0)) ⊎ In u (filter (is_other_leg xid.0 branch.0) us)
    by true t = inl (leg_parts xid.0 branch.0 u t)
    by false t = inr (in_filter (is_other_leg xid.0 branch.0) us u i (false_not (is_leg xid.0 branch.0 u) t))

undone_state : (xid : Xid) (branch : BranchId) (rs : List ResourceRecord) (x b c : ℕ) → CommitState rs x b c → CommitState (resource_log.Undone xid branch ∷ rs) x b c
undone_state xid branch rs x b c (WasUndone i) = WasUndone (inr i)
undone_state xid branch rs x b c (WasCleared i) = WasCleared (inr i)
undone_state xid branch rs x b c (Stands u i ex eb ec) = by (struck_leg xid branch u (undos rs) i)
  where
    by : ((u.xid ≡ xid.0) × (u.branch ≡ branch.0)) ⊎ In u (filter (is_other_leg xid.0 branch.0) (undos rs)) → CommitState (resource_log.Undone xid branch ∷ rs) x b c
    by (inr j) = Stands u j ex eb ec
    by (inl k) =
        let sx : x ≡ xid.0 = sym ex ∙ k.0 in
        let sb : b ≡ branch.0 = sym eb ∙ k.1 in
        WasUndone (inl (λ i. resource_log.Undone (xid_of (sx i)) (branch_of (sb i))))

cleared_state : (xid : Xid) (branch : BranchId) (rs : List ResourceRecord) (x b c : ℕ) → CommitState rs x b c → CommitState (resource_log.Cleared xid branch ∷ rs) x b c
cleared_state xid branch rs x b c (WasUndone i) = WasUndone (inr i)
cleared_state xid branch rs x b c (WasCleared i) = WasCleared (inr i)
cleared_state xid branch rs x b c (Stands u i ex eb ec) = by (struck_leg xid branch u (undos rs) i)
  where
    by : ((u.xid ≡ xid.0) × (u.branch ≡ branch.0)) ⊎ In u (filter (is_other_leg xid.0 branch.0) (undos rs)) → CommitState (resource_log.Cleared xid branch ∷ rs) x b c
    by (inr j) = Stands u j ex eb ec
    by (inl k) =
        let sx : x ≡ xid.0 = sym ex ∙ k.0 in
        let sb : b ≡ branch.0 = sym eb ∙ k.1 in
        WasCleared (inl (λ i. resource_log.Cleared (xid_of (sx i)) (branch_of (sb i))))

next_state : (r : ResourceRecord) (rs : List ResourceRecord) (x b c : ℕ) → CommitState rs x b c → CommitState (r ∷ rs) x b c
next_state (resource_log.Committed xid branch call images reads) rs x b c k = state_below (resource_log.Committed xid branch call images reads) rs x b c (λ u i. inr i) k
next_state (resource_log.Undone xid branch) rs x b c k = undone_state xid branch rs x b c k
next_state (resource_log.Cleared xid branch) rs x b c k = cleared_state xid branch rs x b c k
next_state (resource_log.Boot n) rs x b c k = state_below (resource_log.Boot n) rs x b c (λ u i. i) k
next_state (resource_log.Marked xid branch) rs x b c k = state_below (resource_log.Marked xid branch) rs x b c (λ u i. i) k
next_state (resource_log.Tried xid branch call images) rs x b c k = state_below (resource_log.Tried xid branch call images) rs x b c (λ u i. i) k
next_state (resource_log.Confirmed xid branch images) rs x b c k = state_below (resource_log.Confirmed xid branch images) rs x b c (λ u i. i) k
next_state (resource_log.Cancelled xid branch images) rs x b c k = state_below (resource_log.Cancelled xid branch images) rs x b c (λ u i. i) k
next_state (resource_log.Suspended xid branch) rs x b c k = state_below (resource_log.Suspended xid branch) rs x b c (λ u i. i) k
next_state (resource_log.LocalCommitted n images) rs x b c k = state_below (resource_log.LocalCommitted n images) rs x b c (λ u i. i) k
next_state (resource_log.Outside n images) rs x b c k = state_below (resource_log.Outside n images) rs x b c (λ u i. i) k

commit_state : (rs : List ResourceRecord) (xid : Xid) (branch : BranchId) (call : ℕ) (images : List Image) (reads : List ReadRow) → In (resource_log.Committed xid branch call images reads) rs → CommitState rs xid.0 branch.0 call
commit_state [] xid branch call images reads i = absurd i
commit_state (r ∷ rs) xid branch call images reads (inl is) =
    subst (λ z. CommitState (z ∷ rs) xid.0 branch.0 call) is (Stands (record { xid = xid.0; branch = branch.0; call = call; images = images; reads = reads }) (inl refl) refl refl refl)
commit_state (r ∷ rs) xid branch call images reads (inr i) = next_state r rs xid.0 branch.0 call (commit_state rs xid branch call images reads i)

pub boot_once : (z : List ResourceRecord) → AreOnce z → AreOnce (boot_over z ∷ z)
boot_once z a = (a, λ x d t p j. false_true t)

-- ---- tickets of AT calls

-- an AT ticket of call c of x
abbrev pub IsOfAtCall : (x c : ℕ) → Owner → Type 0
IsOfAtCall x c (OfCall manager y d (work.At stmts)) = (y ≡ x) × (d ≡ c)
IsOfAtCall x c (OfCall manager y d (work.Tcc action)) = ⊥
IsOfAtCall x c (OfLocal k) = ⊥

at_call : (x : ℕ) (owner : Owner) → IsAtOf x owner → IsOfAtCall x (call_of owner) owner
at_call x (OfCall manager y d (work.At stmts)) at = (at, refl)
at_call x (OfCall manager y d (work.Tcc action)) at = absurd at
at_call x (OfLocal k) at = absurd at

of_xid : (x c manager y d : ℕ) (wk : Work) (owner : Owner) → owner ≡ OfCall manager y d wk → IsOfAtCall x c owner → y ≡ x
of_xid x c manager y d wk owner is of = by wk (subst (IsOfAtCall x c) is of)
  where
    by : (wk : Work) → IsOfAtCall x c (OfCall manager y d wk) → y ≡ x
    by (work.At stmts) k = k.0
    by (work.Tcc action) k = absurd k

for_call : (x c : ℕ) (owner : Owner) → IsOfAtCall x c owner → is_for_call x c owner ≡ true
for_call x c (OfCall manager y d (work.At stmts)) k = and_both (y == x) (d == c) (nat_same y x k.0) (nat_same d c k.1)
for_call x c (OfCall manager y d (work.Tcc action)) k = absurd k
for_call x c (OfLocal n) k = absurd k

fresh_undo : (m : Memory) (x c : ℕ) (owner : Owner) → IsNew m owner → IsOfAtCall x c owner → (u : Undo) → In u (undos m.left.records) → u.xid ≡ x → u.call ≡ c → ⊥
fresh_undo m x c (OfCall manager y d (work.At stmts)) new k u i ex ec = new.0 u i (ex ∙ sym k.0) (ec ∙ sym k.1)
fresh_undo m x c (OfCall manager y d (work.Tcc action)) new k u i ex ec = absurd k
fresh_undo m x c (OfLocal n) new k u i ex ec = absurd k

fresh_open : (m : Memory) (x c : ℕ) (owner : Owner) → IsNew m owner → IsOfAtCall x c owner → (p : Open) → In p m.opens → IsOfAtCall x c p.owner → ⊥
fresh_open m x c (OfCall manager y d (work.At stmts)) new k p i of =
    true_false (sym (for_call x c p.owner of) ∙ subst (λ z. is_for_call z c p.owner ≡ false) k.0 (subst (λ z. is_for_call y z p.owner ≡ false) k.1 (new.1 p i)))
fresh_open m x c (OfCall manager y d (work.Tcc action)) new k p i of = absurd k
fresh_open m x c (OfLocal n) new k p i of = absurd k

-- ---- what is kept

-- x is decided, and no branch was granted for the ticket at resource n
pub record IsLate (tc : Left SessionRecord) (n x : ℕ) (t : Ticket) : Type 0 where
  pub is_decided : is_some (decided tc.records x) ≡ true
  pub ungranted : (g : Grant) → In g (grants (all_of tc)) → g.kind ≡ kind.At → g.resource ≡ n → g.ticket ≡ t → ⊥

-- an open ticket of a call that has committed already is late
abbrev pub AreLate : Left SessionRecord → ℕ → Open → List ResourceRecord → Type 0
AreLate tc n o rs = (x c : ℕ) → IsOfAtCall x c o.owner → (xid : Xid) (b : BranchId) (images : List Image) (reads : List ReadRow) → In (resource_log.Committed xid b c images reads) rs → xid.0 ≡ x → IsLate tc n x o.ticket

-- of resource n: the work of a call stands once; an open ticket of a call that has committed is late; a call has one AT ticket open
pub record OnceAt (tc : Left SessionRecord) (n : ℕ) (m : Memory) : Type 0 where
  pub once : AreOnce m.left.records × AreOnce (all_of m.left)
  pub late : (o : Open) → In o m.opens → AreLate tc n o m.left.records × AreLate tc n o (all_of m.left)
  pub alone : (o p : Open) → In o m.opens → In p m.opens → (x c : ℕ) → IsOfAtCall x c o.owner → IsOfAtCall x c p.owner → o.ticket ≡ p.ticket

-- ---- at the coordinator

module _ (w : World) (past : Past) (ms : List Moment) (m : Moment) (c : Covers w past ms) (t : TcStep w past ms m) (n : ℕ) (s : Setup) (is : counted_at w.resources n ≡ Some s) where
  abbrev tc : Left SessionRecord
  tc = coordinator_left past ms

  abbrev me : Memory
  me = memory_of past ms n s

  module _ (o : Open) (io : In o me.opens) (x d : ℕ) (of : IsOfAtCall x d o.owner) (l : IsLate tc n x o.ticket) where
    abbrev NoneGranted : List SessionRecord → Type 0
    NoneGranted rs = (g : Grant) → In g (grants rs) → g.kind ≡ kind.At → g.resource ≡ n → g.ticket ≡ o.ticket → ⊥

    new_not : (g : Grant) → IsRegistered tc.records t.event g → may_decide tc.records g.xid ≡ true → g.resource ≡ n → g.kind ≡ kind.At → g.ticket ≡ o.ticket → ⊥
    new_not g r may here at e =
        let said = t.heard (λ p out. Says w (coordinator_left past ms) (memory_of past ms) p out) c.said r.from (message.Register r.xid g.resource g.call g.ticket g.kind g.hold r.check) r.is in
        let names : Names me g.ticket (Asks r.xid.0 g.call g.kind g.hold r.check) =
        subst (λ q. Names (memory_of past ms q s) g.ticket (Asks r.xid.0 g.call g.kind g.hold r.check)) here (said s (ap (counted_at w.resources) here ∙ is)) in
        let a = names.named o io (sym e) in
        let xid : g.xid ≡ x = sym r.same ∙ of_xid x d a.manager r.xid.0 g.call a.work o.owner a.owner of in
        let none : decided tc.records x ≡ None = decide_none tc.records x (subst (λ z. may_decide tc.records z ≡ true) xid may) in
        true_false (sym l.is_decided ∙ ap is_some none)

    grant_step : (r : SessionRecord) → MayCaused tc.records t.event r → NoneGranted tc.records → NoneGranted (r ∷ tc.records)
    grant_step (log.Granted xid b resource call u k hold) f none g (inl same) at here e =
        let may = (new_branch tc.records xid b resource call u k hold f.0).may in
        new_not g (subst (λ q. IsRegistered tc.records t.event q) (sym same) f.1) (subst (λ q. may_decide tc.records q ≡ true) (sym (ap (λ q. q.xid) same)) may) here at e
    grant_step (log.Granted xid b resource call u k hold) f none g (inr j) at here e = none g j at here e
    grant_step (log.Begun xid manager moment timeout) f none g j at here e = none g j at here e
    grant_step (log.Decided xid how) f none g j at here e = none g j at here e
    grant_step (log.Retrying xid) f none g j at here e = none g j at here e
    grant_step (log.Ended xid b) f none g j at here e = none g j at here e
    grant_step (log.Failed xid b stmt) f none g j at here e = none g j at here e
    grant_step (log.Finished xid) f none g j at here e = none g j at here e
    grant_step (log.Forgot xid) f none g j at here e = none g j at here e

    late_tc : IsLate t.after n x o.ticket
    late_tc = record {
      is_decided = (t.keeps (λ z. is_some (decided z x) ≡ true) (λ r f j. stays_decided is_some refl tc.records x r f.0 j) (l.is_decided, decided_in_all is_some refl tc c.allowed.1 x l.is_decided)).0;
      ungranted = (t.keeps NoneGranted grant_step ((λ g j at here e. l.ungranted g (in_all tc g j) at here e), l.ungranted)).1;
    }

  pub once_at_tc : OnceAt (coordinator_left past ms) n (memory_of past ms n s) → OnceAt t.after n (memory_of past ms n s)
  once_at_tc i = record {
    once = i.once;
    late = λ o io. (
      λ x d of xid b images reads j e. late_tc o io x d of ((i.late o io).0 x d of xid b images reads j e),
      λ x d of xid b images reads j e. late_tc o io x d of ((i.late o io).1 x d of xid b images reads j e),
    );
    alone = i.alone;
  }

-- ---- at a resource

rolled_some : (d : Option Decision) → is_rollback d ≡ true → is_some d ≡ true
rolled_some None e = false_true e
rolled_some (Some how) e = refl

committed_some : (d : Option Decision) → is_commit d ≡ true → is_some d ≡ true
committed_some None e = false_true e
committed_some (Some how) e = refl

fence_runs : (f : Option Fence) → is_some f ≡ true → on_try f ≡ Runs → ⊥
fence_runs None some runs = false_true some
fence_runs (Some f) some runs = absurd cc

commit_no_boot : (xid : Xid) (b : BranchId) (c : ℕ) (images : List Image) (reads : List ReadRow) (rs : List ResourceRecord) → resource_log.Committed xid b c images reads ≡ boot_over rs → ⊥
commit_no_boot xid b c images reads rs e = cc

kinds_apart : (w : World) (rs : List SessionRecord) → Allowed rs → (x c n q : ℕ) → IsCallOf w rs x c n kind.At → IsCallOf w rs x c q kind.Tcc → ⊥
kinds_apart w rs a x c n q at tcc = tcc_not_at (sym (same_call w rs a x c n q kind.At kind.Tcc at tcc).1)

module _ (w : World) (past : Past) (ms : List Moment) (m : Moment) (c : Covers w past ms) (calls : CallsBy w (coordinator_left past ms) (memory_of past ms) ms) (r : ResStep w past ms m)
    (i : OnceAt (coordinator_left past ms) r.k (memory_of past ms r.k r.s)) where
  abbrev left : Left SessionRecord
  left = coordinator_left past ms

  abbrev before : Memory
  before = memory_of past ms r.k r.s

  abbrev rs : List ResourceRecord
  rs = (memory_of past ms r.k r.s).left.records

  abbrev ne : Memory
  ne = memory_by r.s (memory_of past ms r.k r.s) r.event m.now m.step

  -- ---- open tickets

  -- a commit of the ticket's call would have ended it
  late_step : (p o : Open) → In p before.opens → In o ne.opens → o.ticket ≡ p.ticket → (q : ResourceRecord) → RecordFits r.s before ne.opens r.event q → AreLate left r.k p rs → AreLate left r.k p (q ∷ rs)
  late_step p o ip io same q f all x d of xid b images reads (inr j) e = all x d of xid b images reads j e
  late_step p o ip io same q f all x d of xid b images reads (inl is) e =
      let g : CommitFits before ne.opens r.event (record { xid = xid.0; branch = b.0; call = d; images = images; reads = reads }) = subst (λ z. RecordFits r.s before ne.opens r.event z) (sym is) f in
      let at : IsOfAtCall xid.0 d g.open_ticket.owner = subst (λ z. IsOfAtCall xid.0 z g.open_ticket.owner) (sym g.call) (at_call xid.0 g.open_ticket.owner g.at) in
      let mine : IsOfAtCall x d g.open_ticket.owner = subst (λ z. IsOfAtCall z d g.open_ticket.owner) e at in
      absurd (g.ends o io (same ∙ i.alone p g.open_ticket ip g.there x d of mine))

  late_boot : (p : Open) (z : List ResourceRecord) → AreLate left r.k p z → AreLate left r.k p (boot_over z ∷ z)
  late_boot p z all x d of xid b images reads (inl is) e = absurd (commit_no_boot xid b d images reads z is)
  late_boot p z all x d of xid b images reads (inr j) e = all x d of xid b images reads j e

  old_late : (o : Open) → In o ne.opens → (p : Open) (k : ℕ) → In p before.opens → o ≡ record p { conflicts = k } → AreLate left r.k o ne.left.records × AreLate left r.k o (all_of ne.left)
  old_late o io p k ip eq =
      let all = r.moves.keeps (AreLate left r.k p) (λ z h. late_boot p z h) (λ q f h. late_step p o ip io (ap (λ z. z.ticket) eq) q f h) (i.late p ip) in
      subst (λ z. AreLate left r.k z ne.left.records × AreLate left r.k z (all_of ne.left)) (sym eq) all

  -- a new ticket: its call's commit was undone or cleared, so its transaction is decided
  gone_decided : (x b d : ℕ) → CommitState rs x b d → ((u : Undo) → In u (undos rs) → u.xid ≡ x → u.call ≡ d → ⊥) → is_some (decided left.records x) ≡ true
  gone_decided x b d (Stands u j ex eb ec) none = absurd (none u j ex ec)
  gone_decided x b d (WasUndone j) none = rolled_some (decided left.records x) ((calls.ends.at r.k r.s r.known).rolled.0 (xid_of x) (branch_of b) j)
  gone_decided x b d (WasCleared j) none = committed_some (decided left.records x) ((c.at r.k r.s r.known).cleared x b (in_added before.left.flight rs _ j))

  new_late : (o : Open) → NewOpen r.s before r.event ne o → AreLate left r.k o rs
  new_late o new x d of xid b images reads j e = record {
    is_decided = gone_decided x b.0 d (subst (λ z. CommitState rs z b.0 d) e (commit_state rs xid b d images reads j)) (fresh_undo before x d o.owner new.fresh of);
    ungranted = λ g k at here same. next_not_given before g.ticket ((c.at r.k r.s r.known).asked g k at here).given (same ∙ new.ticket);
  }

  on_both : (o : Open) → NewOpen r.s before r.event ne o → (Q : List ResourceRecord → Type 0) → Q rs → Q ne.left.records × Q (all_of ne.left)
  on_both o new Q q =
      let all : all_of before.left ≡ rs = ap (λ z. added z rs) new.landed in
      subst (λ z. Q z.records × Q (all_of z)) (sym new.left) (q, subst Q (sym all) q)

  late_by : (o : Open) → In o ne.opens → OpenFrom r.s before r.event ne o → AreLate left r.k o ne.left.records × AreLate left r.k o (all_of ne.left)
  late_by o io (inl (p, k, ip, eq)) = old_late o io p k ip eq
  late_by o io (inr new) = on_both o new (AreLate left r.k o) (new_late o new)

  alone_by : (o p : Open) → OpenFrom r.s before r.event ne o → OpenFrom r.s before r.event ne p → (x d : ℕ) → IsOfAtCall x d o.owner → IsOfAtCall x d p.owner → o.ticket ≡ p.ticket
  alone_by o p (inl (a, j, ia, ea)) (inl (b, k, ib, eb)) x d oo op =
      ap (λ z. z.ticket) ea ∙ i.alone a b ia ib x d (subst (λ z. IsOfAtCall x d z.owner) ea oo) (subst (λ z. IsOfAtCall x d z.owner) eb op) ∙ sym (ap (λ z. z.ticket) eb)
  alone_by o p (inl (a, j, ia, ea)) (inr new) x d oo op = absurd (fresh_open before x d p.owner new.fresh op a ia (subst (λ z. IsOfAtCall x d z.owner) ea oo))
  alone_by o p (inr new) (inl (b, k, ib, eb)) x d oo op = absurd (fresh_open before x d o.owner new.fresh oo b ib (subst (λ z. IsOfAtCall x d z.owner) eb op))
  alone_by o p (inr new) (inr next) x d oo op = new.ticket ∙ sym next.ticket

  -- ---- records

  abbrev sessions_here : List SessionRecord
  sessions_here = (coordinator_left past ms).records

  works_here : (q : ResourceRecord) → In q rs → WorkIs w sessions_here r.k q
  works_here q j = (calls.at r.k r.s r.known).works.0 q j

  -- the call of a Try's branch
  tried_call : (x b d : ℕ) → TriedOf sessions_here r.k x b d → IsCallOf w sessions_here x d r.k kind.Tcc
  tried_call x b d f =
      let call = calls.granted.0 f.branch f.granted in
      subst (λ z. IsCallOf w sessions_here z d r.k kind.Tcc) f.xid (subst (λ z. IsCallOf w sessions_here f.branch.xid z r.k kind.Tcc) f.call
      (subst (λ z. IsCallOf w sessions_here f.branch.xid f.branch.call z kind.Tcc) f.resource (subst (λ z. IsCallOf w sessions_here f.branch.xid f.branch.call f.branch.resource z) f.tcc call)))

  moved_call : (x d y e : ℕ) (k : BranchKind) → ((y == x) && (e == d)) ≡ true → IsCallOf w sessions_here y e r.k k → IsCallOf w sessions_here x d r.k k
  moved_call x d y e k t call = subst (λ z. IsCallOf w sessions_here z d r.k k) (same_nat y x (and_left (y == x) (e == d) t)) (subst (λ z. IsCallOf w sessions_here y z r.k k) (same_nat e d (and_right (y == x) (e == d) t)) call)

  -- a local commit of a call that has committed would be of a late ticket
  commit_twice : (u : Undo) (f : CommitFits before ne.opens r.event u) (xid : Xid) (b : BranchId) (images : List Image) (reads : List ReadRow) → In (resource_log.Committed xid b u.call images reads) rs → xid.0 ≡ u.xid → ⊥
  commit_twice u f xid b images reads j e =
      let at : IsOfAtCall u.xid u.call f.open_ticket.owner = subst (λ z. IsOfAtCall u.xid z f.open_ticket.owner) (sym f.call) (at_call u.xid f.open_ticket.owner f.at) in
      let late = (i.late f.open_ticket f.there).0 u.xid u.call at xid b images reads j e in
      let g = granted_of w left (memory_of past ms) ms c r.k r.s r.known r.named r.event (λ from msg is. r.heard (λ p out. Says w (coordinator_left past ms) (memory_of past ms) p out) c.said from msg is) m.now m.step r.moves u f in
      late.ungranted g.grant (in_all left g.grant g.there) g.at g.resource g.ticket

  tried_twice : (x d : ℕ) (a b : BranchId) (xa xb : Xid) (da db : ℕ) → ((xa.0 == x) && (da == d)) ≡ true → ((xb.0 == x) && (db == d)) ≡ true → TriedOf sessions_here r.k xa.0 a.0 da → TriedOf sessions_here r.k xb.0 b.0 db → (xa.0 ≡ xb.0) × (a.0 ≡ b.0)
  tried_twice x d a b xa xb da db ta tb f g =
      let sx : xa.0 ≡ xb.0 = same_nat xa.0 x (and_left (xa.0 == x) (da == d) ta) ∙ sym (same_nat xb.0 x (and_left (xb.0 == x) (db == d) tb)) in
      let sd : da ≡ db = same_nat da d (and_right (xa.0 == x) (da == d) ta) ∙ sym (same_nat db d (and_right (xb.0 == x) (db == d) tb)) in
      let same : f.branch ≡ g.branch = one_tcc sessions_here c.allowed.0 f.branch g.branch f.granted g.granted f.tcc g.tcc (f.xid ∙ sx ∙ sym g.xid) (f.resource ∙ sym g.resource) (f.call ∙ sd ∙ sym g.call) in
      (sx, sym f.number ∙ ap (λ z. z.branch) same ∙ g.number)

  twice : (x d : ℕ) (q p : ResourceRecord) → RecordFits r.s before ne.opens r.event q → In p rs → is_work x d q ≡ true → is_work x d p ≡ true → ⊥
  twice x d (resource_log.Committed xid b call images reads) (resource_log.Committed yid e dall jmages seads) f j tq tp =
      let sd : dall ≡ call = same_nat dall d (and_right (yid.0 == x) (dall == d) tp) ∙ sym (same_nat call d (and_right (xid.0 == x) (call == d) tq)) in
      let sx : yid.0 ≡ xid.0 = same_nat yid.0 x (and_left (yid.0 == x) (dall == d) tp) ∙ sym (same_nat xid.0 x (and_left (xid.0 == x) (call == d) tq)) in
      commit_twice (record { xid = xid.0; branch = b.0; call = call; images = images; reads = reads }) f yid e jmages seads (subst (λ z. In (resource_log.Committed yid e z jmages seads) rs) sd j) sx
  twice x d (resource_log.Committed xid b call images reads) (resource_log.Tried yid e dall jmages) f j tq tp =
      let mine = moved_call x d xid.0 call kind.At tq (work_of w past ms m c calls r (resource_log.Committed xid b call images reads) f) in
      let theirs = moved_call x d yid.0 dall kind.Tcc tp (tried_call yid.0 e.0 dall (works_here (resource_log.Tried yid e dall jmages) j)) in
      kinds_apart w sessions_here c.allowed.0 x d r.k r.k mine theirs
  twice x d (resource_log.Tried xid b call images) (resource_log.Committed yid e dall jmages seads) f j tq tp =
      let mine = moved_call x d xid.0 call kind.Tcc tq (tried_call xid.0 b.0 call (work_of w past ms m c calls r (resource_log.Tried xid b call images) f)) in
      let theirs = moved_call x d yid.0 dall kind.At tp (works_here (resource_log.Committed yid e dall jmages seads) j) in
      kinds_apart w sessions_here c.allowed.0 x d r.k r.k theirs mine
  twice x d (resource_log.Tried xid b call images) (resource_log.Tried yid e dall jmages) f j tq tp =
      let same = tried_twice x d e b yid xid dall call tp tq (works_here (resource_log.Tried yid e dall jmages) j) (work_of w past ms m c calls r (resource_log.Tried xid b call images) f) in
      let some : is_some (fence rs xid.0 b.0) ≡ true =
      subst (λ z. is_some (fence rs z b.0) ≡ true) same.0 (subst (λ z. is_some (fence rs yid.0 z) ≡ true) same.1 (tried_fence rs yid e dall jmages j)) in
      fence_runs (fence rs xid.0 b.0) some f.runs
  twice x d (resource_log.Committed xid b call images reads) _ f j tq tp = false_true tp
  twice x d (resource_log.Tried xid b call images) _ f j tq tp = false_true tp
  twice x d _ p f j tq tp = false_true tq

  once_step : (q : ResourceRecord) → RecordFits r.s before ne.opens r.event q → AreOnce rs → AreOnce (q ∷ rs)
  once_step q f a = (a, λ x d t p j. by x d t p j (is_work x d p) refl)
    where
      by : (x d : ℕ) → is_work x d q ≡ true → (p : ResourceRecord) → In p rs → (b : Bool) → is_work x d p ≡ b → b ≡ false
      by x d t p j false e = refl
      by x d t p j true e = absurd (twice x d q p f j t e)

  pub once_at_res : OnceAt (coordinator_left past ms) r.k (memory_by r.s (memory_of past ms r.k r.s) r.event m.now m.step)
  once_at_res = record {
    once = r.moves.keeps AreOnce boot_once once_step i.once;
    late = λ o io. late_by o io (r.moves.opens_from o io);
    alone = λ o p io ip x d oo op. alone_by o p (r.moves.opens_from o io) (r.moves.opens_from p ip) x d oo op;
  }
