-- Fences and endings at an entry of the coordinator and of a resource.
use Rattle.seata_types.specs.declared.statuses.BranchKind.{BranchKind}
use Rattle.seata_types.specs.declared.statuses.Decision.{Decision}
use Rattle.seata_types.specs.declared.ids.Place.{Place}
use Rattle.seata_types.specs.declared.ids.Place.TheVariants as place
use Rattle.seata_types.specs.declared.messages.Input.TheVariants as input
use Rattle.seata_types.specs.declared.messages.Message.{Message}
use Rattle.seata_types.specs.declared.messages.Message.TheVariants as message
use Rattle.seata_types.specs.declared.messages.Outgoing.{Outgoing}
use Rattle.seata_types.specs.declared.messages.Step.{Step}
use Rattle.seata_types.specs.declared.statuses.BranchKind.TheVariants as kind
use Rattle.seata_types.specs.declared.statuses.BranchStatus.{BranchStatus}
use Rattle.seata_types.specs.declared.statuses.BranchStatus.TheVariants as branch
use Rattle.durable_records.specs.declared.coordinators.SessionRecord.{SessionRecord}
use Rattle.durable_records.specs.declared.coordinators.SessionRecord.TheVariants as log
use Rattle.durable_records.specs.Transactions.{decided, is_commit, is_rollback}
use Rattle.durable_records.specs.Branches.{Grant, grants, is_ended}
use Rattle.history_rules.specs.Own.{Event, Given, Left}
use Rattle.history_rules.specs.CoordinatorRules.{xid_of, branch_of}
use Rattle.history_rules.specs.Nodes.{World, counted_at}
use Rattle.history_rules.specs.Histories.{Moment}
use Rattle.history_law.specs.Points.{In}
use Rattle.history_law.specs.Network.{OnSent, EachSent}
use Rattle.std.proofs.Common.{◌≡◌, ◌⊎◌, inl, inr, ◌==◌, ◌&&◌, ℕ, Bool, true, false, if◌then◌else◌, List, ◌∷◌, Option, Some, None, is_some, refl, ap, sym, subst, ◌∙◌}
use Rattle.seata_types.specs.declared.acts.Act.{Act}
use Rattle.seata_types.specs.declared.acts.Act.TheVariants as act
use Rattle.seata_types.specs.declared.acts.Durable.TheVariants as durable
use Rattle.durable_records.specs.declared.resources.ResourceRecord.{ResourceRecord}
use Rattle.durable_records.specs.declared.resources.ResourceRecord.TheVariants as resource_log
use Rattle.durable_records.specs.UndoRecords.{Undo}
use Rattle.durable_records.specs.Fences.{Fence, IsCommitted, IsRollbacked, IsSuspended, FenceAnswer, WasDone, fence, on_confirm, on_cancel, IsTried}
use Rattle.history_rules.specs.ResourceMemory.{Setup, Memory, boot_over}
use Rattle.history_law.specs.Cover.{all_of, Backs, BranchSaid, SaysIn, CoversBy}
use Rattle.history_law.specs.Tickets.{IsOfRollback}
use Rattle.history_law.specs.EndingSafety.{how_many, is_committed, IsFencedAs}
use Rattle.history_law.proofs.Tests.{none_some, and_left, and_right, and_both, same_nat, nat_same}
use Rattle.history_law.proofs.Branches.{grant_stays, stays_decided, in_all, decided_in_all}
use Rattle.history_law.proofs.Deliveries.{each_grows}
use Rattle.history_law.proofs.UndoRecords.{commit_of}
use Rattle.history_law.proofs.CoordinatorCauses.{Ends, IsAnsweredCommitted, IsAnsweredRollbacked, EndedBy, Tells, TellsOf}
use Rattle.history_law.proofs.CoordinatorSteps.{KeepsRecords}
use Rattle.history_law.proofs.ResourceFits.{IsOfCommit, ConfirmedBy, CancelledBy, is_done_commit, is_done_rollback, MessageFits, SentFits, Fits, IsRollback}
use Rattle.history_law.proofs.TicketSteps.{memory_by}
use Rattle.history_law.proofs.ResourceSteps.{CommitFits, RecordFits, ResourceMoves}
use Rattle.history_law.proofs.CoverCoordinator.{MayCaused}
use Rattle.history_law.proofs.CoverResource.{one_number, against, backs_new, commit_backed, fits_as, new_at, old_at}
use Rattle.history_law.proofs.FenceRecords.{FenceMay, FenceOrder, Closes, confirm_closes, cancel_closes, done_stays, done_added, UndoMay, Balanced, balanced_after, none_passes, leg_moved}

-- ---- what is kept

-- each local commit was of a granted branch whose ticket is closed
abbrev pub AllEver : List SessionRecord → ℕ → Memory → List ResourceRecord → Type 0
AllEver tc n m rs = (u : Undo) → In (commit_of u) rs → Backs tc n m u

abbrev pub AllRolled : List SessionRecord → List ResourceRecord → Type 0
AllRolled tc rs = (xid : Rattle.seata_types.specs.declared.ids.Xid.Xid) (b : Rattle.seata_types.specs.declared.ids.BranchId.BranchId) → In (resource_log.Undone xid b) rs → is_rollback (decided tc xid.0) ≡ true

abbrev pub AllFenced : List SessionRecord → List ResourceRecord → Type 0
AllFenced tc rs = (x b : ℕ) → IsFencedAs (decided tc x) (fence rs x b)

-- of one resource
pub record EndsAt (tc : List SessionRecord) (n : ℕ) (m : Memory) : Type 0 where
  pub ever : AllEver tc n m m.left.records × AllEver tc n m (all_of m.left)
  pub balanced : Balanced m.left.records × Balanced (all_of m.left)
  pub order : FenceOrder m.left.records × FenceOrder (all_of m.left)
  pub rolled : AllRolled tc m.left.records × AllRolled tc (all_of m.left)
  pub fenced : AllFenced tc m.left.records × AllFenced tc (all_of m.left)

abbrev pub IsDone : (Option Fence → FenceAnswer) → Memory → ℕ → ℕ → Type 0
IsDone on m x b = on (fence m.left.records x b) ≡ WasDone

-- a branch is confirmed after a commit, cancelled or suspended after a rollback
abbrev pub IsSettled : List SessionRecord → Memory → ℕ → ℕ → Type 0
IsSettled tc m x b = ((is_commit (decided tc x) ≡ true) × IsDone on_confirm m x b) ⊎ ((is_rollback (decided tc x) ≡ true) × IsDone on_cancel m x b)

-- a branch that was granted, and that is so where it is a TCC branch
pub record SettledBranch (w : World) (tc : List SessionRecord) (mem : ℕ → Setup → Memory) (rs : List SessionRecord) (x b : ℕ) : Type 0 where
  pub branch : Grant
  pub granted : In branch (grants rs)
  pub xid : branch.xid ≡ x
  pub number : branch.branch ≡ b
  pub settled : branch.kind ≡ kind.Tcc → (s : Setup) → counted_at w.resources branch.resource ≡ Some s → IsSettled tc (mem branch.resource s) x b

abbrev pub EndsSettled : World → List SessionRecord → (ℕ → Setup → Memory) → List SessionRecord → Type 0
EndsSettled w tc mem rs = (x b : ℕ) → is_ended rs x b ≡ true → SettledBranch w tc mem rs x b

-- an answer of the second phase: done only where the branch is
pub record AnswerSaid (w : World) (tc : Left SessionRecord) (mem : ℕ → Setup → Memory) (on : Option Fence → FenceAnswer) (at : Place) (x b : ℕ) (st done : BranchStatus) : Type 0 where
  pub said : BranchSaid tc at x b
  pub is_done : said.branch.kind ≡ kind.Tcc → st ≡ done → (s : Setup) → counted_at w.resources said.branch.resource ≡ Some s → IsDone on (mem said.branch.resource s) x b

abbrev pub SaysEnd : World → Left SessionRecord → (ℕ → Setup → Memory) → Place → Message → Type 0
SaysEnd w tc mem from (message.BranchCommitted xid b st stmt) = IsOfCommit st × AnswerSaid w tc mem on_confirm from xid.0 b.0 st branch.PhaseTwoCommitted
SaysEnd w tc mem from (message.BranchRollbacked xid b st stmt) = IsOfRollback st × AnswerSaid w tc mem on_cancel from xid.0 b.0 st branch.PhaseTwoRollbacked
SaysEnd w tc mem from _ = Unit {0}

abbrev pub SaysEnds : World → Left SessionRecord → (ℕ → Setup → Memory) → Place → Outgoing → Type 0
SaysEnds w tc mem from out = SaysEnd w tc mem from out.message

pub record EndingsBy (w : World) (tc : Left SessionRecord) (mem : ℕ → Setup → Memory) (ms : List Moment) : Type 0 where
  pub at : (n : ℕ) (s : Setup) → counted_at w.resources n ≡ Some s → EndsAt tc.records n (mem n s)
  pub ended : EndsSettled w tc.records mem tc.records × EndsSettled w tc.records mem (all_of tc)
  pub said : EachSent (SaysEnds w tc mem) ms

-- ---- what goes on

pub record EndsGrow (w : World) (tc : Left SessionRecord) (mem : ℕ → Setup → Memory) (tc' : Left SessionRecord) (mem' : ℕ → Setup → Memory) : Type 1 where
  pub grants_stay : (g : Grant) → In g (grants tc.records) → In g (grants tc'.records)
  pub commits_stay : (x : ℕ) → is_commit (decided tc.records x) ≡ true → is_commit (decided tc'.records x) ≡ true
  pub rollbacks_stay : (x : ℕ) → is_rollback (decided tc.records x) ≡ true → is_rollback (decided tc'.records x) ≡ true
  pub done_stays : (on : Option Fence → FenceAnswer) → Closes on → (n : ℕ) (s : Setup) → counted_at w.resources n ≡ Some s → (x b : ℕ) → IsDone on (mem n s) x b → IsDone on (mem' n s) x b

module _ (w : World) (tc : Left SessionRecord) (mem : ℕ → Setup → Memory) (tc' : Left SessionRecord) (mem' : ℕ → Setup → Memory) (g : EndsGrow w tc mem tc' mem') where
  answer_grows : (on : Option Fence → FenceAnswer) → Closes on → (at : Place) (x b : ℕ) (st done : BranchStatus) → AnswerSaid w tc mem on at x b st done → AnswerSaid w tc' mem' on at x b st done
  answer_grows on closes at x b st done a =
      let s = a.said in record {
        said = record { branch = s.branch; granted = g.grants_stay s.branch s.granted; xid = s.xid; number = s.number; place = s.place };
        is_done = λ k e q is. g.done_stays on closes s.branch.resource q is x b (a.is_done k e q is);
      }

  pub end_said_grows : (from : Place) (m : Message) → SaysEnd w tc mem from m → SaysEnd w tc' mem' from m
  end_said_grows from (message.BranchCommitted xid b st stmt) said = (said.0, answer_grows on_confirm confirm_closes from xid.0 b.0 st branch.PhaseTwoCommitted said.1)
  end_said_grows from (message.BranchRollbacked xid b st stmt) said = (said.0, answer_grows on_cancel cancel_closes from xid.0 b.0 st branch.PhaseTwoRollbacked said.1)
  end_said_grows from _ said = tt

  settled_grows : (n : ℕ) (s : Setup) → counted_at w.resources n ≡ Some s → (x b : ℕ) → IsSettled tc.records (mem n s) x b → IsSettled tc'.records (mem' n s) x b
  settled_grows n s is x b (inl (c, done)) = inl (g.commits_stay x c, g.done_stays on_confirm confirm_closes n s is x b done)
  settled_grows n s is x b (inr (r, done)) = inr (g.rollbacks_stay x r, g.done_stays on_cancel cancel_closes n s is x b done)

  pub ends_settled_grow : (rs : List SessionRecord) → EndsSettled w tc.records mem rs → EndsSettled w tc'.records mem' rs
  ends_settled_grow rs ends x b e =
      let f = ends x b e in record {
        branch = f.branch;
        granted = f.granted;
        xid = f.xid;
        number = f.number;
        settled = λ k s is. settled_grows f.branch.resource s is x b (f.settled k s is);
      }

-- what a fence says of a decision stays true
pub fenced_on : (d e : Option Decision) → (is_commit d ≡ true → is_commit e ≡ true) → (is_rollback d ≡ true → is_rollback e ≡ true) → (f : Option Fence) → IsFencedAs d f → IsFencedAs e f
fenced_on d e commits rollbacks None is = tt
fenced_on d e commits rollbacks (Some IsTried) is = tt
fenced_on d e commits rollbacks (Some IsCommitted) is = commits is
fenced_on d e commits rollbacks (Some IsRollbacked) is = rollbacks is
fenced_on d e commits rollbacks (Some IsSuspended) is = rollbacks is

fenced_by : (d : Option Decision) (t : Bool) (here : Fence) (f : Option Fence) → (t ≡ true → IsFencedAs d (Some here)) → IsFencedAs d f → IsFencedAs d (if t then Some here else f)
fenced_by d true here f now is = now refl
fenced_by d false here f now is = is

-- ---- at the coordinator

-- 5 answers a commit alone, 8 a rollback
not_eight : IsOfCommit branch.PhaseTwoRollbacked → ⊥
not_eight i = i

module _ (w : World) (tc : Left SessionRecord) (mem : ℕ → Setup → Memory) (ms : List Moment) (c : CoversBy w tc mem ms) (i : EndingsBy w tc mem ms)
    (event : Event) (heard : (from : Place) (m : Message) → event ≡ Given (input.Message from m) → SaysEnd w tc mem from m)
    (tc' : Left SessionRecord) (keeps : KeepsRecords (MayCaused tc.records event) tc tc') where
  tc_grown : EndsGrow w tc mem tc' mem
  tc_grown = record {
    grants_stay = λ g j. (keeps (λ rs. In g (grants rs)) (λ r m k. grant_stays r tc.records g k) (j, in_all tc g j)).0;
    commits_stay = λ x e. (keeps (λ rs. is_commit (decided rs x) ≡ true) (λ r m j. stays_decided is_commit refl tc.records x r m.0 j) (e, decided_in_all is_commit refl tc c.allowed.1 x e)).0;
    rollbacks_stay = λ x e. (keeps (λ rs. is_rollback (decided rs x) ≡ true) (λ r m j. stays_decided is_rollback refl tc.records x r m.0 j) (e, decided_in_all is_rollback refl tc c.allowed.1 x e)).0;
    done_stays = λ on closes n s is x b e. e;
  }

  backs_on : (n : ℕ) (m : Memory) (u : Undo) → Backs tc.records n m u → Backs tc'.records n m u
  backs_on n m u b = record {
    branch = b.branch;
    granted = tc_grown.grants_stay b.branch b.granted;
    xid = b.xid;
    number = b.number;
    resource = b.resource;
    at = b.at;
    hold = b.hold;
    closed = b.closed;
  }

  tc_at_each : (n : ℕ) (s : Setup) → counted_at w.resources n ≡ Some s → EndsAt tc'.records n (mem n s)
  tc_at_each n s is = let a = i.at n s is in record {
    ever = (λ u j. backs_on n (mem n s) u (a.ever.0 u j), λ u j. backs_on n (mem n s) u (a.ever.1 u j));
    balanced = a.balanced;
    order = a.order;
    rolled = (λ xid b j. tc_grown.rollbacks_stay xid.0 (a.rolled.0 xid b j), λ xid b j. tc_grown.rollbacks_stay xid.0 (a.rolled.1 xid b j));
    fenced = (
      λ x b. fenced_on (decided tc.records x) (decided tc'.records x) (tc_grown.commits_stay x) (tc_grown.rollbacks_stay x) (fence (mem n s).left.records x b) (a.fenced.0 x b),
      λ x b. fenced_on (decided tc.records x) (decided tc'.records x) (tc_grown.commits_stay x) (tc_grown.rollbacks_stay x) (fence (all_of (mem n s).left) x b) (a.fenced.1 x b),
    );
  }

  settled_on : (r : SessionRecord) (x b : ℕ) → SettledBranch w tc'.records mem tc.records x b → SettledBranch w tc'.records mem (r ∷ tc.records) x b
  settled_on r x b f = record { branch = f.branch; granted = grant_stays r tc.records f.branch f.granted; xid = f.xid; number = f.number; settled = f.settled }

  committed_by : (x b : ℕ) → is_commit (decided tc.records x) ≡ true → (a : IsAnsweredCommitted event x b) → IsOfCommit a.status → AnswerSaid w tc mem on_confirm a.from x b a.status branch.PhaseTwoCommitted → Ends a.status
      → SettledBranch w tc'.records mem tc.records x b
  committed_by x b k a of said (inl e) = absurd (not_eight (subst (λ q. IsOfCommit q) e of))
  committed_by x b k a of said (inr e) = let s = said.said in record {
    branch = s.branch;
    granted = s.granted;
    xid = s.xid;
    number = s.number;
    settled = λ kk q is. inl (tc_grown.commits_stay x k, said.is_done kk e q is);
  }

  rollbacked_by : (x b : ℕ) → is_rollback (decided tc.records x) ≡ true → (a : IsAnsweredRollbacked event x b) → IsOfRollback a.status → AnswerSaid w tc mem on_cancel a.from x b a.status branch.PhaseTwoRollbacked → Ends a.status
      → SettledBranch w tc'.records mem tc.records x b
  rollbacked_by x b k a of said (inr e) = absurd (subst (λ q. IsOfRollback q) e of)
  rollbacked_by x b k a of said (inl e) = let s = said.said in record {
    branch = s.branch;
    granted = s.granted;
    xid = s.xid;
    number = s.number;
    settled = λ kk q is. inr (tc_grown.rollbacks_stay x k, said.is_done kk e q is);
  }

  answered : (x b : ℕ) → EndedBy tc.records event x b → SettledBranch w tc'.records mem tc.records x b
  answered x b (inl (k, a)) = let said = heard a.from (message.BranchCommitted (xid_of x) (branch_of b) a.status a.stmt) a.is in committed_by x b k a said.0 said.1 a.ends
  answered x b (inr (k, a)) = let said = heard a.from (message.BranchRollbacked (xid_of x) (branch_of b) a.status a.stmt) a.is in rollbacked_by x b k a said.0 said.1 a.ends

  ended_now : (y d x b : ℕ) → EndedBy tc.records event y d → (t : Bool) → ((y == x) && (d == b)) ≡ t
      → (is_ended tc.records x b ≡ true → SettledBranch w tc'.records mem tc.records x b) → (if t then true else is_ended tc.records x b) ≡ true → SettledBranch w tc'.records mem tc.records x b
  ended_now y d x b cause true t below e =
      subst (λ q. SettledBranch w tc'.records mem tc.records q b) (same_nat y x (and_left (y == x) (d == b) t))
      (subst (λ q. SettledBranch w tc'.records mem tc.records y q) (same_nat d b (and_right (y == x) (d == b) t)) (answered y d cause))
  ended_now y d x b cause false t below e = below e

  ended_step : (r : SessionRecord) → MayCaused tc.records event r → EndsSettled w tc'.records mem tc.records → EndsSettled w tc'.records mem (r ∷ tc.records)
  ended_step (log.Ended xid br) m ends x b e = settled_on (log.Ended xid br) x b (ended_now xid.0 br.0 x b m.1 ((xid.0 == x) && (br.0 == b)) refl (ends x b) e)
  ended_step (log.Granted xid br resource call ticket k hold) m ends x b e = settled_on (log.Granted xid br resource call ticket k hold) x b (ends x b e)
  ended_step (log.Begun xid manager moment timeout) m ends x b e = settled_on (log.Begun xid manager moment timeout) x b (ends x b e)
  ended_step (log.Decided xid d) m ends x b e = settled_on (log.Decided xid d) x b (ends x b e)
  ended_step (log.Retrying xid) m ends x b e = settled_on (log.Retrying xid) x b (ends x b e)
  ended_step (log.Failed xid br stmt) m ends x b e = settled_on (log.Failed xid br stmt) x b (ends x b e)
  ended_step (log.Finished xid) m ends x b e = settled_on (log.Finished xid) x b (ends x b e)
  ended_step (log.Forgot xid) m ends x b e = settled_on (log.Forgot xid) x b (ends x b e)

  tells_end : (to : Place) (m : Message) → Tells tc'.records event to m → SaysEnd w tc' mem place.Tc m
  tells_end to (message.BranchCommitted xid b st stmt) said = absurd said
  tells_end to (message.BranchRollbacked xid b st stmt) said = absurd said
  tells_end to _ said = tt

  tells_ends : (sent : Option Outgoing) → TellsOf tc'.records event sent → OnSent (SaysEnds w tc' mem) place.Tc sent
  tells_ends None t = tt
  tells_ends (Some out) t = tells_end out.to out.message t

  pub endings_coordinator : (m : Moment) → m.place ≡ place.Tc → TellsOf tc'.records event m.step.sent → EndingsBy w tc' mem (m ∷ ms)
  endings_coordinator m at tells = record {
    at = λ n s is. tc_at_each n s is;
    ended = keeps (EndsSettled w tc'.records mem) ended_step (ends_settled_grow w tc mem tc' mem tc_grown tc.records i.ended.0, ends_settled_grow w tc mem tc' mem tc_grown (all_of tc) i.ended.1);
    said = (
      each_grows (SaysEnds w tc mem) (SaysEnds w tc' mem) (λ p o. end_said_grows w tc mem tc' mem tc_grown p o.message) ms i.said,
      subst (λ q. OnSent (SaysEnds w tc' mem) q m.step.sent) (sym at) (tells_ends m.step.sent tells),
    );
  }

-- ---- at a resource

undone_boot : (xid : Rattle.seata_types.specs.declared.ids.Xid.Xid) (b : Rattle.seata_types.specs.declared.ids.BranchId.BranchId) (rs : List ResourceRecord) → resource_log.Undone xid b ≡ boot_over rs → ⊥
undone_boot xid b rs e = cc

commit_boot : (u : Undo) (rs : List ResourceRecord) → commit_of u ≡ boot_over rs → ⊥
commit_boot u rs e = cc

-- a record that isn't a local commit of this branch
not_committed : (x b : ℕ) (r : ResourceRecord) → ((v : Undo) → r ≡ commit_of v → v.xid ≡ x → v.branch ≡ b → ⊥) → is_committed x b r ≡ false
not_committed x b (resource_log.Committed xid br call images reads) other = by ((xid.0 == x) && (br.0 == b)) refl
  where
    by : (t : Bool) → ((xid.0 == x) && (br.0 == b)) ≡ t → t ≡ false
    by true t = absurd (other (record { xid = xid.0; branch = br.0; call = call; images = images; reads = reads }) refl
        (same_nat xid.0 x (and_left (xid.0 == x) (br.0 == b) t)) (same_nat br.0 b (and_right (xid.0 == x) (br.0 == b) t)))
    by false t = refl
not_committed x b _ other = refl

module _ (w : World) (tc : Left SessionRecord) (mem : ℕ → Setup → Memory) (ms : List Moment) (c : CoversBy w tc mem ms) (e : EndingsBy w tc mem ms)
    (k : ℕ) (s : Setup) (is : counted_at w.resources k ≡ Some s) (named : s.number ≡ k)
    (event : Event) (heard : (from : Place) (m : Message) → event ≡ Given (input.Message from m) → SaysIn w tc mem from (place.Res k) m)
    (now : ℕ) (step : Step) (moves : ResourceMoves s (mem k s) event now step) where
  abbrev m : Memory
  m = mem k s

  abbrev n : Memory
  n = memory_by s (mem k s) event now step

  abbrev a : EndsAt tc.records k m
  a = e.at k s is

  -- a branch commits once
  first_commit : (u : Undo) → CommitFits m n.opens event u → how_many (is_committed u.xid u.branch) m.left.records ≡ 0
  first_commit u f = none_passes (is_committed u.xid u.branch) m.left.records
      (λ r i. not_committed u.xid u.branch r (λ v same vx vb.
      let b = a.ever.0 v (subst (λ q. In q m.left.records) same i) in
      against w tc mem ms c k s is named event heard now step moves b.branch (in_all tc b.branch b.granted) u (inr b.closed) f (sym vx ∙ sym b.xid) (sym vb ∙ sym b.number)))

  undo_may : (r : ResourceRecord) → RecordFits s m n.opens event r → UndoMay m.left.records r
  undo_may (resource_log.Committed xid br call images reads) f = first_commit (record { xid = xid.0; branch = br.0; call = call; images = images; reads = reads }) f
  undo_may (resource_log.Undone xid br) f = ap (λ o. is_some o) f.found
  undo_may (resource_log.Cleared xid br) f = f.1
  undo_may _ f = tt

  fence_may : (r : ResourceRecord) → RecordFits s m n.opens event r → FenceMay m.left.records r
  fence_may (resource_log.Tried xid br call images) f = f.runs
  fence_may (resource_log.Confirmed xid br images) f = f.1
  fence_may (resource_log.Cancelled xid br images) f = f.1
  fence_may (resource_log.Suspended xid br) f = f.1
  fence_may _ f = tt

  ever_step : (r : ResourceRecord) → RecordFits s m n.opens event r → AllEver tc.records k n m.left.records → AllEver tc.records k n (r ∷ m.left.records)
  ever_step r f all u (inl same) = commit_backed w tc mem ms c k s is named event heard now step moves u (fits_as w tc mem ms c k s is named event heard now step moves r f u (sym same))
  ever_step r f all u (inr i) = all u i

  ever_boot : (rs : List ResourceRecord) → AllEver tc.records k n rs → AllEver tc.records k n (boot_over rs ∷ rs)
  ever_boot rs all u (inl same) = absurd (commit_boot u rs same)
  ever_boot rs all u (inr i) = all u i

  ever_on : (rs : List ResourceRecord) → AllEver tc.records k m rs → AllEver tc.records k n rs
  ever_on rs all u i = backs_new w tc mem ms c k s is named event heard now step moves u (all u i)

  rolled_step : (r : ResourceRecord) → RecordFits s m n.opens event r → AllRolled tc.records m.left.records → AllRolled tc.records (r ∷ m.left.records)
  rolled_step r f all xid b (inl same) =
      let asked = (subst (λ q. RecordFits s m n.opens event q) (sym same) f).asked in
      (heard asked.from (message.BranchRollback (xid_of xid.0) (branch_of b.0) kind.At asked.manager asked.call) asked.is).2
  rolled_step r f all xid b (inr i) = all xid b i

  rolled_boot : (rs : List ResourceRecord) → AllRolled tc.records rs → AllRolled tc.records (boot_over rs ∷ rs)
  rolled_boot rs all xid b (inl same) = absurd (undone_boot xid b rs same)
  rolled_boot rs all xid b (inr i) = all xid b i

  -- a fence is closed by a message of the decision
  rolled_back : (x b : ℕ) (kk : BranchKind) → IsRollback event x b kk → is_rollback (decided tc.records x) ≡ true
  rolled_back x b kk asked = (heard asked.from (message.BranchRollback (xid_of x) (branch_of b) kk asked.manager asked.call) asked.is).2

  fenced_step : (r : ResourceRecord) → RecordFits s m n.opens event r → AllFenced tc.records m.left.records → AllFenced tc.records (r ∷ m.left.records)
  fenced_step (resource_log.Tried xid br call images) f all x b = fenced_by (decided tc.records x) ((xid.0 == x) && (br.0 == b)) IsTried (fence m.left.records x b) (λ t. tt) (all x b)
  fenced_step (resource_log.Confirmed xid br images) f all x b =
      fenced_by (decided tc.records x) ((xid.0 == x) && (br.0 == b)) IsCommitted (fence m.left.records x b)
      (leg_moved (λ y d. is_commit (decided tc.records y) ≡ true) xid.0 br.0 x b
      (heard f.0.from (message.BranchCommit (xid_of xid.0) (branch_of br.0) kind.Tcc f.0.manager f.0.call) f.0.is).2) (all x b)
  fenced_step (resource_log.Cancelled xid br images) f all x b =
      fenced_by (decided tc.records x) ((xid.0 == x) && (br.0 == b)) IsRollbacked (fence m.left.records x b)
      (leg_moved (λ y d. is_rollback (decided tc.records y) ≡ true) xid.0 br.0 x b (rolled_back xid.0 br.0 kind.Tcc f.0)) (all x b)
  fenced_step (resource_log.Suspended xid br) f all x b =
      fenced_by (decided tc.records x) ((xid.0 == x) && (br.0 == b)) IsSuspended (fence m.left.records x b)
      (leg_moved (λ y d. is_rollback (decided tc.records y) ≡ true) xid.0 br.0 x b (rolled_back xid.0 br.0 kind.Tcc f.0)) (all x b)
  fenced_step (resource_log.Boot number) f all x b = all x b
  fenced_step (resource_log.Committed xid br call images reads) f all x b = all x b
  fenced_step (resource_log.Undone xid br) f all x b = all x b
  fenced_step (resource_log.Marked xid br) f all x b = all x b
  fenced_step (resource_log.Cleared xid br) f all x b = all x b
  fenced_step (resource_log.LocalCommitted number images) f all x b = all x b
  fenced_step (resource_log.Outside number images) f all x b = all x b

  ends_here : EndsAt tc.records k n
  ends_here = record {
    ever = moves.keeps (AllEver tc.records k n) ever_boot ever_step (ever_on m.left.records a.ever.0, ever_on (all_of m.left) a.ever.1);
    balanced = moves.keeps Balanced (λ rs all. balanced_after rs (boot_over rs) tt all) (λ r f all. balanced_after m.left.records r (undo_may r f) all) a.balanced;
    order = moves.keeps FenceOrder (λ rs o. (o, tt)) (λ r f o. (o, fence_may r f)) a.order;
    rolled = moves.keeps (AllRolled tc.records) rolled_boot rolled_step a.rolled;
    fenced = moves.keeps (AllFenced tc.records) (λ rs all. all) fenced_step a.fenced;
  }

  done_new : (on : Option Fence → FenceAnswer) → Closes on → (x b : ℕ) → IsDone on m x b → IsDone on n x b
  done_new on closes x b done =
      (moves.keeps (λ rs. on (fence rs x b) ≡ WasDone) (λ rs d. d) (λ r f d. done_stays on closes m.left.records r (fence_may r f) x b d)
      (done, done_added on closes m.left.flight m.left.records a.order.1 x b done)).0

  -- what is done now
  leg_true : (y d x b : ℕ) → y ≡ x → d ≡ b → ((y == x) && (d == b)) ≡ true
  leg_true y d x b p q = and_both (y == x) (d == b) (nat_same y x p) (nat_same d b q)

  confirmed_now : (x b : ℕ) (done : Act) (sent : Option Outgoing) → ConfirmedBy m x b done → IsDone on_confirm (memory_by s m event now (record { act = done; sent = sent })) x b
  confirmed_now x b (act.Durable (durable.Confirmed xid br)) sent (sx, sb) = ap (λ t. on_confirm (if t then Some IsCommitted else fence m.left.records x b)) (leg_true xid.0 br.0 x b sx sb)
  confirmed_now x b (act.Already xid br) sent done = done
  confirmed_now x b _ sent done = absurd done

  cancelled_now : (x b : ℕ) (done : Act) (sent : Option Outgoing) → CancelledBy m x b done → IsDone on_cancel (memory_by s m event now (record { act = done; sent = sent })) x b
  cancelled_now x b (act.Durable (durable.Cancelled xid br)) sent (sx, sb) = ap (λ t. on_cancel (if t then Some IsRollbacked else fence m.left.records x b)) (leg_true xid.0 br.0 x b sx sb)
  cancelled_now x b (act.Durable (durable.Suspended xid br)) sent (sx, sb) = ap (λ t. on_cancel (if t then Some IsSuspended else fence m.left.records x b)) (leg_true xid.0 br.0 x b sx sb)
  cancelled_now x b (act.Already xid br) sent done = done
  cancelled_now x b _ sent done = absurd done

  module _ (mem' : ℕ → Setup → Memory) (here : mem' k s ≡ n) (there : (j : ℕ) (q : Setup) → (j == k) ≡ false → mem' j q ≡ mem j q) where
    new_here : (j : ℕ) (q : Setup) → j ≡ k → counted_at w.resources j ≡ Some q → mem' j q ≡ n
    new_here j q at known = new_at w tc mem ms c k s is named event heard now step moves mem' here there j q at known

    old_here : (j : ℕ) (q : Setup) → j ≡ k → counted_at w.resources j ≡ Some q → mem j q ≡ m
    old_here j q at known = old_at w tc mem ms c k s is named event heard now step moves mem' here there j q at known

    done_by : (on : Option Fence → FenceAnswer) → Closes on → (j : ℕ) (q : Setup) → counted_at w.resources j ≡ Some q → (x b : ℕ) → IsDone on (mem j q) x b → (t : Bool) → (j == k) ≡ t → IsDone on (mem' j q) x b
    done_by on closes j q known x b done true t =
        let at : j ≡ k = same_nat j k t in
        subst (λ z. IsDone on z x b) (sym (new_here j q at known)) (done_new on closes x b (subst (λ z. IsDone on z x b) (old_here j q at known) done))
    done_by on closes j q known x b done false t = subst (λ z. IsDone on z x b) (sym (there j q t)) done

    res_grown : EndsGrow w tc mem tc mem'
    res_grown = record {
      grants_stay = λ g i. i;
      commits_stay = λ x d. d;
      rollbacks_stay = λ x d. d;
      done_stays = λ on closes j q known x b done. done_by on closes j q known x b done (j == k) refl;
    }

    at_by : (j : ℕ) (q : Setup) → counted_at w.resources j ≡ Some q → (t : Bool) → (j == k) ≡ t → EndsAt tc.records j (mem' j q)
    at_by j q known true t =
        let at : j ≡ k = same_nat j k t in
        subst (λ z. EndsAt tc.records j z) (sym (new_here j q at known)) (subst (λ z. EndsAt tc.records z n) (sym at) ends_here)
    at_by j q known false t = subst (λ z. EndsAt tc.records j z) (sym (there j q t)) (e.at j q known)

    end_said : (to : Place) (msg : Message) → MessageFits s m event step.act msg → SaysEnd w tc mem' (place.Res k) msg
    end_said to (message.BranchCommitted xid b st stmt) said =
        let asked = said.asked in
        let back = heard asked.from (message.BranchCommit (xid_of xid.0) (branch_of b.0) said.of_kind asked.manager asked.call) asked.is in
        let bs = back.0 in
        let number : k ≡ bs.branch.resource = one_number k bs.branch.resource bs.place in (
          said.status,
          record {
            said = record { branch = bs.branch; granted = bs.granted; xid = bs.xid; number = bs.number; place = bs.place };
            is_done = λ kk five q known.
                subst (λ z. IsDone on_confirm z xid.0 b.0) (sym (new_here bs.branch.resource q (sym number) known))
                (confirmed_now xid.0 b.0 step.act step.sent (said.confirmed (sym back.1 ∙ kk) (ap is_done_commit five)));
          },
        )
    end_said to (message.BranchRollbacked xid b st stmt) said =
        let asked = said.asked in
        let back = heard asked.from (message.BranchRollback (xid_of xid.0) (branch_of b.0) said.of_kind asked.manager asked.call) asked.is in
        let bs = back.0 in
        let number : k ≡ bs.branch.resource = one_number k bs.branch.resource bs.place in (
          said.status,
          record {
            said = record { branch = bs.branch; granted = bs.granted; xid = bs.xid; number = bs.number; place = bs.place };
            is_done = λ kk eight q known.
                subst (λ z. IsDone on_cancel z xid.0 b.0) (sym (new_here bs.branch.resource q (sym number) known))
                (cancelled_now xid.0 b.0 step.act step.sent (said.cancelled (sym back.1 ∙ kk) (ap is_done_rollback eight)));
          },
        )
    end_said to _ said = tt

    sent_ends : (sent : Option Outgoing) → step.sent ≡ sent → Fits s m event step ⊎ (step.sent ≡ None) → OnSent (SaysEnds w tc mem') (place.Res k) sent
    sent_ends None same f = tt
    sent_ends (Some out) same (inr none) = none_some (sym none ∙ same)
    sent_ends (Some out) same (inl f) = end_said out.to out.message (subst (λ z. SentFits s m event step.act z) same f.1)

    pub endings_resource : (mo : Moment) → mo.place ≡ place.Res k → mo.step ≡ step → EndingsBy w tc mem' (mo ∷ ms)
    endings_resource mo at did = record {
      at = λ j q known. at_by j q known (j == k) refl;
      ended = (ends_settled_grow w tc mem tc mem' res_grown tc.records e.ended.0, ends_settled_grow w tc mem tc mem' res_grown (all_of tc) e.ended.1);
      said = (
        each_grows (SaysEnds w tc mem) (SaysEnds w tc mem') (λ p o. end_said_grows w tc mem tc mem' res_grown p o.message) ms e.said,
        subst (λ q. OnSent (SaysEnds w tc mem') q mo.step.sent) (sym at) (subst (λ (q : Step). OnSent (SaysEnds w tc mem') (place.Res k) q.sent) (sym did) (sent_ends step.sent refl moves.fits)),
      );
    }
