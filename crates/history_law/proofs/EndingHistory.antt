-- Fences and endings in all legal histories, and in all chains.
use Rattle.std.proofs.Common.{◌≡◌, ◌⊎◌, inl, inr, ◌==◌, ◌&&◌, not, ℕ, Bool, true, false, if◌then◌else◌, List, [], ◌∷◌, Option, Some, None, is_some, is_none, refl, ap, sym, subst, ◌∙◌, arith}
use Rattle.seata_types.specs.declared.ids.BranchId.{BranchId}
use Rattle.seata_types.specs.declared.ids.Place.{Place}
use Rattle.seata_types.specs.declared.ids.Xid.{Xid}
use Rattle.seata_types.specs.declared.messages.Message.{Message}
use Rattle.seata_types.specs.declared.messages.Message.TheVariants as message
use Rattle.seata_types.specs.declared.messages.Outgoing.{Outgoing}
use Rattle.seata_types.specs.declared.messages.Step.{Step}
use Rattle.seata_types.specs.declared.statuses.BranchKind.{BranchKind}
use Rattle.seata_types.specs.declared.statuses.BranchKind.TheVariants as kind
use Rattle.seata_types.specs.declared.statuses.Decision.{Decision}
use Rattle.seata_types.specs.declared.statuses.Decision.TheVariants as how
use Rattle.durable_records.specs.declared.coordinators.SessionRecord.{SessionRecord}
use Rattle.durable_records.specs.declared.coordinators.SessionRecord.TheVariants as log
use Rattle.durable_records.specs.declared.resources.ResourceRecord.{ResourceRecord}
use Rattle.durable_records.specs.declared.resources.ResourceRecord.TheVariants as resource_log
use Rattle.durable_records.specs.Transactions.{decided, is_commit, is_rollback}
use Rattle.durable_records.specs.Branches.{Grant, grants, branches, is_ended, is_unended, unended, next_branch, granted}
use Rattle.durable_records.specs.Progress.{Progress, Goes, Retries, IsFailed, IsDone, progress, is_done, may_decide, is_going}
use Rattle.durable_records.specs.Locks.{first_held}
use Rattle.durable_records.specs.SessionOrder.{Allowed, is_empty}
use Rattle.durable_records.specs.UndoRecords.{Undo, undo_of}
use Rattle.durable_records.specs.Fences.{Fence, FenceAnswer, WasDone, fence, on_confirm, on_cancel}
use Rattle.history_rules.specs.Own.{Left}
use Rattle.history_rules.specs.ResourceMemory.{Setup, Memory, boot_over, memory}
use Rattle.history_rules.specs.Nodes.{World, Past, counted_at}
use Rattle.history_rules.specs.Histories.{Moment, Legal, coordinator_left}
use Rattle.history_rules.specs.Chains.{IsChain, MayLeave, IsBlankPast}
use Rattle.history_law.specs.Points.{In}
use Rattle.history_law.specs.Network.{OnSent}
use Rattle.history_law.specs.Cover.{all_of, memory_of, CoversAt, Covers}
use Rattle.history_law.specs.TicketSafety.{AreNumbered}
use Rattle.history_law.specs.EndingSafety.{how_many, is_committed, is_undone, IsKeptBy, IsStruckBy, EndsAs, EndingsAreSafe, EndingsStaySafe, EndingsLaw, EndingsOfChains}
use Rattle.history_law.proofs.Tests.{false_true, true_false, and_left, and_right, same_nat, nat_same, in_filter}
use Rattle.history_law.proofs.Transactions.{known, decide_none}
use Rattle.history_law.proofs.Branches.{one_branch, decided_in_all}
use Rattle.history_law.proofs.UndoRecords.{commit_of}
use Rattle.history_law.proofs.ManagerSteps.{IsManagers, SendsManagers}
use Rattle.history_law.proofs.CoverHistory.{covers, ended_none}
use Rattle.history_law.proofs.CoverChains.{of_sessions, of_memory, backs_next, commit_stays, chain_covered, covers_first, at_first, shorter_chain}
use Rattle.history_law.proofs.CoverResource.{in_added}
use Rattle.history_law.proofs.FenceRecords.{FenceOrder, Closes, confirm_closes, cancel_closes, done_added, Balanced, balanced_after, balanced_none, none_passes, kept, struck, is_cleared}
use Rattle.history_law.proofs.Endings.{AllEver, AllRolled, EndsAt, IsDone as IsDoneBy, IsSettled, EndsSettled, SaysEnd, SaysEnds, EndingsBy, endings_coordinator, endings_resource, AllFenced, fenced_on}
use Rattle.history_law.proofs.Steps.{Keeps, by_entries}

-- ---- the induction

manager_end : (w : World) (tc : Left SessionRecord) (mem : ℕ → Setup → Memory) (from : Place) (sent : Option Outgoing) → SendsManagers sent → OnSent (SaysEnds w tc mem) from sent
manager_end w tc mem from None s = tt
manager_end w tc mem from (Some out) s = by out.message s
  where
    by : (msg : Message) → IsManagers msg → SaysEnd w tc mem from msg
    by (message.BranchCommitted xid b st stmt) is = absurd is
    by (message.BranchRollbacked xid b st stmt) is = absurd is
    by _ is = tt

module _ (w : World) (past : Past) where
  pub endings_keep : Keeps w past (EndingsBy w)
  endings_keep = record {
    at_tc = λ ms m c e t. endings_coordinator w (coordinator_left past ms) (memory_of past ms) ms c e t.event
        (λ from msg is. t.heard (SaysEnds w (coordinator_left past ms) (memory_of past ms)) e.said from msg is) t.after t.keeps m t.at t.tells;
    at_res = λ ms m c e r. endings_resource w (coordinator_left past ms) (memory_of past ms) ms c e r.k r.s r.known r.named r.event
        (λ from msg is. r.heard (λ p out. Rattle.history_law.specs.Cover.Says w (coordinator_left past ms) (memory_of past ms) p out) c.said from msg is)
        m.now m.step r.moves r.after r.here r.there m r.at refl;
    at_man = λ ms m c e t. record { at = e.at; ended = e.ended; said = (e.said, manager_end w (coordinator_left past ms) (memory_of past ms) m.place m.step.sent t.sends) };
    quiet = λ ms m e is. record {
      at = e.at;
      ended = e.ended;
      said = (e.said, subst (λ (step : Step). OnSent (SaysEnds w (coordinator_left past ms) (memory_of past ms)) m.place step.sent) (sym is) tt);
    };
  }

abbrev pub Endings : World → Past → List Moment → Type 0
Endings w past ms = EndingsBy w (coordinator_left past ms) (memory_of past ms) ms

pub endings : (w : World) (past : Past) → AreNumbered w → Covers w past [] → Endings w past [] → (ms : List Moment) → Legal w past ms → Endings w past ms
endings w past numbered start first ms legal = by_entries w past numbered (EndingsBy w) (endings_keep w past) start first ms legal

-- ---- all branches of a finished transaction are ended

not_done : {A : Type 0} (d : Option Decision) (p : Progress) → is_done p ≡ true → (d ≡ None → p ≡ Goes) → d ≡ None → A
not_done d p done goes none = false_true (sym (ap is_done (goes none)) ∙ done)

empty_none : (g : Grant) (gs : List Grant) → is_empty gs ≡ true → In g gs → ⊥
empty_none g [] e i = i
empty_none g (h ∷ gs) e i = false_true e

ends_too : (t : Bool) (before : Bool) → before ≡ true → (if t then true else before) ≡ true
ends_too true before e = refl
ends_too false before e = e

-- a record of progress other than done
progress_by : (t : Bool) (here before : Progress) → is_done here ≡ false → is_done (if t then here else before) ≡ true → is_done before ≡ true
progress_by true here before not e = true_false (sym e ∙ not)
progress_by false here before not e = e

ended_if_empty : (rs : List SessionRecord) (x : ℕ) (g : Grant) → is_empty (unended rs x) ≡ true → In g (branches rs x) → (b : Bool) → is_ended rs g.xid g.branch ≡ b → is_ended rs g.xid g.branch ≡ true
ended_if_empty rs x g empty of_x true e = e
ended_if_empty rs x g empty of_x false e = absurd (empty_none g (unended rs x) empty (in_filter (is_unended rs) (branches rs x) g of_x (ap (λ q. not q) e)))

-- after a finish all branches are ended
finished_ends : (rs : List SessionRecord) (xid : Xid) (x : ℕ) (g : Grant) → In g (grants rs) → g.xid ≡ x → is_empty (unended rs xid.0) ≡ true → (is_done (progress rs x) ≡ true → is_ended rs x g.branch ≡ true)
    → (t : Bool) → (xid.0 == x) ≡ t → is_done (if t then IsDone else progress rs x) ≡ true → is_ended rs x g.branch ≡ true
finished_ends rs xid x g i of empty below false t e = below e
finished_ends rs xid x g i of empty below true t e =
    let none : is_empty (unended rs x) ≡ true = subst (λ q. is_empty (unended rs q) ≡ true) (same_nat xid.0 x t) empty in
    let of_x : In g (branches rs x) = in_filter (λ h. h.xid == x) (grants rs) g i (nat_same g.xid x of) in
    subst (λ q. is_ended rs q g.branch ≡ true) of (ended_if_empty rs x g none of_x (is_ended rs g.xid g.branch) refl)

pub done_ended : (rs : List SessionRecord) → Allowed rs → (x : ℕ) → is_done (progress rs x) ≡ true → (g : Grant) → In g (grants rs) → g.xid ≡ x → is_ended rs x g.branch ≡ true
done_ended [] a x done g i of = absurd i
done_ended (log.Begun xid manager moment timeout ∷ rs) a x done g i of = done_ended rs a.0 x done g i of
done_ended (log.Granted xid br resource call ticket k hold ∷ rs) a x done g (inr i) of = done_ended rs a.0 x done g i of
done_ended (log.Granted xid br resource call ticket k hold ∷ rs) a x done g (inl is) of =
    let grant = and_left (may_decide rs xid.0 && ((br.0 == next_branch rs) && is_none (first_held rs xid.0 hold))) (is_none (granted rs xid.0 resource call ticket k)) a.1 in
    let here : xid.0 ≡ x = sym (ap (λ h. h.xid) is) ∙ of in
    let none : decided rs x ≡ None = subst (λ q. decided rs q ≡ None) here (decide_none rs xid.0 (and_left (may_decide rs xid.0) ((br.0 == next_branch rs) && is_none (first_held rs xid.0 hold)) grant)) in
    not_done (decided rs x) (progress rs x) done (λ n. ((known rs a.0 x).undecided n).0) none
done_ended (log.Decided xid d ∷ rs) a x done g i of = done_ended rs a.0 x done g i of
done_ended (log.Retrying xid ∷ rs) a x done g i of = done_ended rs a.0 x (progress_by (xid.0 == x) Retries (progress rs x) refl done) g i of
done_ended (log.Ended xid br ∷ rs) a x done g i of = ends_too ((xid.0 == x) && (br.0 == g.branch)) (is_ended rs x g.branch) (done_ended rs a.0 x done g i of)
done_ended (log.Failed xid br stmt ∷ rs) a x done g i of = done_ended rs a.0 x (progress_by (xid.0 == x) IsFailed (progress rs x) refl done) g i of
done_ended (log.Finished xid ∷ rs) a x done g i of = finished_ends rs xid x g i of (and_right (is_going rs xid.0) (is_empty (unended rs xid.0)) a.1) (λ d. done_ended rs a.0 x d g i of) (xid.0 == x) refl done
done_ended (log.Forgot xid ∷ rs) a x done g i of = done_ended rs a.0 x done g i of

-- ---- what is claimed

pub both_decided : (d : Option Decision) → is_commit d ≡ true → is_rollback d ≡ true → ⊥
both_decided None c r = false_true c
both_decided (Some how.Commit) c r = false_true r
both_decided (Some how.Rollback) c r = false_true c
both_decided (Some how.Timeout) c r = false_true c

leg_fails : (y d x b : ℕ) → (y ≡ x → d ≡ b → ⊥) → ((y == x) && (d == b)) ≡ false
leg_fails y d x b other = by ((y == x) && (d == b)) refl
  where
    by : (t : Bool) → ((y == x) && (d == b)) ≡ t → t ≡ false
    by true t = absurd (other (same_nat y x (and_left (y == x) (d == b) t)) (same_nat d b (and_right (y == x) (d == b) t)))
    by false t = refl

not_undone : (x b : ℕ) (r : ResourceRecord) → ((xid : Xid) (br : BranchId) → r ≡ resource_log.Undone xid br → xid.0 ≡ x → br.0 ≡ b → ⊥) → is_undone x b r ≡ false
not_undone x b (resource_log.Undone xid br) other = leg_fails xid.0 br.0 x b (other xid br refl)
not_undone x b _ other = refl

not_cleared : (x b : ℕ) (r : ResourceRecord) → ((xid : Xid) (br : BranchId) → r ≡ resource_log.Cleared xid br → xid.0 ≡ x → br.0 ≡ b → ⊥) → is_cleared x b r ≡ false
not_cleared x b (resource_log.Cleared xid br) other = leg_fails xid.0 br.0 x b (other xid br refl)
not_cleared x b _ other = refl

module _ (w : World) (past : Past) (ms : List Moment) (c : Covers w past ms) (e : Endings w past ms) (g : Grant) (i : In g (grants (coordinator_left past ms).records))
    (done : is_done (progress (coordinator_left past ms).records g.xid) ≡ true) (s : Setup) (is : counted_at w.resources g.resource ≡ Some s) where
  abbrev rs : List SessionRecord
  rs = (coordinator_left past ms).records

  abbrev records : List ResourceRecord
  records = (memory_of past ms g.resource s).left.records

  ended : is_ended rs g.xid g.branch ≡ true
  ended = done_ended rs c.allowed.0 g.xid done g i refl

  settled : g.kind ≡ kind.Tcc → IsSettled rs (memory_of past ms g.resource s) g.xid g.branch
  settled tcc =
      let f = e.ended.0 g.xid g.branch ended in
      let same : f.branch ≡ g = one_branch rs c.allowed.0 f.branch g f.granted i f.number in
      subst (λ (h : Grant). IsSettled rs (memory_of past ms h.resource s) g.xid g.branch) same
      (f.settled (ap (λ h. h.kind) same ∙ tcc) s (ap (λ h. counted_at w.resources h.resource) same ∙ is))

  confirmed : is_commit (decided rs g.xid) ≡ true → IsSettled rs (memory_of past ms g.resource s) g.xid g.branch → on_confirm (fence records g.xid g.branch) ≡ WasDone
  confirmed commit (inl (k, d)) = d
  confirmed commit (inr (k, d)) = absurd (both_decided (decided rs g.xid) commit k)

  cancelled : is_rollback (decided rs g.xid) ≡ true → IsSettled rs (memory_of past ms g.resource s) g.xid g.branch → on_cancel (fence records g.xid g.branch) ≡ WasDone
  cancelled rollback (inl (k, d)) = absurd (both_decided (decided rs g.xid) k rollback)
  cancelled rollback (inr (k, d)) = d

  abbrev here : EndsAt rs g.resource (memory_of past ms g.resource s)
  here = e.at g.resource s is

  never_undone : is_commit (decided rs g.xid) ≡ true → how_many (is_undone g.xid g.branch) records ≡ 0
  never_undone commit = none_passes (is_undone g.xid g.branch) records
      (λ r j. not_undone g.xid g.branch r (λ xid br same sx sb.
      both_decided (decided rs g.xid) commit (subst (λ q. is_rollback (decided rs q) ≡ true) sx (here.rolled.0 xid br (subst (λ q. In q records) same j)))))

  never_cleared : is_rollback (decided rs g.xid) ≡ true → how_many (is_cleared g.xid g.branch) records ≡ 0
  never_cleared rollback = none_passes (is_cleared g.xid g.branch) records
      (λ r j. not_cleared g.xid g.branch r (λ xid br same sx sb.
      let m = memory_of past ms g.resource s in
      both_decided (decided rs g.xid)
      (subst (λ q. is_commit (decided rs q) ≡ true) sx ((c.at g.resource s is).cleared xid.0 br.0 (in_added m.left.flight m.left.records _ (subst (λ q. In q records) same j)))) rollback))

  no_undo : g.kind ≡ kind.At → is_rollback (decided rs g.xid) ≡ true → undo_of records g.xid g.branch ≡ None
  no_undo at rollback = by (ended_none w past ms c g.resource s is g i at refl ended)
    where
      by : (is_commit (decided (coordinator_left past ms).records g.xid) ≡ true) ⊎ (undo_of (memory_of past ms g.resource s).left.records g.xid g.branch ≡ None)
          → undo_of (memory_of past ms g.resource s).left.records g.xid g.branch ≡ None
      by (inl commit) = absurd (both_decided (decided (coordinator_left past ms).records g.xid) commit rollback)
      by (inr none) = none

  kept_as : (k : BranchKind) → g.kind ≡ k → is_commit (decided rs g.xid) ≡ true → IsKeptBy k records g.xid g.branch
  kept_as kind.At is_kind commit = never_undone commit
  kept_as kind.Tcc is_kind commit = kept g.xid g.branch records here.order.0 (confirmed commit (settled is_kind))

  struck_as : (k : BranchKind) → g.kind ≡ k → is_rollback (decided rs g.xid) ≡ true → IsStruckBy k records g.xid g.branch
  struck_as kind.At is_kind rollback =
      balanced_none (is_some (undo_of records g.xid g.branch)) (how_many (is_committed g.xid g.branch) records) (how_many (is_undone g.xid g.branch) records) (how_many (is_cleared g.xid g.branch) records)
      (here.balanced.0 g.xid g.branch) (ap (λ o. is_some o) (no_undo is_kind rollback)) (never_cleared rollback)
  struck_as kind.Tcc is_kind rollback = struck g.xid g.branch records here.order.0 (cancelled rollback (settled is_kind))

  ends_as : EndsAs rs g records
  ends_as = record { kept = λ commit. kept_as g.kind refl commit; struck = λ rollback. struck_as g.kind refl rollback }

pub endings_safe : (w : World) (past : Past) (ms : List Moment) → Covers w past ms → Endings w past ms → EndingsAreSafe w past ms
endings_safe w past ms c e = record {
  ended = λ g i done s is. ends_as w past ms c e g i done s is;
  fenced = λ n s is. (e.at n s is).fenced.0;
}

endings_stay : (w : World) (past : Past) → AreNumbered w → Covers w past [] → Endings w past [] → (ms : List Moment) → Legal w past ms → EndingsStaySafe w past ms
endings_stay w past numbered start first [] legal = endings_safe w past [] start first
endings_stay w past numbered start first (m ∷ ms) legal =
    (endings_stay w past numbered start first ms legal.0, endings_safe w past (m ∷ ms) (covers w past numbered start (m ∷ ms) legal) (endings w past numbered start first (m ∷ ms) legal))

-- ---- disks without records

first_ends : (past : Past) → IsBlankPast past → (n : ℕ) (s : Setup) → EndsAt [] n (memory s (past.resource n) [])
first_ends past blank n s =
    let m = memory s (past.resource n) [] in
    let ever = ever_boot m (past.resource n) (at_first past blank (AllEver [] n m) (λ u i. absurd i) (ever_boot m) n) in
    let rolled = rolled_boot (past.resource n) (at_first past blank (AllRolled []) (λ xid b i. absurd i) rolled_boot n) in
    let balanced = balanced_boot (past.resource n) (at_first past blank Balanced (λ x b. (omega arith, refl)) balanced_boot n) in
    let order = at_first past blank FenceOrder tt (λ rs k. (k, tt)) n in
    let fenced = at_first past blank (AllFenced []) (λ x b. tt) (λ rs k. k) n in
    record { ever = (ever, ever); balanced = (balanced, balanced); order = ((order, tt), (order, tt)); rolled = (rolled, rolled); fenced = (fenced, fenced) }
  where
    ever_boot : (m : Memory) (rs : List ResourceRecord) → AllEver [] n m rs → AllEver [] n m (boot_over rs ∷ rs)
    ever_boot m rs all u (inl same) = absurd (other same)
      where
        other : commit_of u ≡ boot_over rs → ⊥
        other e = cc
    ever_boot m rs all u (inr i) = all u i

    rolled_boot : (rs : List ResourceRecord) → AllRolled [] rs → AllRolled [] (boot_over rs ∷ rs)
    rolled_boot rs all xid b (inl same) = absurd (other same)
      where
        other : resource_log.Undone xid b ≡ boot_over rs → ⊥
        other e = cc
    rolled_boot rs all xid b (inr i) = all xid b i

    balanced_boot : (rs : List ResourceRecord) → Balanced rs → Balanced (boot_over rs ∷ rs)
    balanced_boot rs all = balanced_after rs (boot_over rs) tt all

pub endings_first : (w : World) (past : Past) → IsBlankPast past → Endings w past []
endings_first w past bare = record {
  at = λ n s is. subst (λ (rs : List SessionRecord). EndsAt rs n (memory s (past.resource n) [])) (sym bare.sessions)
      (first_ends past bare n s);
  ended = subst (λ (rs : List SessionRecord). EndsSettled w rs (memory_of past []) rs × EndsSettled w rs (memory_of past []) rs) (sym bare.sessions)
      (λ x b e. false_true e, λ x b e. false_true e);
  said = tt;
}

-- ---- chains

module _ (w : World) (past : Past) (ms : List Moment) (next : Past) (numbered : AreNumbered w) (c : Covers w past ms) (e : Endings w past ms) (leaves : MayLeave w past ms next) where
  abbrev tc : Left SessionRecord
  tc = coordinator_left past ms

  rollback_stays : (x : ℕ) → is_rollback (decided tc.records x) ≡ true → is_rollback (decided next.sessions x) ≡ true
  rollback_stays x = of_sessions w past ms next numbered c leaves (λ rs. is_rollback (decided tc.records x) ≡ true → is_rollback (decided rs x) ≡ true) (λ d. d, decided_in_all is_rollback refl tc c.allowed.1 x)

  module _ (n : ℕ) (s : Setup) (is : counted_at w.resources n ≡ Some s) where
    abbrev m : Memory
    m = memory_of past ms n s

    abbrev m' : Memory
    m' = memory_of next [] n s

    abbrev a : EndsAt tc.records n m
    a = e.at n s is

    ever_next : (rs : List ResourceRecord) → AllEver tc.records n m rs → AllEver next.sessions n m' rs
    ever_next _ all u i = backs_next w past ms next numbered c leaves n s is u (all u i)

    ever_boot : (rs : List ResourceRecord) → AllEver next.sessions n m' rs → AllEver next.sessions n m' (boot_over rs ∷ rs)
    ever_boot rs all u (inl same) = absurd (other same)
      where
        other : commit_of u ≡ boot_over rs → ⊥
        other same = cc
    ever_boot rs all u (inr i) = all u i

    rolled_boot : (rs : List ResourceRecord) → AllRolled next.sessions rs → AllRolled next.sessions (boot_over rs ∷ rs)
    rolled_boot rs all xid b (inl same) = absurd (other same)
      where
        other : resource_log.Undone xid b ≡ boot_over rs → ⊥
        other same = cc
    rolled_boot rs all xid b (inr i) = all xid b i

    fenced_next : (rs : List ResourceRecord) → AllFenced tc.records rs → AllFenced next.sessions rs
    fenced_next rs all x b = fenced_on (decided tc.records x) (decided next.sessions x) (commit_stays w past ms next numbered c leaves x) (rollback_stays x) (fence rs x b) (all x b)

    ends_next : EndsAt next.sessions n m'
    ends_next =
        let ever = of_memory w past ms next numbered c leaves n s is (AllEver next.sessions n m') ever_boot (ever_next m.left.records a.ever.0, ever_next (all_of m.left) a.ever.1) in
        let balanced = of_memory w past ms next numbered c leaves n s is Balanced (λ rs all. balanced_after rs (boot_over rs) tt all) a.balanced in
        let order = of_memory w past ms next numbered c leaves n s is FenceOrder (λ rs o. (o, tt)) a.order in
        let rolled = of_memory w past ms next numbered c leaves n s is (AllRolled next.sessions) rolled_boot
        ((λ xid b i. rollback_stays xid.0 (a.rolled.0 xid b i)), (λ xid b i. rollback_stays xid.0 (a.rolled.1 xid b i))) in
        let fenced = of_memory w past ms next numbered c leaves n s is (AllFenced next.sessions) (λ rs all. all) (fenced_next m.left.records a.fenced.0, fenced_next (all_of m.left) a.fenced.1) in
        record { ever = (ever, ever); balanced = (balanced, balanced); order = (order, order); rolled = (rolled, rolled); fenced = (fenced, fenced) }

    done_next : (on : Option Fence → FenceAnswer) → Closes on → (x b : ℕ) → IsDoneBy on m x b → IsDoneBy on m' x b
    done_next on closes x b d = of_memory w past ms next numbered c leaves n s is (λ rs. on (fence rs x b) ≡ WasDone) (λ rs q. q) (d, done_added on closes m.left.flight m.left.records a.order.1 x b d)

    settled_next : (x b : ℕ) → IsSettled tc.records m x b → IsSettled next.sessions m' x b
    settled_next x b (inl (k, d)) = inl (commit_stays w past ms next numbered c leaves x k, done_next on_confirm confirm_closes x b d)
    settled_next x b (inr (k, d)) = inr (rollback_stays x k, done_next on_cancel cancel_closes x b d)

  settles_next : (rs : List SessionRecord) → EndsSettled w tc.records (memory_of past ms) rs → EndsSettled w next.sessions (memory_of next []) rs
  settles_next _ ends x b d =
      let f = ends x b d in record {
        branch = f.branch;
        granted = f.granted;
        xid = f.xid;
        number = f.number;
        settled = λ k s is. settled_next f.branch.resource s is x b (f.settled k s is);
      }

  pub endings_next : Endings w next []
  endings_next =
      let ended = of_sessions w past ms next numbered c leaves (EndsSettled w next.sessions (memory_of next [])) (settles_next tc.records e.ended.0, settles_next (all_of tc) e.ended.1) in
      record { at = λ n s is. ends_next n s is; ended = (ended, ended); said = tt }

pub chain_ends : (w : World) (past : Past) (ms : List Moment) (rest : List (Past × List Moment)) → AreNumbered w → IsChain w ((past, ms) ∷ rest) → Endings w past []
chain_ends w past ms [] numbered chain = endings_first w past chain.0
chain_ends w past ms ((before, entries) ∷ rest) numbered chain =
    let earlier = chain_covered w before entries rest numbered chain.0 in
    endings_next w before entries past numbered (covers w before numbered earlier.0 entries earlier.1)
    (endings w before numbered earlier.0 (chain_ends w before entries rest numbered chain.0) entries earlier.1) chain.1

pub endings_law : EndingsLaw
endings_law w past ms numbered bare legal = endings_stay w past numbered (covers_first w past bare) (endings_first w past bare) ms legal

pub endings_of_chains : EndingsOfChains
endings_of_chains w [] numbered chain = tt
endings_of_chains w ((past, ms) ∷ rest) numbered chain =
    let last = chain_covered w past ms rest numbered chain in
    (endings_of_chains w rest numbered (shorter_chain w past ms rest chain), endings_stay w past numbered last.0 (chain_ends w past ms rest numbered chain) ms last.1)
