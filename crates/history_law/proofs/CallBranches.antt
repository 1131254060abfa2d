-- Whose calls branches are: what follows from records alone.
use Rattle.std.proofs.Common.{◌≡◌, inl, inr, ◌+◌, ◌<◌, ◌≤◌, ◌==◌, ◌&&◌, not, ℕ, zero, suc, Bool, true, false, if◌then◌else◌, List, [], ◌∷◌, length, Option, Some, None, is_some, is_none, refl, ap, sym, subst, ◌∙◌, arith}
use Rattle.std.specs.Prelude.{slice_get}
use Rattle.seata_types.specs.declared.ids.BranchId.{BranchId}
use Rattle.seata_types.specs.declared.ids.Ticket.{Ticket}
use Rattle.seata_types.specs.declared.ids.Xid.{Xid}
use Rattle.seata_types.specs.declared.rows.Image.{Image}
use Rattle.seata_types.specs.declared.rows.RowKey.{RowKey}
use Rattle.seata_types.specs.declared.statements.Work.{Work}
use Rattle.seata_types.specs.declared.statuses.BranchKind.{BranchKind}
use Rattle.seata_types.specs.declared.statuses.BranchKind.TheVariants as kind
use Rattle.seata_types.specs.declared.statuses.Decision.{Decision}
use Rattle.durable_records.specs.declared.coordinators.SessionRecord.{SessionRecord}
use Rattle.durable_records.specs.declared.coordinators.SessionRecord.TheVariants as log
use Rattle.durable_records.specs.declared.resources.ResourceRecord.{ResourceRecord}
use Rattle.durable_records.specs.declared.resources.ResourceRecord.TheVariants as resource_log
use Rattle.durable_records.specs.Transactions.{Session, sessions, session, session_for, next_xid, decided, is_forgotten, is_commit, is_rollback}
use Rattle.durable_records.specs.Branches.{Grant, grants, granted, is_named, is_at, next_branch}
use Rattle.durable_records.specs.Progress.{is_known, may_decide}
use Rattle.durable_records.specs.Locks.{first_held}
use Rattle.durable_records.specs.SessionOrder.{Allowed}
use Rattle.durable_records.specs.Fences.{Fence, IsTried, IsCommitted, IsRollbacked, IsSuspended, FenceAnswer, Runs, WasDone, Suspends, Refuses, fence, on_confirm, on_cancel}
use Rattle.history_rules.specs.Own.{Left, added}
use Rattle.history_rules.specs.ManagerRules.{Settings}
use Rattle.history_rules.specs.Nodes.{World, counted_at}
use Rattle.history_law.specs.Points.{In}
use Rattle.history_law.specs.Tickets.{kind_of}
use Rattle.history_law.specs.Cover.{all_of}
use Rattle.history_law.specs.EndingSafety.{IsFencedAs}
use Rattle.history_law.specs.CallSafety.{Owns, IsCallOf, HasOneTcc}
use Rattle.history_law.proofs.Tests.{false_true, true_false, none_some, and_left, and_right, and_both, not_true, false_not, nat_same, is_none_none, find_none}
use Rattle.history_law.proofs.Transactions.{numbered, next_number}
use Rattle.history_law.proofs.EndingHistory.{both_decided}

-- ---- one transaction has one manager

pub session_stays : (r : SessionRecord) (rs : List SessionRecord) (s : Session) → In s (sessions rs) → In s (sessions (r ∷ rs))
session_stays (log.Begun xid manager moment timeout) rs s i = inr i
session_stays _ rs s i = i

pub session_in_all : (tc : Left SessionRecord) (s : Session) → In s (sessions tc.records) → In s (sessions (all_of tc))
session_in_all tc s i = by tc.flight
  where
    by : (o : Option SessionRecord) → In s (sessions (added o tc.records))
    by None = i
    by (Some r) = session_stays r tc.records s i

distinct_session : (n s q : Session) (all : List Session) → n.xid ≡ length all + 1 → ((p : Session) → In p all → p.xid ≤ length all)
    → ((p r : Session) → In p all → In r all → p.xid ≡ r.xid → p ≡ r) → In s (n ∷ all) → In q (n ∷ all) → s.xid ≡ q.xid → s ≡ q
distinct_session n s q all is most one (inl e) (inl f) same = e ∙ sym f
distinct_session n s q all is most one (inl e) (inr j) same = let b : s.xid ≡ n.xid = ap (λ z. z.xid) e in let c = most q j in absurd (omega arith)
distinct_session n s q all is most one (inr i) (inl f) same = let b : q.xid ≡ n.xid = ap (λ z. z.xid) f in let c = most s i in absurd (omega arith)
distinct_session n s q all is most one (inr i) (inr j) same = one s q i j same

one_session : (rs : List SessionRecord) → Allowed rs → (s q : Session) → In s (sessions rs) → In q (sessions rs) → s.xid ≡ q.xid → s ≡ q
one_session [] a s q i j same = absurd i
one_session (log.Begun xid manager moment timeout ∷ rs) a s q i j same =
    distinct_session (record { xid = xid.0; manager = manager; begun = moment; timeout = timeout }) s q (sessions rs)
    (next_number xid.0 (next_xid rs) (is_none (session_for rs manager)) a.1) (λ p k. ((numbered rs a.0).sessions_in p k).1) (one_session rs a.0) i j same
one_session (log.Granted xid branch resource call ticket k hold ∷ rs) a s q i j same = one_session rs a.0 s q i j same
one_session (log.Decided xid d ∷ rs) a s q i j same = one_session rs a.0 s q i j same
one_session (log.Retrying xid ∷ rs) a s q i j same = one_session rs a.0 s q i j same
one_session (log.Ended xid branch ∷ rs) a s q i j same = one_session rs a.0 s q i j same
one_session (log.Failed xid branch stmt ∷ rs) a s q i j same = one_session rs a.0 s q i j same
one_session (log.Finished xid ∷ rs) a s q i j same = one_session rs a.0 s q i j same
one_session (log.Forgot xid ∷ rs) a s q i j same = one_session rs a.0 s q i j same

pub one_manager : (rs : List SessionRecord) → Allowed rs → (j k x : ℕ) → Owns rs j x → Owns rs k x → j ≡ k
one_manager rs a j k x o p = sym o.manager ∙ ap (λ z. z.manager) (one_session rs a o.began p.began o.there p.there (o.xid ∙ sym p.xid)) ∙ p.manager

-- ---- a call has one TCC branch

module _ (rs : List SessionRecord) (x resource call : ℕ) (t : Ticket) (h : Grant) where
  taken : is_forgotten rs x ≡ false → In h (grants rs) → h.kind ≡ kind.Tcc → h.xid ≡ x → h.resource ≡ resource → h.call ≡ call → granted rs x resource call t kind.Tcc ≡ None → ⊥
  taken live i hk hx hr hc none =
      let off = find_none (λ (g : Grant). not (is_forgotten rs g.xid) && is_named x resource call t kind.Tcc g) (grants rs) h none i in
      let here : not (is_forgotten rs h.xid) ≡ true = false_not (is_forgotten rs h.xid) (ap (is_forgotten rs) hx ∙ live) in
      let last = and_both (h.resource == resource) (h.call == call) (nat_same h.resource resource hr) (nat_same h.call call hc) in
      let rest = and_both (h.xid == x) ((h.resource == resource) && (h.call == call)) (nat_same h.xid x hx) last in
      let all = and_both (not (is_at h.kind)) ((h.xid == x) && ((h.resource == resource) && (h.call == call))) (ap (λ k. not (is_at k)) hk) rest in
      let on = and_both (not (is_forgotten rs h.xid)) (is_named x resource call t kind.Tcc h) here all in
      true_false (sym on ∙ off)

  granted_once : (b : ℕ) (hold : List RowKey) (k : BranchKind)
      → ((may_decide rs x && ((b == next_branch rs) && is_none (first_held rs x hold))) && is_none (granted rs x resource call t k)) ≡ true
      → k ≡ kind.Tcc → In h (grants rs) → h.kind ≡ kind.Tcc → h.xid ≡ x → h.resource ≡ resource → h.call ≡ call → ⊥
  granted_once b hold k may tcc i hk hx hr hc =
      let grant = and_left (may_decide rs x && ((b == next_branch rs) && is_none (first_held rs x hold))) (is_none (granted rs x resource call t k)) may in
      let decides = and_left (may_decide rs x) ((b == next_branch rs) && is_none (first_held rs x hold)) grant in
      let known = and_left (is_known rs x) (is_none (decided rs x)) decides in
      let live = not_true (is_forgotten rs x) (and_right (is_some (session rs x)) (not (is_forgotten rs x)) known) in
      let none = is_none_none (granted rs x resource call t k) (and_right (may_decide rs x && ((b == next_branch rs) && is_none (first_held rs x hold))) (is_none (granted rs x resource call t k)) may) in
      taken live i hk hx hr hc (subst (λ z. granted rs x resource call t z ≡ None) tcc none)

pub one_tcc : (rs : List SessionRecord) → Allowed rs → HasOneTcc rs
one_tcc [] a g h i j gk hk ex er ec = absurd i
one_tcc (log.Granted xid b resource call t k hold ∷ rs) a g h (inl is) (inl js) gk hk ex er ec = is ∙ sym js
one_tcc (log.Granted xid b resource call t k hold ∷ rs) a g h (inl is) (inr j) gk hk ex er ec =
    absurd (granted_once rs xid.0 resource call t h b.0 hold k a.1 (sym (ap (λ z. z.kind) is) ∙ gk) j hk
    (sym ex ∙ ap (λ z. z.xid) is) (sym er ∙ ap (λ z. z.resource) is) (sym ec ∙ ap (λ z. z.call) is))
one_tcc (log.Granted xid b resource call t k hold ∷ rs) a g h (inr i) (inl js) gk hk ex er ec =
    absurd (granted_once rs xid.0 resource call t g b.0 hold k a.1 (sym (ap (λ z. z.kind) js) ∙ hk) i gk
    (ex ∙ ap (λ z. z.xid) js) (er ∙ ap (λ z. z.resource) js) (ec ∙ ap (λ z. z.call) js))
one_tcc (log.Granted xid b resource call t k hold ∷ rs) a g h (inr i) (inr j) gk hk ex er ec = one_tcc rs a.0 g h i j gk hk ex er ec
one_tcc (log.Begun xid manager moment timeout ∷ rs) a g h i j gk hk ex er ec = one_tcc rs a.0 g h i j gk hk ex er ec
one_tcc (log.Decided xid d ∷ rs) a g h i j gk hk ex er ec = one_tcc rs a.0 g h i j gk hk ex er ec
one_tcc (log.Retrying xid ∷ rs) a g h i j gk hk ex er ec = one_tcc rs a.0 g h i j gk hk ex er ec
one_tcc (log.Ended xid branch ∷ rs) a g h i j gk hk ex er ec = one_tcc rs a.0 g h i j gk hk ex er ec
one_tcc (log.Failed xid branch stmt ∷ rs) a g h i j gk hk ex er ec = one_tcc rs a.0 g h i j gk hk ex er ec
one_tcc (log.Finished xid ∷ rs) a g h i j gk hk ex er ec = one_tcc rs a.0 g h i j gk hk ex er ec
one_tcc (log.Forgot xid ∷ rs) a g h i j gk hk ex er ec = one_tcc rs a.0 g h i j gk hk ex er ec

-- ---- one call goes to one resource and is of one kind

one_settings : (p q : Settings) → Some p ≡ Some q → p ≡ q
one_settings p q e = cc

one_slot : (a b : ℕ × Work) → Some a ≡ Some b → a ≡ b
one_slot a b e = cc

pub same_call : (w : World) (rs : List SessionRecord) → Allowed rs → (x c r q : ℕ) (k j : BranchKind) → IsCallOf w rs x c r k → IsCallOf w rs x c q j → (r ≡ q) × (k ≡ j)
same_call w rs allowed x c r q k j a b =
    let one : a.manager ≡ b.manager = one_manager rs allowed a.manager b.manager x a.owns b.owns in
    let settings : a.settings ≡ b.settings = one_settings a.settings b.settings (sym a.known ∙ ap (counted_at w.managers) one ∙ b.known) in
    let before : a.before ≡ b.before = let e : c ≡ a.before + 1 = a.index in let f : c ≡ b.before + 1 = b.index in omega arith in
    let slot = one_slot (r, a.work) (q, b.work) (sym a.is ∙ ap (λ (z : Settings). slice_get z.calls a.before) settings ∙ ap (slice_get b.settings.calls) before ∙ b.is) in
    (ap (λ (z : ℕ × Work). z.0) slot, sym a.of_kind ∙ ap (λ (z : ℕ × Work). kind_of z.1) slot ∙ b.of_kind)

-- the number of a call is at most that of all calls
pub slot_low : {A : Type 0} (xs : List A) (n : ℕ) (a : A) → slice_get xs n ≡ Some a → n < length xs
slot_low [] n a e = none_some e
slot_low (x ∷ xs) zero a e = omega arith
slot_low (x ∷ xs) (suc n) a e = let k = slot_low xs n a e in omega arith

pub call_low : (w : World) (rs : List SessionRecord) → Allowed rs → (x c r : ℕ) (k : BranchKind) (a : IsCallOf w rs x c r k) (manager : ℕ) (settings : Settings)
    → Owns rs manager x → counted_at w.managers manager ≡ Some settings → (0 < c) × (c ≤ length settings.calls)
call_low w rs allowed x c r k a manager settings owns known =
    let one : a.manager ≡ manager = one_manager rs allowed a.manager manager x a.owns owns in
    let same : a.settings ≡ settings = one_settings a.settings settings (sym a.known ∙ ap (counted_at w.managers) one ∙ known) in
    let low : a.before < length settings.calls = subst (λ (z : Settings). a.before < length z.calls) same (slot_low a.settings.calls a.before (r, a.work) a.is) in
    let index : c ≡ a.before + 1 = a.index in
    (omega arith, omega arith)

-- ---- a tried branch has a fence

some_either : (t : Bool) (here : Fence) (f : Option Fence) → is_some f ≡ true → is_some (if t then Some here else f) ≡ true
some_either true here f e = refl
some_either false here f e = e

fence_kept : (r : ResourceRecord) (rs : List ResourceRecord) (x b : ℕ) → is_some (fence rs x b) ≡ true → is_some (fence (r ∷ rs) x b) ≡ true
fence_kept (resource_log.Tried xid br call images) rs x b e = some_either ((xid.0 == x) && (br.0 == b)) IsTried (fence rs x b) e
fence_kept (resource_log.Confirmed xid br images) rs x b e = some_either ((xid.0 == x) && (br.0 == b)) IsCommitted (fence rs x b) e
fence_kept (resource_log.Cancelled xid br images) rs x b e = some_either ((xid.0 == x) && (br.0 == b)) IsRollbacked (fence rs x b) e
fence_kept (resource_log.Suspended xid br) rs x b e = some_either ((xid.0 == x) && (br.0 == b)) IsSuspended (fence rs x b) e
fence_kept _ rs x b e = e

pub tried_fence : (rs : List ResourceRecord) (xid : Xid) (b : BranchId) (c : ℕ) (images : List Image) → In (resource_log.Tried xid b c images) rs → is_some (fence rs xid.0 b.0) ≡ true
tried_fence [] xid b c images i = absurd i
tried_fence (r ∷ rs) xid b c images (inl is) =
    subst (λ z. is_some (fence (z ∷ rs) xid.0 b.0) ≡ true) is
    (ap (λ t. is_some (if t then Some IsTried else fence rs xid.0 b.0)) (and_both (xid.0 == xid.0) (b.0 == b.0) (nat_same xid.0 xid.0 refl) (nat_same b.0 b.0 refl)))
tried_fence (r ∷ rs) xid b c images (inr i) = fence_kept r rs xid.0 b.0 (tried_fence rs xid b c images i)

-- ---- a fence that refuses

abbrev refuses : FenceAnswer → Bool
refuses Refuses = true
refuses _ = false

never : {A : Type 0} (p : FenceAnswer) → refuses p ≡ false → p ≡ Refuses → A
never p off e = true_false (sym (ap refuses e) ∙ off)

-- of a commit's branch that has a fence, and of a rollback's
pub confirm_refused : (d : Option Decision) (f : Option Fence) → IsFencedAs d f → is_commit d ≡ true → is_some f ≡ true → on_confirm f ≡ Refuses → ⊥
confirm_refused d None was commit some e = false_true some
confirm_refused d (Some IsTried) was commit some e = never Runs refl e
confirm_refused d (Some IsCommitted) was commit some e = never WasDone refl e
confirm_refused d (Some IsRollbacked) was commit some e = both_decided d commit was
confirm_refused d (Some IsSuspended) was commit some e = both_decided d commit was

pub cancel_refused : (d : Option Decision) (f : Option Fence) → IsFencedAs d f → is_rollback d ≡ true → on_cancel f ≡ Refuses → ⊥
cancel_refused d None was rollback e = never Suspends refl e
cancel_refused d (Some IsTried) was rollback e = never Runs refl e
cancel_refused d (Some IsCommitted) was rollback e = both_decided d was rollback
cancel_refused d (Some IsRollbacked) was rollback e = never WasDone refl e
cancel_refused d (Some IsSuspended) was rollback e = never WasDone refl e
