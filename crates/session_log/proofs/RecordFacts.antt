-- What is known of records of the coordinator that may come after one another.
use Rattle.std.proofs.Common.{◌≡◌, inl, inr, ℕ, ◌≤◌, ◌==◌, ◌&&◌, not, Bool, true, false, if◌then◌else◌, List, [], ◌∷◌, length, Option, Some, None, is_some, is_none, refl, ap, sym, subst, ◌∙◌, arith}
use Rattle.std.proofs.lemmas.Bool.{and_from, eqb-true, eq-eqb}
use Rattle.seata_types.specs.declared.statuses.BranchKind.{BranchKind}
use Rattle.seata_types.specs.declared.statuses.BranchKind.TheVariants as kind
use Rattle.seata_types.specs.declared.statuses.Decision.{Decision}
use Rattle.seata_types.specs.declared.statuses.Decision.TheVariants as how
use Rattle.durable_records.specs.declared.coordinators.SessionRecord.{SessionRecord}
use Rattle.durable_records.specs.declared.coordinators.SessionRecord.TheVariants as log
use Rattle.durable_records.specs.Transactions.{Session as Began, sessions, session_for, has_manager, next_xid, decided, is_forgotten, failed}
use Rattle.durable_records.specs.Branches.{Grant, grants, branches, granted, is_named, is_at, all_at, same_ticket, is_ended, is_unended, unended, unended_branch}
use Rattle.durable_records.specs.Progress.{Progress, Goes, Retries, IsFailed, IsDone, progress, status_by, status_of, is_known, is_on, is_going, has_retrying}
use Rattle.durable_records.specs.SessionOrder.{Allowed, is_empty}
use Rattle.durable_records.proofs.MemberFacts.{counted_in}
use Rattle.durable_records.proofs.RecordFacts.{known, numbered, began_xid, grant_branch, begin_next, begin_new, grant_undecided, grant_new, going_decided, going_on, end_going}
use Rattle.durable_records.proofs.Tests.{and_left, and_right, not_true, false_not, is_none_none, moved}
use Rattle.session_log.proofs.Members.{false_true, In, Pairs, IsSymmetric, of_filter, in_filter, none_passes, member, pairs_more}

-- ---- counts

pub few_sessions : (rs : List SessionRecord) → length (sessions rs) ≤ length rs
few_sessions [] = omega arith
few_sessions (log.Begun xid manager begun timeout ∷ rs) = let n = few_sessions rs in omega (arith, n)
few_sessions (r ∷ rs) = let n = few_sessions rs in omega (arith, n)

pub few_grants : (rs : List SessionRecord) → length (grants rs) ≤ length rs
few_grants [] = omega arith
few_grants (log.Granted xid branch resource call ticket k hold ∷ rs) = let n = few_grants rs in omega (arith, n)
few_grants (r ∷ rs) = let n = few_grants rs in omega (arith, n)

-- ---- numbers, and what stands once

pub sessions_low : (rs : List SessionRecord) → Allowed rs → (s : Began) → In s (sessions rs) → s.xid ≤ length (sessions rs)
sessions_low rs a s i = (counted_in began_xid (sessions rs) (numbered rs a).began s i).1

pub grants_low : (rs : List SessionRecord) → Allowed rs → (g : Grant) → In g (grants rs) → g.branch ≤ length (grants rs)
grants_low rs a g i = (counted_in grant_branch (grants rs) (numbered rs a).branched g i).1

-- two transactions have two numbers and two managers
pub record Other (s q : Began) : Type 0 where
  pub xid : s.xid ≡ q.xid → ⊥
  pub manager : s.manager ≡ q.manager → ⊥

pub other_symmetric : IsSymmetric Other
other_symmetric s q o = record { xid = λ e. o.xid (sym e); manager = λ e. o.manager (sym e) }

pub sessions_differ : (rs : List SessionRecord) → Allowed rs → Pairs Other (sessions rs)
sessions_differ [] a = tt
sessions_differ (log.Begun xid manager begun timeout ∷ rs) a =
    let number : xid.0 ≡ next_xid rs = begin_next rs xid.0 manager a.1 in
    let new : is_some (session_for rs manager) ≡ false = ap is_some (begin_new rs xid.0 manager a.1) in (
      λ q i. record {
        xid = λ e. let low = sessions_low rs a.0 q i in absurd (omega (arith, number, e, low));
        manager = λ e. false_true (sym (none_passes (has_manager manager) (sessions rs) q new i) ∙ eq-eqb q.manager manager (sym e));
      },
      sessions_differ rs a.0,
    )
sessions_differ (r ∷ rs) a = sessions_differ rs a.0

-- ---- where a transaction is done, its branches are ended

not_done : {A : Type 0} (p : Progress) → p ≡ IsDone → p ≡ Goes → A
not_done p done goes = absurd (let no : Goes ≡ IsDone = sym goes ∙ done in cc)

empty_none : (g : Grant) (gs : List Grant) → is_empty gs ≡ true → In g gs → ⊥
empty_none g [] e i = i
empty_none g (h ∷ gs) e i = false_true e

ends_too : (t : Bool) (before : Bool) → before ≡ true → (if t then true else before) ≡ true
ends_too true before e = refl
ends_too false before e = e

done_before : (t : Bool) (here before : Progress) → (here ≡ IsDone → ⊥) → (if t then here else before) ≡ IsDone → before ≡ IsDone
done_before true here before not e = absurd (not e)
done_before false here before not e = e

ended_or_not : (rs : List SessionRecord) (x : ℕ) (g : Grant) → is_empty (unended rs x) ≡ true → In g (branches rs x) → (b : Bool) → is_ended rs g.xid g.branch ≡ b → is_ended rs g.xid g.branch ≡ true
ended_or_not rs x g empty of_x true e = e
ended_or_not rs x g empty of_x false e = absurd (empty_none g (unended rs x) empty (in_filter (is_unended rs) (branches rs x) g of_x (false_not (is_ended rs g.xid g.branch) e)))

finished_ends : (rs : List SessionRecord) (y x : ℕ) (g : Grant) → In g (branches rs x) → g.xid ≡ x → is_empty (unended rs y) ≡ true → (progress rs x ≡ IsDone → is_ended rs x g.branch ≡ true) →
    (t : Bool) → (y == x) ≡ t → (if t then IsDone else progress rs x) ≡ IsDone → is_ended rs x g.branch ≡ true
finished_ends rs y x g i of empty below false t e = below e
finished_ends rs y x g i of empty below true t e =
    let none : is_empty (unended rs x) ≡ true = subst (λ (q : ℕ). is_empty (unended rs q) ≡ true) (eqb-true y x t) empty in
    subst (λ (q : ℕ). is_ended rs q g.branch ≡ true) of (ended_or_not rs x g none i (is_ended rs g.xid g.branch) refl)

pub done_ended : (rs : List SessionRecord) → Allowed rs → (x : ℕ) (g : Grant) → progress rs x ≡ IsDone → In g (grants rs) → g.xid ≡ x → is_ended rs x g.branch ≡ true
done_ended [] a x g done i of = absurd i
done_ended (log.Granted xid branch resource call ticket k hold ∷ rs) a x g done (inl e) of =
    let here : xid.0 ≡ x = sym (ap (λ (z : Grant). z.xid) e) ∙ of in
    let none : decided rs x ≡ None = subst (λ (q : ℕ). decided rs q ≡ None) here (grant_undecided rs xid.0 branch.0 hold (is_none (granted rs xid.0 resource call ticket k)) a.1) in
    not_done (progress rs x) done (((known rs a.0 x).undecided none).0)
done_ended (log.Granted xid branch resource call ticket k hold ∷ rs) a x g done (inr i) of = done_ended rs a.0 x g done i of
done_ended (log.Retrying xid ∷ rs) a x g done i of = done_ended rs a.0 x g (done_before (xid.0 == x) Retries (progress rs x) (λ e. absurd cc) done) i of
done_ended (log.Ended xid branch ∷ rs) a x g done i of = ends_too ((xid.0 == x) && (branch.0 == g.branch)) (is_ended rs x g.branch) (done_ended rs a.0 x g done i of)
done_ended (log.Failed xid branch stmt ∷ rs) a x g done i of = done_ended rs a.0 x g (done_before (xid.0 == x) IsFailed (progress rs x) (λ e. absurd cc) done) i of
done_ended (log.Finished xid ∷ rs) a x g done i of =
    finished_ends rs xid.0 x g (in_filter (λ h. h.xid == x) (grants rs) g i (eq-eqb g.xid x of)) of (and_right (is_going rs xid.0) (is_empty (unended rs xid.0)) a.1) (λ d. done_ended rs a.0 x g d i of) (xid.0 == x) refl done
done_ended (r ∷ rs) a x g done i of = done_ended rs a.0 x g done i of

-- ---- failures

far_before : (t : Bool) (here before far : Progress) → (here ≡ far → ⊥) → (if t then here else before) ≡ far → before ≡ far
far_before true here before far not e = absurd (not e)
far_before false here before far not e = e

failed_by : (t : Bool) (failure : ℕ × ℕ) (before : Option (ℕ × ℕ)) (far : Progress) → (before ≡ None → far ≡ IsFailed → ⊥) → (if t then Some failure else before) ≡ None → (if t then IsFailed else far) ≡ IsFailed → ⊥
failed_by true failure before far below e p = absurd cc
failed_by false failure before far below e p = below e p

pub not_failed : (rs : List SessionRecord) → Allowed rs → (x : ℕ) → failed rs x ≡ None → progress rs x ≡ IsFailed → ⊥
not_failed [] a x e p = absurd cc
not_failed (log.Retrying xid ∷ rs) a x e p = not_failed rs a.0 x e (far_before (xid.0 == x) Retries (progress rs x) IsFailed (λ q. absurd cc) p)
not_failed (log.Failed xid branch stmt ∷ rs) a x e p = failed_by (xid.0 == x) (branch.0, stmt) (failed rs x) (progress rs x) (not_failed rs a.0 x) e p
not_failed (log.Finished xid ∷ rs) a x e p = not_failed rs a.0 x e (far_before (xid.0 == x) IsDone (progress rs x) IsFailed (λ q. absurd cc) p)
not_failed (r ∷ rs) a x e p = not_failed rs a.0 x e p

-- x failed at its branch b, which isn't ended
pub record FailsBy (far : Progress) (decision : Option Decision) (all : List Grant) (ended : Bool) (x b : ℕ) : Type 0 where
  pub is_far : far ≡ IsFailed
  pub is_decided : is_some decision ≡ true
  pub branch : Grant
  pub there : In branch all
  pub of : branch.xid ≡ x
  pub number : branch.branch ≡ b
  pub unended_now : ended ≡ false

abbrev pub Fails : List SessionRecord → ℕ → ℕ → Type 0
Fails rs x b = FailsBy (progress rs x) (decided rs x) (grants rs) (is_ended rs x b) x b

module _ {far : Progress} {decision : Option Decision} {all : List Grant} {ended : Bool} {x b : ℕ} (f : FailsBy far decision all ended x b) where
  fails_more : (g : Grant) → FailsBy far decision (g ∷ all) ended x b
  fails_more g = record { is_far = f.is_far; is_decided = f.is_decided; branch = f.branch; there = inr f.there; of = f.of; number = f.number; unended_now = f.unended_now }

  fails_decided : (t : Bool) (how : Decision) → FailsBy far (if t then Some how else decision) all ended x b
  fails_decided true how = record { is_far = f.is_far; is_decided = refl; branch = f.branch; there = f.there; of = f.of; number = f.number; unended_now = f.unended_now }
  fails_decided false how = f

  fails_on : (t : Bool) (here : Progress) → (t ≡ true → far ≡ IsFailed → ⊥) → FailsBy (if t then here else far) decision all ended x b
  fails_on true here not = absurd (not refl f.is_far)
  fails_on false here not = f

  fails_ended : (t c : Bool) → (t ≡ true → far ≡ IsFailed → ⊥) → FailsBy far decision all (if t && c then true else ended) x b
  fails_ended true c not = absurd (not refl f.is_far)
  fails_ended false c not = f

no_retry : (known at : Bool) (d : Option Decision) → has_retrying (if known then status_by at d IsFailed else Rattle.seata_types.specs.declared.statuses.GlobalStatus.TheVariants.Finished) ≡ false
no_retry false at d = refl
no_retry true at None = refl
no_retry true at (Some how.Commit) = refl
no_retry true at (Some how.Rollback) = refl
no_retry true at (Some how.Timeout) = refl

retries_not : (rs : List SessionRecord) (y x : ℕ) → has_retrying (status_of rs y) ≡ true → (y == x) ≡ true → progress rs x ≡ IsFailed → ⊥
retries_not rs y x may same far =
    let here : progress rs y ≡ IsFailed = ap (λ (z : ℕ). progress rs z) (eqb-true y x same) ∙ far in
    false_true (sym (no_retry (is_known rs y) (all_at (branches rs y)) (decided rs y)) ∙ sym (ap (λ p. has_retrying (if is_known rs y then status_by (all_at (branches rs y)) (decided rs y) p else Rattle.seata_types.specs.declared.statuses.GlobalStatus.TheVariants.Finished)) here) ∙ may)

goes_not : (rs : List SessionRecord) (y x : ℕ) → is_going rs y ≡ true → (y == x) ≡ true → progress rs x ≡ IsFailed → ⊥
goes_not rs y x going same far = false_true (sym (ap is_on far) ∙ going_on rs x (moved (λ n. is_going rs n ≡ true) y x going same))

fails_now : (rs : List SessionRecord) (x b : ℕ) → (is_going rs x && is_some (unended_branch rs x b)) ≡ true → FailsBy IsFailed (decided rs x) (grants rs) (is_ended rs x b) x b
fails_now rs x b may =
    let found = member (λ g. g.branch == b) (unended rs x) (and_right (is_going rs x) (is_some (unended_branch rs x b)) may) in
    let left = of_filter (is_unended rs) (branches rs x) found.0 found.1 in
    let here = of_filter (λ g. g.xid == x) (grants rs) found.0 left.0 in
    let of : found.0.xid ≡ x = eqb-true found.0.xid x here.1 in
    let number : found.0.branch ≡ b = eqb-true found.0.branch b found.2 in
    record {
      is_far = refl;
      is_decided = going_decided rs x (end_going rs x b may);
      branch = found.0;
      there = here.0;
      of = of;
      number = number;
      unended_now = ap (λ (y : ℕ). is_ended rs y b) (sym of) ∙ ap (λ (c : ℕ). is_ended rs found.0.xid c) (sym number) ∙ not_true (is_ended rs found.0.xid found.0.branch) left.1;
    }

fails_by : (rs : List SessionRecord) (y x c s : ℕ) (f : ℕ × ℕ) (t : Bool) → (y == x) ≡ t → (is_going rs y && is_some (unended_branch rs y c)) ≡ true → (failed rs x ≡ Some f → Fails rs x f.0) →
    (if t then Some (c, s) else failed rs x) ≡ Some f → FailsBy (if t then IsFailed else progress rs x) (decided rs x) (grants rs) (is_ended rs x f.0) x f.0
fails_by rs y x c s f true same may below e =
    let is : (c, s) ≡ f = cc in
    let at : c ≡ f.0 = ap (λ (p : ℕ × ℕ). p.0) is in
    subst (λ (b : ℕ). FailsBy IsFailed (decided rs x) (grants rs) (is_ended rs x b) x b) at
    (fails_now rs x c (subst (λ (z : ℕ). (is_going rs z && is_some (unended_branch rs z c)) ≡ true) (eqb-true y x same) may))
fails_by rs y x c s f false same may below e = below e

pub fails : (rs : List SessionRecord) → Allowed rs → (x : ℕ) (f : ℕ × ℕ) → failed rs x ≡ Some f → Fails rs x f.0
fails [] a x f e = absurd cc
fails (log.Granted xid branch resource call ticket k hold ∷ rs) a x f e =
    fails_more (fails rs a.0 x f e) (record { xid = xid.0; branch = branch.0; resource = resource; call = call; ticket = ticket; kind = k; hold = hold })
fails (log.Decided xid d ∷ rs) a x f e = fails_decided (fails rs a.0 x f e) (xid.0 == x) d
fails (log.Retrying xid ∷ rs) a x f e = fails_on (fails rs a.0 x f e) (xid.0 == x) Retries (retries_not rs xid.0 x a.1)
fails (log.Ended xid branch ∷ rs) a x f e = fails_ended (fails rs a.0 x f e) (xid.0 == x) (branch.0 == f.0) (goes_not rs xid.0 x (end_going rs xid.0 branch.0 a.1))
fails (log.Failed xid branch stmt ∷ rs) a x f e = fails_by rs xid.0 x branch.0 stmt f (xid.0 == x) refl a.1 (fails rs a.0 x f) e
fails (log.Finished xid ∷ rs) a x f e = fails_on (fails rs a.0 x f e) (xid.0 == x) IsDone (goes_not rs xid.0 x (and_left (is_going rs xid.0) (is_empty (unended rs xid.0)) a.1))
fails (r ∷ rs) a x f e = fails rs a.0 x f e

-- ---- what was granted once

-- what a registration of this kind names
abbrev pub Names : BranchKind → Grant → Grant → Type 0
Names kind.At g h = (g.resource ≡ h.resource) × (g.ticket.boot ≡ h.ticket.boot) × (g.ticket.seq ≡ h.ticket.seq)
Names kind.Tcc g h = (g.xid ≡ h.xid) × (g.resource ≡ h.resource) × (g.call ≡ h.call)

names_symmetric : (k : BranchKind) (g h : Grant) → Names k g h → Names k h g
names_symmetric kind.At g h n = (sym n.0, sym n.1, sym n.2)
names_symmetric kind.Tcc g h n = (sym n.0, sym n.1, sym n.2)

named : (k : BranchKind) (g h : Grant) → h.kind ≡ k → Names k g h → is_named g.xid g.resource g.call g.ticket k h ≡ true
named kind.At g h is n =
    and_from (is_at h.kind) ((h.resource == g.resource) && same_ticket h.ticket g.ticket) (ap is_at is)
    (and_from (h.resource == g.resource) (same_ticket h.ticket g.ticket) (eq-eqb h.resource g.resource (sym n.0))
    (and_from (h.ticket.boot == g.ticket.boot) (h.ticket.seq == g.ticket.seq) (eq-eqb h.ticket.boot g.ticket.boot (sym n.1)) (eq-eqb h.ticket.seq g.ticket.seq (sym n.2))))
named kind.Tcc g h is n =
    and_from (not (is_at h.kind)) ((h.xid == g.xid) && ((h.resource == g.resource) && (h.call == g.call))) (ap (λ (z : BranchKind). not (is_at z)) is)
    (and_from (h.xid == g.xid) ((h.resource == g.resource) && (h.call == g.call)) (eq-eqb h.xid g.xid (sym n.0))
    (and_from (h.resource == g.resource) (h.call == g.call) (eq-eqb h.resource g.resource (sym n.1)) (eq-eqb h.call g.call (sym n.2))))

-- two branches of transactions that aren't forgotten name the same
pub record ClashBy (forgotten : ℕ → Bool) (k : BranchKind) (g h : Grant) : Type 0 where
  pub first : forgotten g.xid ≡ false
  pub second : forgotten h.xid ≡ false
  pub of_first : g.kind ≡ k
  pub of_second : h.kind ≡ k
  pub names : Names k g h

abbrev pub Apart : (ℕ → Bool) → BranchKind → Grant → Grant → Type 0
Apart forgotten k g h = ClashBy forgotten k g h → ⊥

pub apart_symmetric : (forgotten : ℕ → Bool) (k : BranchKind) → IsSymmetric (Apart forgotten k)
apart_symmetric forgotten k g h apart c = apart (record { first = c.second; second = c.first; of_first = c.of_second; of_second = c.of_first; names = names_symmetric k h g c.names })

granted_once : (rs : List SessionRecord) (g h : Grant) (k : BranchKind) → is_some (granted rs g.xid g.resource g.call g.ticket g.kind) ≡ false → In h (grants rs) → Apart (λ x. is_forgotten rs x) k g h
granted_once rs g h k none i c =
    let off = none_passes (λ (q : Grant). not (is_forgotten rs q.xid) && is_named g.xid g.resource g.call g.ticket g.kind q) (grants rs) h none i in
    let here = subst (λ (z : BranchKind). is_named g.xid g.resource g.call g.ticket z h ≡ true) (sym c.of_first) (named k g h c.of_second c.names) in
    false_true (sym off ∙ and_from (not (is_forgotten rs h.xid)) (is_named g.xid g.resource g.call g.ticket g.kind h) (false_not (is_forgotten rs h.xid) c.second) here)

kept_before : (t before : Bool) → (if t then true else before) ≡ false → before ≡ false
kept_before true before e = false_true (sym e)
kept_before false before e = e

pub grants_differ : (rs : List SessionRecord) → Allowed rs → (k : BranchKind) → Pairs (Apart (λ x. is_forgotten rs x) k) (grants rs)
grants_differ [] a k = tt
grants_differ (log.Granted xid branch resource call ticket of hold ∷ rs) a k = (
  λ h i. granted_once rs (record { xid = xid.0; branch = branch.0; resource = resource; call = call; ticket = ticket; kind = of; hold = hold }) h k
      (ap is_some (is_none_none (granted rs xid.0 resource call ticket of) (grant_new rs xid.0 branch.0 hold (is_none (granted rs xid.0 resource call ticket of)) a.1))) i,
  grants_differ rs a.0 k,
)
grants_differ (log.Forgot xid ∷ rs) a k =
    pairs_more (Apart (λ x. is_forgotten rs x) k) (Apart (λ x. if xid.0 == x then true else is_forgotten rs x) k) (grants rs)
    (λ g h apart c. apart (record {
      first = kept_before (xid.0 == g.xid) (is_forgotten rs g.xid) c.first;
      second = kept_before (xid.0 == h.xid) (is_forgotten rs h.xid) c.second;
      of_first = c.of_first;
      of_second = c.of_second;
      names = c.names;
    })) (grants_differ rs a.0 k)
grants_differ (r ∷ rs) a k = grants_differ rs a.0 k
