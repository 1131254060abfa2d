-- Branches: each has its own number and ends after its grant; and a decision stays.
use Rattle.std.proofs.Common.{◌≡◌, inl, inr, ◌+◌, ◌≤◌, ◌==◌, ◌&&◌, ℕ, Bool, true, false, if◌then◌else◌, List, [], ◌∷◌, length, Option, Some, None, is_none, refl, ap, sym, ◌∙◌, arith}
use Rattle.seata_types.specs.declared.statuses.Decision.{Decision}
use Rattle.durable_records.specs.declared.coordinators.SessionRecord.{SessionRecord}
use Rattle.durable_records.specs.declared.coordinators.SessionRecord.TheVariants as log
use Rattle.durable_records.specs.Transactions.{decided}
use Rattle.durable_records.specs.Branches.{Grant, grants, branches, is_unended, unended, next_branch, granted}
use Rattle.durable_records.specs.Progress.{may_decide}
use Rattle.durable_records.specs.Locks.{first_held}
use Rattle.durable_records.specs.SessionOrder.{May, Allowed}
use Rattle.history_rules.specs.Own.{Left, added}
use Rattle.history_law.specs.Points.{In}
use Rattle.history_law.proofs.Tests.{false_true, and_left, and_right, same_nat, moved, of_filter}
use Rattle.history_law.proofs.Transactions.{numbered, next_number, decide_none}
use Rattle.history_law.specs.Cover.{all_of}

pub grant_stays : (r : SessionRecord) (rs : List SessionRecord) (g : Grant) → In g (grants rs) → In g (grants (r ∷ rs))
grant_stays (log.Granted xid branch resource call ticket kind hold) rs g i = inr i
grant_stays _ rs g i = i

-- ---- numbers

distinct_more : (g h k : Grant) (gs : List Grant) → g.branch ≡ length gs + 1 → ((q : Grant) → In q gs → q.branch ≤ length gs)
    → ((p q : Grant) → In p gs → In q gs → p.branch ≡ q.branch → p ≡ q) → In h (g ∷ gs) → In k (g ∷ gs) → h.branch ≡ k.branch → h ≡ k
distinct_more g h k gs is most one (inl e) (inl f) same = e ∙ sym f
distinct_more g h k gs is most one (inl e) (inr j) same = let b : h.branch ≡ g.branch = ap (λ q. q.branch) e in let c = most k j in absurd (omega arith)
distinct_more g h k gs is most one (inr i) (inl f) same = let b : k.branch ≡ g.branch = ap (λ q. q.branch) f in let c = most h i in absurd (omega arith)
distinct_more g h k gs is most one (inr i) (inr j) same = one h k i j same

-- two branches of one number are one
pub one_branch : (rs : List SessionRecord) → Allowed rs → (g h : Grant) → In g (grants rs) → In h (grants rs) → g.branch ≡ h.branch → g ≡ h
one_branch [] a g h i j same = absurd i
one_branch (log.Granted xid branch resource call ticket kind hold ∷ rs) a g h i j same =
    let grant = and_left (may_decide rs xid.0 && ((branch.0 == next_branch rs) && is_none (first_held rs xid.0 hold))) (is_none (granted rs xid.0 resource call ticket kind)) a.1 in
    distinct_more (record { xid = xid.0; branch = branch.0; resource = resource; call = call; ticket = ticket; kind = kind; hold = hold }) g h (grants rs)
    (next_number branch.0 (next_branch rs) (is_none (first_held rs xid.0 hold)) (and_right (may_decide rs xid.0) ((branch.0 == next_branch rs) && is_none (first_held rs xid.0 hold)) grant))
    (λ q k. ((numbered rs a.0).grants_in q k).1) (one_branch rs a.0) i j same
one_branch (log.Begun xid manager moment timeout ∷ rs) a g h i j same = one_branch rs a.0 g h i j same
one_branch (log.Decided xid d ∷ rs) a g h i j same = one_branch rs a.0 g h i j same
one_branch (log.Retrying xid ∷ rs) a g h i j same = one_branch rs a.0 g h i j same
one_branch (log.Ended xid branch ∷ rs) a g h i j same = one_branch rs a.0 g h i j same
one_branch (log.Failed xid branch stmt ∷ rs) a g h i j same = one_branch rs a.0 g h i j same
one_branch (log.Finished xid ∷ rs) a g h i j same = one_branch rs a.0 g h i j same
one_branch (log.Forgot xid ∷ rs) a g h i j same = one_branch rs a.0 g h i j same

-- ---- ends

-- branch b of x was granted
abbrev pub IsThere : List SessionRecord → ℕ → ℕ → Type 0
IsThere rs x b = (g : Grant) × (In g (grants rs)) × (g.xid ≡ x) × (g.branch ≡ b)

pub unended_there : (rs : List SessionRecord) (x : ℕ) (g : Grant) → In g (unended rs x) → In g (grants rs) × (g.xid ≡ x)
unended_there rs x g i =
    let u = of_filter (is_unended rs) (branches rs x) g i in
    let o = of_filter (λ h. h.xid == x) (grants rs) g u.0 in (o.0, same_nat g.xid x o.1)

-- ---- a decision stays

decision_stays : (test : Option Decision → Bool) → test None ≡ false → (b : Bool) (d : Decision) (before : Option Decision) → (b ≡ true → before ≡ None) → test before ≡ true
    → test (if b then Some d else before) ≡ true
decision_stays test none true d before undecided e = false_true (sym none ∙ sym (ap test (undecided refl)) ∙ e)
decision_stays test none false d before undecided e = e

pub stays_decided : (test : Option Decision → Bool) → test None ≡ false → (rs : List SessionRecord) (x : ℕ) (r : SessionRecord) → May rs r → test (decided rs x) ≡ true → test (decided (r ∷ rs) x) ≡ true
stays_decided test none rs x (log.Decided xid d) may e =
    decision_stays test none (xid.0 == x) d (decided rs x) (λ f. decide_none rs x (moved (λ n. may_decide rs n ≡ true) xid.0 x may f)) e
stays_decided test none rs x (log.Begun xid manager moment timeout) may e = e
stays_decided test none rs x (log.Granted xid branch resource call ticket kind hold) may e = e
stays_decided test none rs x (log.Retrying xid) may e = e
stays_decided test none rs x (log.Ended xid branch) may e = e
stays_decided test none rs x (log.Failed xid branch stmt) may e = e
stays_decided test none rs x (log.Finished xid) may e = e
stays_decided test none rs x (log.Forgot xid) may e = e

-- ---- with the record in flight

pub in_all : (tc : Left SessionRecord) (g : Grant) → In g (grants tc.records) → In g (grants (all_of tc))
in_all tc g i = by tc.flight
  where
    by : (o : Option SessionRecord) → In g (grants (added o tc.records))
    by None = i
    by (Some r) = grant_stays r tc.records g i

pub decided_in_all : (test : Option Decision → Bool) → test None ≡ false → (tc : Left SessionRecord) → Allowed (all_of tc) → (x : ℕ) → test (decided tc.records x) ≡ true → test (decided (all_of tc) x) ≡ true
decided_in_all test none tc a x e = by tc.flight a
  where
    by : (o : Option SessionRecord) → Allowed (added o tc.records) → test (decided (added o tc.records) x) ≡ true
    by None a = e
    by (Some r) a = stays_decided test none tc.records x r a.1 e
