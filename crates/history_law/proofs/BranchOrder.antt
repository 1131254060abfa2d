-- The branches of a transaction that is rolled back are asked from the last one on, and no branch is of transaction 0.
use Rattle.std.proofs.Common.{◌≡◌, inl, inr, ◌+◌, ◌<◌, ◌==◌, ◌&&◌, ℕ, Bool, true, false, cond, if◌then◌else◌, List, [], ◌∷◌, length, filter, Option, Some, None, is_none, refl, ap, sym, subst, ◌∙◌, arith}
use Rattle.seata_types.specs.declared.ids.BranchId.{BranchId}
use Rattle.seata_types.specs.declared.ids.Ticket.{Ticket}
use Rattle.seata_types.specs.declared.ids.Xid.{Xid}
use Rattle.seata_types.specs.declared.rows.RowKey.{RowKey}
use Rattle.seata_types.specs.declared.statuses.BranchKind.{BranchKind}
use Rattle.durable_records.specs.declared.coordinators.SessionRecord.{SessionRecord}
use Rattle.durable_records.specs.declared.coordinators.SessionRecord.TheVariants as log
use Rattle.durable_records.specs.Transactions.{sessions, session, decided, has_xid, is_rollback}
use Rattle.durable_records.specs.Branches.{Grant, grants, granted, branches, is_ended, is_unended, next_branch, unended}
use Rattle.durable_records.specs.Progress.{may_decide}
use Rattle.durable_records.specs.Locks.{first_held}
use Rattle.durable_records.specs.SessionOrder.{Allowed, May}
use Rattle.history_rules.specs.Own.{Left, added}
use Rattle.history_rules.specs.CoordinatorRules.{first_of, next_asked}
use Rattle.history_law.specs.Points.{In}
use Rattle.history_law.specs.Cover.{all_of}
use Rattle.history_law.proofs.Tests.{true_false, and_left, and_right, false_not, same_nat, nat_same, found_in, some_found, in_filter, of_filter}
use Rattle.history_law.proofs.Transactions.{decide_begun, decide_none, numbered, next_number}
use Rattle.history_law.proofs.Branches.{stays_decided}

-- ---- a grant

-- a branch is granted to an undecided transaction, with the next number
pub record NewBranch (rs : List SessionRecord) (x b : ℕ) : Type 0 where
  pub may : may_decide rs x ≡ true
  pub number : b ≡ length (grants rs) + 1

pub new_branch : (rs : List SessionRecord) (xid : Xid) (branch : BranchId) (resource call : ℕ) (ticket : Ticket)
    (kind : BranchKind) (hold : List RowKey)
    → May rs (log.Granted xid branch resource call ticket kind hold) → NewBranch rs xid.0 branch.0
new_branch rs xid branch resource call ticket kind hold may =
    let grant = and_left (may_decide rs xid.0 && ((branch.0 == next_branch rs) && is_none (first_held rs xid.0 hold))) (is_none (granted rs xid.0 resource call ticket kind)) may in
    record {
      may = and_left (may_decide rs xid.0) ((branch.0 == next_branch rs) && is_none (first_held rs xid.0 hold)) grant;
      number = next_number branch.0 (next_branch rs) (is_none (first_held rs xid.0 hold)) (and_right (may_decide rs xid.0) ((branch.0 == next_branch rs) && is_none (first_held rs xid.0 hold)) grant);
    }

-- ---- no transaction has number 0

no_zero : (rs : List SessionRecord) → Allowed rs → may_decide rs 0 ≡ true → ⊥
no_zero rs a may =
    let s = some_found (session rs 0) (decide_begun rs 0 may) in
    let f = found_in (has_xid 0) (sessions rs) s.it s.is in
    let zero : s.it.xid ≡ 0 = same_nat s.it.xid 0 f.1 in
    let low = ((numbered rs a).sessions_in s.it f.0).0 in
    omega arith

pub no_branch_of_zero : (rs : List SessionRecord) → Allowed rs → (g : Grant) → In g (grants rs) → g.xid ≡ 0 → ⊥
no_branch_of_zero [] a g i e = absurd i
no_branch_of_zero (log.Granted xid branch resource call ticket kind hold ∷ rs) a g (inl is) e =
    let zero : xid.0 ≡ 0 = sym (ap (λ q. q.xid) is) ∙ e in
    no_zero rs a.0 (subst (λ x. may_decide rs x ≡ true) zero (new_branch rs xid branch resource call ticket kind hold a.1).may)
no_branch_of_zero (log.Granted xid branch resource call ticket kind hold ∷ rs) a g (inr i) e = no_branch_of_zero rs a.0 g i e
no_branch_of_zero (log.Begun xid manager moment timeout ∷ rs) a g i e = no_branch_of_zero rs a.0 g i e
no_branch_of_zero (log.Decided xid d ∷ rs) a g i e = no_branch_of_zero rs a.0 g i e
no_branch_of_zero (log.Retrying xid ∷ rs) a g i e = no_branch_of_zero rs a.0 g i e
no_branch_of_zero (log.Ended xid branch ∷ rs) a g i e = no_branch_of_zero rs a.0 g i e
no_branch_of_zero (log.Failed xid branch stmt ∷ rs) a g i e = no_branch_of_zero rs a.0 g i e
no_branch_of_zero (log.Finished xid ∷ rs) a g i e = no_branch_of_zero rs a.0 g i e
no_branch_of_zero (log.Forgot xid ∷ rs) a g i e = no_branch_of_zero rs a.0 g i e

-- ---- branches stand from the last one on

-- each has a greater number than those behind it
abbrev Falls : List Grant → Type 0
Falls [] = Unit {0}
Falls (g ∷ gs) = ((h : Grant) → In h gs → h.branch < g.branch) × Falls gs

grants_fall : (rs : List SessionRecord) → Allowed rs → Falls (grants rs)
grants_fall [] a = tt
grants_fall (log.Granted xid branch resource call ticket kind hold ∷ rs) a =
    let number = (new_branch rs xid branch resource call ticket kind hold a.1).number in
    (λ h i. let most = ((numbered rs a.0).grants_in h i).1 in omega arith, grants_fall rs a.0)
grants_fall (log.Begun xid manager moment timeout ∷ rs) a = grants_fall rs a.0
grants_fall (log.Decided xid d ∷ rs) a = grants_fall rs a.0
grants_fall (log.Retrying xid ∷ rs) a = grants_fall rs a.0
grants_fall (log.Ended xid branch ∷ rs) a = grants_fall rs a.0
grants_fall (log.Failed xid branch stmt ∷ rs) a = grants_fall rs a.0
grants_fall (log.Finished xid ∷ rs) a = grants_fall rs a.0
grants_fall (log.Forgot xid ∷ rs) a = grants_fall rs a.0

filter_falls : (test : Grant → Bool) (gs : List Grant) → Falls gs → Falls (filter test gs)
filter_falls test [] f = tt
filter_falls test (g ∷ gs) f = by (test g) (filter_falls test gs f.1)
  where
    by : (b : Bool) → Falls (filter test gs) → Falls (cond b (g ∷ filter test gs) (filter test gs))
    by true rest = (λ h i. f.0 h (of_filter test gs h i).0, rest)
    by false rest = rest

first_is_last : (gs : List Grant) → Falls gs → (g h : Grant) → first_of gs ≡ Some g → In h gs → g.branch < h.branch → ⊥
first_is_last [] f g h e i less = absurd i
first_is_last (k ∷ gs) f g h e (inl is) less =
    let same : k ≡ g = cc in
    let a : h.branch ≡ g.branch = ap (λ q. q.branch) (is ∙ same) in
    omega arith
first_is_last (k ∷ gs) f g h e (inr i) less =
    let same : k ≡ g = cc in
    let a : k.branch ≡ g.branch = ap (λ q. q.branch) same in
    let b = f.0 h i in
    omega arith

-- ---- rolled back to a branch

-- x is decided rollback or timeout, and its branches after branch b are ended
pub record RollsTo (rs : List SessionRecord) (x b : ℕ) : Type 0 where
  pub rolls : is_rollback (decided rs x) ≡ true
  pub later : (h : Grant) → In h (grants rs) → h.xid ≡ x → b < h.branch → is_ended rs h.xid h.branch ≡ true

ended_stays : (r : SessionRecord) (rs : List SessionRecord) (x b : ℕ) → is_ended rs x b ≡ true → is_ended (r ∷ rs) x b ≡ true
ended_stays (log.Ended xid branch) rs x b e = by ((xid.0 == x) && (branch.0 == b))
  where
    by : (t : Bool) → (if t then true else is_ended rs x b) ≡ true
    by true = refl
    by false = e
ended_stays _ rs x b e = e

later_step : (rs : List SessionRecord) (x b : ℕ) (r : SessionRecord) → May rs r → RollsTo rs x b → (h : Grant) → In h (grants (r ∷ rs)) → h.xid ≡ x → b < h.branch → is_ended (r ∷ rs) h.xid h.branch ≡ true
later_step rs x b (log.Granted xid branch resource call ticket kind hold) may q h (inl is) e less =
    let same : xid.0 ≡ x = sym (ap (λ z. z.xid) is) ∙ e in
    let none : decided rs x ≡ None = decide_none rs x (subst (λ z. may_decide rs z ≡ true) same (new_branch rs xid branch resource call ticket kind hold may).may) in
    true_false (sym q.rolls ∙ ap is_rollback none)
later_step rs x b (log.Granted xid branch resource call ticket kind hold) may q h (inr i) e less = q.later h i e less
later_step rs x b (log.Begun xid manager moment timeout) may q h i e less = q.later h i e less
later_step rs x b (log.Decided xid d) may q h i e less = q.later h i e less
later_step rs x b (log.Retrying xid) may q h i e less = q.later h i e less
later_step rs x b (log.Ended xid branch) may q h i e less = ended_stays (log.Ended xid branch) rs h.xid h.branch (q.later h i e less)
later_step rs x b (log.Failed xid branch stmt) may q h i e less = q.later h i e less
later_step rs x b (log.Finished xid) may q h i e less = q.later h i e less
later_step rs x b (log.Forgot xid) may q h i e less = q.later h i e less

pub rolls_step : (rs : List SessionRecord) (x b : ℕ) (r : SessionRecord) → May rs r → RollsTo rs x b → RollsTo (r ∷ rs) x b
rolls_step rs x b r may q = record { rolls = stays_decided is_rollback refl rs x r may q.rolls; later = later_step rs x b r may q }

pub rolls_in_all : (tc : Left SessionRecord) → Allowed (all_of tc) → (x b : ℕ) → RollsTo tc.records x b → RollsTo (all_of tc) x b
rolls_in_all tc all x b q = by tc.flight all
  where
    by : (o : Option SessionRecord) → Allowed (added o tc.records) → RollsTo (added o tc.records) x b
    by None all = q
    by (Some r) all = rolls_step tc.records x b r all.1 q

-- the branch that a rollback asks next is the last one that isn't ended
pub rolls_to_asked : (rs : List SessionRecord) → Allowed rs → (x : ℕ) (g : Grant) → is_rollback (decided rs x) ≡ true → next_asked rs x false ≡ Some g → RollsTo rs x g.branch
rolls_to_asked rs a x g rolls next = record { rolls = rolls; later = later }
  where
    later : (h : Grant) → In h (grants rs) → h.xid ≡ x → g.branch < h.branch → is_ended rs h.xid h.branch ≡ true
    later h i e less = by (is_ended rs h.xid h.branch) refl
      where
        by : (t : Bool) → is_ended rs h.xid h.branch ≡ t → t ≡ true
        by true t = refl
        by false t =
            let mine : In h (branches rs x) = in_filter (λ q. q.xid == x) (grants rs) h i (nat_same h.xid x e) in
            let there : In h (unended rs x) = in_filter (is_unended rs) (branches rs x) h mine (false_not (is_ended rs h.xid h.branch) t) in
            absurd (first_is_last (unended rs x) (filter_falls (is_unended rs) (branches rs x) (filter_falls (λ q. q.xid == x) (grants rs) (grants_fall rs a))) g h next there less)
