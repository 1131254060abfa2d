-- What the records of a branch count to: its fence, and its local commits with what became of them.
use Rattle.std.proofs.Common.{◌≡◌, inl, inr, ◌+◌, ◌≤◌, ◌==◌, ◌&&◌, not, ℕ, Bool, true, false, cond, if◌then◌else◌, List, [], ◌∷◌, find, filter, Option, Some, None, is_some, refl, ap, sym, subst, ◌∙◌, arith}
use Rattle.durable_records.specs.declared.resources.ResourceRecord.{ResourceRecord}
use Rattle.durable_records.specs.declared.resources.ResourceRecord.TheVariants as log
use Rattle.durable_records.specs.UndoRecords.{Undo, is_leg, is_other_leg, undos, undo_of}
use Rattle.durable_records.specs.Fences.{Fence, IsTried, IsCommitted, IsRollbacked, IsSuspended, FenceAnswer, Runs, WasDone, Suspends, Refuses, fence, on_try, on_confirm, on_cancel}
use Rattle.seata_types.specs.declared.statuses.BranchKind.TheVariants as kind
use Rattle.history_rules.specs.Own.{added}
use Rattle.history_law.specs.Points.{In}
use Rattle.history_law.specs.EndingSafety.{how_many, is_committed, is_undone, is_tried, is_confirmed, is_cancelled, is_suspended, IsKeptBy, IsStruckBy}
use Rattle.history_law.proofs.Tests.{false_true, true_false, and_left, and_right, and_both, same_nat, nat_same}
use Rattle.history_law.proofs.UndoRecords.{leg_parts, undone_has_none}

pub leg_moved : (P : ℕ → ℕ → Type 0) (y d x b : ℕ) → P y d → ((y == x) && (d == b)) ≡ true → P x b
leg_moved P y d x b p e = subst (λ q. P q b) (same_nat y x (and_left (y == x) (d == b) e)) (subst (λ q. P y q) (same_nat d b (and_right (y == x) (d == b) e)) p)

-- ---- fences

-- what a fence record finds
abbrev pub FenceMay : List ResourceRecord → ResourceRecord → Type 0
FenceMay rs (log.Tried xid b call images) = on_try (fence rs xid.0 b.0) ≡ Runs
FenceMay rs (log.Confirmed xid b images) = on_confirm (fence rs xid.0 b.0) ≡ Runs
FenceMay rs (log.Cancelled xid b images) = on_cancel (fence rs xid.0 b.0) ≡ Runs
FenceMay rs (log.Suspended xid b) = on_cancel (fence rs xid.0 b.0) ≡ Suspends
FenceMay rs _ = Unit {0}

abbrev pub FenceOrder : List ResourceRecord → Type 0
FenceOrder [] = Unit {0}
FenceOrder (r ∷ rs) = FenceOrder rs × FenceMay rs r

-- how often a branch was tried, confirmed, cancelled and suspended, by its fence
abbrev pub CountedBy : Option Fence → (tries confirms cancels suspends : ℕ) → Type 0
CountedBy None t c k s = (t ≡ 0) × (c ≡ 0) × (k ≡ 0) × (s ≡ 0)
CountedBy (Some IsTried) t c k s = (t ≡ 1) × (c ≡ 0) × (k ≡ 0) × (s ≡ 0)
CountedBy (Some IsCommitted) t c k s = (t ≡ 1) × (c ≡ 1) × (k ≡ 0) × (s ≡ 0)
CountedBy (Some IsRollbacked) t c k s = (t ≡ 1) × (c ≡ 0) × (k ≡ 1) × (s ≡ 0)
CountedBy (Some IsSuspended) t c k s = (t ≡ 0) × (c ≡ 0) × (k ≡ 0) × (s ≡ 1)

different : {A : Type 0} (test : FenceAnswer → Bool) (p q : FenceAnswer) → test p ≡ true → test q ≡ false → p ≡ q → A
different test p q tp tq e = true_false (sym tp ∙ ap test e ∙ tq)

abbrev runs : FenceAnswer → Bool
runs Runs = true
runs _ = false

abbrev was_done : FenceAnswer → Bool
was_done WasDone = true
was_done _ = false

abbrev suspends : FenceAnswer → Bool
suspends Suspends = true
suspends _ = false

one_more : (n k : ℕ) → n ≡ k → n + 1 ≡ k + 1
one_more n k e = ap (λ q. q + 1) e

tried_counts : (b : Bool) (f : Option Fence) (t c k s : ℕ) → (b ≡ true → on_try f ≡ Runs) → CountedBy f t c k s → CountedBy (if b then Some IsTried else f) (if b then t + 1 else t) c k s
tried_counts false f t c k s may n = n
tried_counts true None t c k s may n = (one_more t 0 n.0, n.1, n.2, n.3)
tried_counts true (Some f) t c k s may n = different runs Runs Refuses refl refl (sym (may refl))

confirmed_counts : (b : Bool) (f : Option Fence) (t c k s : ℕ) → (b ≡ true → on_confirm f ≡ Runs) → CountedBy f t c k s → CountedBy (if b then Some IsCommitted else f) t (if b then c + 1 else c) k s
confirmed_counts false f t c k s may n = n
confirmed_counts true None t c k s may n = different runs Runs Refuses refl refl (sym (may refl))
confirmed_counts true (Some IsTried) t c k s may n = (n.0, one_more c 0 n.1, n.2, n.3)
confirmed_counts true (Some IsCommitted) t c k s may n = different runs Runs WasDone refl refl (sym (may refl))
confirmed_counts true (Some IsRollbacked) t c k s may n = different runs Runs Refuses refl refl (sym (may refl))
confirmed_counts true (Some IsSuspended) t c k s may n = different runs Runs Refuses refl refl (sym (may refl))

cancelled_counts : (b : Bool) (f : Option Fence) (t c k s : ℕ) → (b ≡ true → on_cancel f ≡ Runs) → CountedBy f t c k s → CountedBy (if b then Some IsRollbacked else f) t c (if b then k + 1 else k) s
cancelled_counts false f t c k s may n = n
cancelled_counts true None t c k s may n = different runs Runs Suspends refl refl (sym (may refl))
cancelled_counts true (Some IsTried) t c k s may n = (n.0, n.1, one_more k 0 n.2, n.3)
cancelled_counts true (Some IsCommitted) t c k s may n = different runs Runs Refuses refl refl (sym (may refl))
cancelled_counts true (Some IsRollbacked) t c k s may n = different runs Runs WasDone refl refl (sym (may refl))
cancelled_counts true (Some IsSuspended) t c k s may n = different runs Runs WasDone refl refl (sym (may refl))

suspended_counts : (b : Bool) (f : Option Fence) (t c k s : ℕ) → (b ≡ true → on_cancel f ≡ Suspends) → CountedBy f t c k s → CountedBy (if b then Some IsSuspended else f) t c k (if b then s + 1 else s)
suspended_counts false f t c k s may n = n
suspended_counts true None t c k s may n = (n.0, n.1, n.2, one_more s 0 n.3)
suspended_counts true (Some IsTried) t c k s may n = different suspends Suspends Runs refl refl (sym (may refl))
suspended_counts true (Some IsCommitted) t c k s may n = different suspends Suspends Refuses refl refl (sym (may refl))
suspended_counts true (Some IsRollbacked) t c k s may n = different suspends Suspends WasDone refl refl (sym (may refl))
suspended_counts true (Some IsSuspended) t c k s may n = different suspends Suspends WasDone refl refl (sym (may refl))

module _ (x b : ℕ) where
  abbrev tries : List ResourceRecord → ℕ
  tries rs = how_many (is_tried x b) rs

  abbrev confirms : List ResourceRecord → ℕ
  confirms rs = how_many (is_confirmed x b) rs

  abbrev cancels : List ResourceRecord → ℕ
  cancels rs = how_many (is_cancelled x b) rs

  abbrev suspensions : List ResourceRecord → ℕ
  suspensions rs = how_many (is_suspended x b) rs

  pub counted : (rs : List ResourceRecord) → FenceOrder rs → CountedBy (fence rs x b) (tries rs) (confirms rs) (cancels rs) (suspensions rs)
  counted [] o = (refl, refl, refl, refl)
  counted (log.Tried xid br call images ∷ rs) o =
      tried_counts ((xid.0 == x) && (br.0 == b)) (fence rs x b) (tries rs) (confirms rs) (cancels rs) (suspensions rs)
      (leg_moved (λ y d. on_try (fence rs y d) ≡ Runs) xid.0 br.0 x b o.1) (counted rs o.0)
  counted (log.Confirmed xid br images ∷ rs) o =
      confirmed_counts ((xid.0 == x) && (br.0 == b)) (fence rs x b) (tries rs) (confirms rs) (cancels rs) (suspensions rs)
      (leg_moved (λ y d. on_confirm (fence rs y d) ≡ Runs) xid.0 br.0 x b o.1) (counted rs o.0)
  counted (log.Cancelled xid br images ∷ rs) o =
      cancelled_counts ((xid.0 == x) && (br.0 == b)) (fence rs x b) (tries rs) (confirms rs) (cancels rs) (suspensions rs)
      (leg_moved (λ y d. on_cancel (fence rs y d) ≡ Runs) xid.0 br.0 x b o.1) (counted rs o.0)
  counted (log.Suspended xid br ∷ rs) o =
      suspended_counts ((xid.0 == x) && (br.0 == b)) (fence rs x b) (tries rs) (confirms rs) (cancels rs) (suspensions rs)
      (leg_moved (λ y d. on_cancel (fence rs y d) ≡ Suspends) xid.0 br.0 x b o.1) (counted rs o.0)
  counted (log.Boot number ∷ rs) o = counted rs o.0
  counted (log.Committed xid br call images reads ∷ rs) o = counted rs o.0
  counted (log.Undone xid br ∷ rs) o = counted rs o.0
  counted (log.Marked xid br ∷ rs) o = counted rs o.0
  counted (log.Cleared xid br ∷ rs) o = counted rs o.0
  counted (log.LocalCommitted number images ∷ rs) o = counted rs o.0
  counted (log.Outside number images ∷ rs) o = counted rs o.0

  kept_by : (f : Option Fence) (t c k s : ℕ) → CountedBy f t c k s → on_confirm f ≡ WasDone → (c ≡ 1) × (k ≡ 0) × (s ≡ 0)
  kept_by None t c k s n e = different was_done WasDone Refuses refl refl (sym e)
  kept_by (Some IsTried) t c k s n e = different was_done WasDone Runs refl refl (sym e)
  kept_by (Some IsCommitted) t c k s n e = (n.1, n.2, n.3)
  kept_by (Some IsRollbacked) t c k s n e = different was_done WasDone Refuses refl refl (sym e)
  kept_by (Some IsSuspended) t c k s n e = different was_done WasDone Refuses refl refl (sym e)

  struck_by : (f : Option Fence) (t c k s : ℕ) → CountedBy f t c k s → on_cancel f ≡ WasDone → (k + s ≡ 1) × (c ≡ 0) × (s ≡ 1 → t ≡ 0)
  struck_by None t c k s n e = different was_done WasDone Suspends refl refl (sym e)
  struck_by (Some IsTried) t c k s n e = different was_done WasDone Runs refl refl (sym e)
  struck_by (Some IsCommitted) t c k s n e = different was_done WasDone Refuses refl refl (sym e)
  struck_by (Some IsRollbacked) t c k s n e = let p = n.2 in let q = n.3 in (omega arith, n.1, λ one. absurd (omega arith))
  struck_by (Some IsSuspended) t c k s n e = let p = n.2 in let q = n.3 in (omega arith, n.1, λ one. n.0)

  pub kept : (rs : List ResourceRecord) → FenceOrder rs → on_confirm (fence rs x b) ≡ WasDone → IsKeptBy kind.Tcc rs x b
  kept rs o e = kept_by (fence rs x b) (tries rs) (confirms rs) (cancels rs) (suspensions rs) (counted rs o) e

  pub struck : (rs : List ResourceRecord) → FenceOrder rs → on_cancel (fence rs x b) ≡ WasDone → IsStruckBy kind.Tcc rs x b
  struck rs o e = struck_by (fence rs x b) (tries rs) (confirms rs) (cancels rs) (suspensions rs) (counted rs o) e

-- ---- a fence that is done stays so

-- a fence that a record may still change
abbrev is_open : Option Fence → Bool
is_open None = true
is_open (Some IsTried) = true
is_open _ = false

open_try : (f : Option Fence) → on_try f ≡ Runs → is_open f ≡ true
open_try None e = refl
open_try (Some f) e = different runs Runs Refuses refl refl (sym e)

open_confirm : (f : Option Fence) → on_confirm f ≡ Runs → is_open f ≡ true
open_confirm None e = refl
open_confirm (Some IsTried) e = refl
open_confirm (Some IsCommitted) e = different runs Runs WasDone refl refl (sym e)
open_confirm (Some IsRollbacked) e = different runs Runs Refuses refl refl (sym e)
open_confirm (Some IsSuspended) e = different runs Runs Refuses refl refl (sym e)

open_cancel : (f : Option Fence) → on_cancel f ≡ Runs → is_open f ≡ true
open_cancel None e = refl
open_cancel (Some IsTried) e = refl
open_cancel (Some IsCommitted) e = different runs Runs Refuses refl refl (sym e)
open_cancel (Some IsRollbacked) e = different runs Runs WasDone refl refl (sym e)
open_cancel (Some IsSuspended) e = different runs Runs WasDone refl refl (sym e)

open_suspend : (f : Option Fence) → on_cancel f ≡ Suspends → is_open f ≡ true
open_suspend None e = refl
open_suspend (Some IsTried) e = refl
open_suspend (Some IsCommitted) e = different suspends Suspends Refuses refl refl (sym e)
open_suspend (Some IsRollbacked) e = different suspends Suspends WasDone refl refl (sym e)
open_suspend (Some IsSuspended) e = different suspends Suspends WasDone refl refl (sym e)

-- the answer of a branch that is confirmed, or cancelled or suspended
abbrev pub Closes : (Option Fence → FenceAnswer) → Type 0
Closes on = (f : Option Fence) → on f ≡ WasDone → is_open f ≡ false

pub confirm_closes : Closes on_confirm
confirm_closes None e = different was_done WasDone Refuses refl refl (sym e)
confirm_closes (Some IsTried) e = different was_done WasDone Runs refl refl (sym e)
confirm_closes (Some IsCommitted) e = refl
confirm_closes (Some IsRollbacked) e = refl
confirm_closes (Some IsSuspended) e = refl

pub cancel_closes : Closes on_cancel
cancel_closes None e = different was_done WasDone Suspends refl refl (sym e)
cancel_closes (Some IsTried) e = different was_done WasDone Runs refl refl (sym e)
cancel_closes (Some IsCommitted) e = refl
cancel_closes (Some IsRollbacked) e = refl
cancel_closes (Some IsSuspended) e = refl

module _ (on : Option Fence → FenceAnswer) (closes : Closes on) where
  still_done : (t : Bool) (here : Fence) (f : Option Fence) → (t ≡ true → is_open f ≡ true) → on f ≡ WasDone → on (if t then Some here else f) ≡ WasDone
  still_done true here f may e = true_false (sym (may refl) ∙ closes f e)
  still_done false here f may e = e

  pub done_stays : (rs : List ResourceRecord) (r : ResourceRecord) → FenceMay rs r → (x b : ℕ) → on (fence rs x b) ≡ WasDone → on (fence (r ∷ rs) x b) ≡ WasDone
  done_stays rs (log.Tried xid br call images) m x b e =
      still_done ((xid.0 == x) && (br.0 == b)) IsTried (fence rs x b) (λ t. open_try (fence rs x b) (leg_moved (λ y d. on_try (fence rs y d) ≡ Runs) xid.0 br.0 x b m t)) e
  done_stays rs (log.Confirmed xid br images) m x b e =
      still_done ((xid.0 == x) && (br.0 == b)) IsCommitted (fence rs x b) (λ t. open_confirm (fence rs x b) (leg_moved (λ y d. on_confirm (fence rs y d) ≡ Runs) xid.0 br.0 x b m t)) e
  done_stays rs (log.Cancelled xid br images) m x b e =
      still_done ((xid.0 == x) && (br.0 == b)) IsRollbacked (fence rs x b) (λ t. open_cancel (fence rs x b) (leg_moved (λ y d. on_cancel (fence rs y d) ≡ Runs) xid.0 br.0 x b m t)) e
  done_stays rs (log.Suspended xid br) m x b e =
      still_done ((xid.0 == x) && (br.0 == b)) IsSuspended (fence rs x b) (λ t. open_suspend (fence rs x b) (leg_moved (λ y d. on_cancel (fence rs y d) ≡ Suspends) xid.0 br.0 x b m t)) e
  done_stays rs (log.Boot number) m x b e = e
  done_stays rs (log.Committed xid br call images reads) m x b e = e
  done_stays rs (log.Undone xid br) m x b e = e
  done_stays rs (log.Marked xid br) m x b e = e
  done_stays rs (log.Cleared xid br) m x b e = e
  done_stays rs (log.LocalCommitted number images) m x b e = e
  done_stays rs (log.Outside number images) m x b e = e

  pub done_added : (r : Option ResourceRecord) (rs : List ResourceRecord) → FenceOrder (added r rs) → (x b : ℕ) → on (fence rs x b) ≡ WasDone → on (fence (added r rs) x b) ≡ WasDone
  done_added None rs o x b e = e
  done_added (Some r) rs o x b e = done_stays rs r o.1 x b e

-- ---- local commits and what became of them

abbrev pub is_cleared : ℕ → ℕ → ResourceRecord → Bool
is_cleared x b (log.Cleared xid br) = (xid.0 == x) && (br.0 == b)
is_cleared x b _ = false

-- by whether an undo record stands: a branch committed at most once, and its undo record stands, or it was undone or cleared
abbrev pub BalancedBy : Bool → (commits undones cleareds : ℕ) → Type 0
BalancedBy true c u k = (c ≡ 1) × (u ≡ 0) × (k ≡ 0)
BalancedBy false c u k = (c ≤ 1) × (c ≡ u + k)

abbrev pub Balanced : List ResourceRecord → Type 0
Balanced rs = (x b : ℕ) → BalancedBy (is_some (undo_of rs x b)) (how_many (is_committed x b) rs) (how_many (is_undone x b) rs) (how_many (is_cleared x b) rs)

-- what a local commit, an undo and a clearing find
abbrev pub UndoMay : List ResourceRecord → ResourceRecord → Type 0
UndoMay rs (log.Committed xid br call images reads) = how_many (is_committed xid.0 br.0) rs ≡ 0
UndoMay rs (log.Undone xid br) = is_some (undo_of rs xid.0 br.0) ≡ true
UndoMay rs (log.Cleared xid br) = is_some (undo_of rs xid.0 br.0) ≡ true
UndoMay rs _ = Unit {0}

commit_balances : (t : Bool) (u : Undo) (o : Option Undo) (c n k : ℕ) → (t ≡ true → c ≡ 0) → BalancedBy (is_some o) c n k → BalancedBy (is_some (cond t (Some u) o)) (if t then c + 1 else c) n k
commit_balances false u o c n k may b = b
commit_balances true u None c n k may b = let z = may refl in let e = b.1 in (omega arith, omega arith, omega arith)
commit_balances true u (Some v) c n k may b = let z = may refl in let e = b.0 in absurd (omega arith)

undone_balances : (t : Bool) (o p : Option Undo) (c n k : ℕ) → (t ≡ true → (is_some o ≡ true) × (p ≡ None)) → (t ≡ false → p ≡ o) → BalancedBy (is_some o) c n k → BalancedBy (is_some p) c (if t then n + 1 else n) k
undone_balances false o p c n k may same b = subst (λ q. BalancedBy (is_some q) c n k) (sym (same refl)) b
undone_balances true None p c n k may same b = false_true (may refl).0
undone_balances true (Some v) p c n k may same b =
    let e = b.0 in let f = b.1 in let g = b.2 in
    subst (λ q. BalancedBy (is_some q) c (n + 1) k) (sym (may refl).1) (omega arith, omega arith)

cleared_balances : (t : Bool) (o p : Option Undo) (c n k : ℕ) → (t ≡ true → (is_some o ≡ true) × (p ≡ None)) → (t ≡ false → p ≡ o) → BalancedBy (is_some o) c n k → BalancedBy (is_some p) c n (if t then k + 1 else k)
cleared_balances false o p c n k may same b = subst (λ q. BalancedBy (is_some q) c n k) (sym (same refl)) b
cleared_balances true None p c n k may same b = false_true (may refl).0
cleared_balances true (Some v) p c n k may same b =
    let e = b.0 in let f = b.1 in let g = b.2 in
    subst (λ q. BalancedBy (is_some q) c n (k + 1)) (sym (may refl).1) (omega arith, omega arith)

module _ (y d x b : ℕ) (other : ((y == x) && (d == b)) ≡ false) where
  kept_undo_by : (u : Undo) (us : List Undo) (t q : Bool) → is_leg y d u ≡ t → is_leg x b u ≡ q → find (is_leg x b) (filter (is_other_leg y d) us) ≡ find (is_leg x b) us
      → find (is_leg x b) (cond (not t) (u ∷ filter (is_other_leg y d) us) (filter (is_other_leg y d) us)) ≡ cond q (Some u) (find (is_leg x b) us)
  kept_undo_by u us true true e f below =
      let p = leg_parts y d u e in let r = leg_parts x b u f in
      true_false (sym (and_both (y == x) (d == b) (nat_same y x (sym p.0 ∙ r.0)) (nat_same d b (sym p.1 ∙ r.1))) ∙ other)
  kept_undo_by u us true false e f below = below
  kept_undo_by u us false q e f below = ap (λ z. cond z (Some u) (find (is_leg x b) (filter (is_other_leg y d) us))) f ∙ ap (λ z. cond q (Some u) z) below

  -- the undo record of another branch stays
  kept_undo : (us : List Undo) → find (is_leg x b) (filter (is_other_leg y d) us) ≡ find (is_leg x b) us
  kept_undo [] = refl
  kept_undo (u ∷ us) = kept_undo_by u us (is_leg y d u) (is_leg x b u) refl refl (kept_undo us)

pub balanced_after : (rs : List ResourceRecord) (r : ResourceRecord) → UndoMay rs r → Balanced rs → Balanced (r ∷ rs)
balanced_after rs (log.Committed xid br call images reads) may all x b =
    commit_balances ((xid.0 == x) && (br.0 == b)) (record { xid = xid.0; branch = br.0; call = call; images = images; reads = reads }) (undo_of rs x b)
    (how_many (is_committed x b) rs) (how_many (is_undone x b) rs) (how_many (is_cleared x b) rs)
    (leg_moved (λ y d. how_many (is_committed y d) rs ≡ 0) xid.0 br.0 x b may) (all x b)
balanced_after rs (log.Undone xid br) may all x b =
    undone_balances ((xid.0 == x) && (br.0 == b)) (undo_of rs x b) (undo_of (log.Undone xid br ∷ rs) x b)
    (how_many (is_committed x b) rs) (how_many (is_undone x b) rs) (how_many (is_cleared x b) rs)
    (leg_moved (λ y d. (is_some (undo_of rs y d) ≡ true) × (undo_of (log.Undone xid br ∷ rs) y d ≡ None)) xid.0 br.0 x b (may, undone_has_none rs xid br))
    (λ other. kept_undo xid.0 br.0 x b other (undos rs)) (all x b)
balanced_after rs (log.Cleared xid br) may all x b =
    cleared_balances ((xid.0 == x) && (br.0 == b)) (undo_of rs x b) (undo_of (log.Cleared xid br ∷ rs) x b)
    (how_many (is_committed x b) rs) (how_many (is_undone x b) rs) (how_many (is_cleared x b) rs)
    (leg_moved (λ y d. (is_some (undo_of rs y d) ≡ true) × (undo_of (log.Cleared xid br ∷ rs) y d ≡ None)) xid.0 br.0 x b (may, undone_has_none rs xid br))
    (λ other. kept_undo xid.0 br.0 x b other (undos rs)) (all x b)
balanced_after rs (log.Boot number) may all x b = all x b
balanced_after rs (log.Marked xid br) may all x b = all x b
balanced_after rs (log.Tried xid br call images) may all x b = all x b
balanced_after rs (log.Confirmed xid br images) may all x b = all x b
balanced_after rs (log.Cancelled xid br images) may all x b = all x b
balanced_after rs (log.Suspended xid br) may all x b = all x b
balanced_after rs (log.LocalCommitted number images) may all x b = all x b
balanced_after rs (log.Outside number images) may all x b = all x b

-- none passes
pub none_passes : (test : ResourceRecord → Bool) (rs : List ResourceRecord) → ((r : ResourceRecord) → In r rs → test r ≡ false) → how_many test rs ≡ 0
none_passes test [] fails = refl
none_passes test (r ∷ rs) fails = ap (λ t. if t then how_many test rs + 1 else how_many test rs) (fails r (inl refl)) ∙ none_passes test rs (λ q i. fails q (inr i))

pub balanced_none : (p : Bool) (c u k : ℕ) → BalancedBy p c u k → p ≡ false → k ≡ 0 → (c ≤ 1) × (u ≡ c)
balanced_none true c u k b e none = true_false e
balanced_none false c u k b e none = let q = b.1 in (b.0, omega arith)
