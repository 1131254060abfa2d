-- Branches of a transaction that are released one after the other.
use Rattle.std.proofs.Common.{◌≡◌, ℕ, suc, ◌<◌, Bool, true, false, not, cond, ◌==◌, List, [], ◌∷◌, length, Option, Some, None, Ordering, refl, sym, ap, ◌∙◌, arith}
use Rattle.std.specs.Ordering.{nat_cmp, ordering_then, is_eq}
use Rattle.std.proofs.lemmas.Cmp.{nat_cmp_total, tied_itself}
use Rattle.seata_types.specs.declared.ids.Xid.{Xid}
use Rattle.seata_types.specs.declared.ids.Leg.{Leg}
use Rattle.seata_types.specs.declared.rows.RowKey.{RowKey}
use Rattle.lock_table.specs.Locks.{Holds, is_leg, without_leg, is_leg_of, leg_of, is_of_other, without_xid}
use Rattle.lock_table.proofs.Changes.{same_leg_xid}

leg_itself : (leg : Leg) → is_leg leg leg ≡ true
leg_itself leg = ap (λ (o : Ordering). is_eq (ordering_then o (nat_cmp leg.branch.0 leg.branch.0))) (tied_itself nat_cmp_total leg.xid.0) ∙ ap is_eq (tied_itself nat_cmp_total leg.branch.0)

same_owner : (a b : Leg) (x : Xid) → is_leg a b ≡ true → is_leg_of x a ≡ true → is_leg_of x b ≡ true
same_owner a b x same of = ap (λ (n : ℕ). n == x.0) (sym (same_leg_xid a b same)) ∙ of

-- ---- the first branch is one of the transaction

of_picked : (b : Bool) (a leg : Leg) (x : Xid) (o : Option Leg) → is_leg_of x a ≡ b → cond b (Some a) o ≡ Some leg → (o ≡ Some leg → is_leg_of x leg ≡ true) → is_leg_of x leg ≡ true
of_picked true a leg x o of e later = let same : a ≡ leg = cc in ap (λ (l : Leg). is_leg_of x l) (sym same) ∙ of
of_picked false a leg x o of e later = later e

pub found_of : (hs : Holds) (x : Xid) (leg : Leg) → leg_of hs x ≡ Some leg → is_leg_of x leg ≡ true
found_of [] x leg e = absurd cc
found_of (h ∷ hs) x leg e = of_picked (is_leg_of x h.0) h.0 leg x (leg_of hs x) refl e (found_of hs x leg)

-- ---- a release leaves fewer branches

less_by : (b : Bool) (h : Leg × List RowKey) (hs : Holds) (leg : Leg) → length (without_leg hs leg) < length hs → length (cond b hs (h ∷ without_leg hs leg)) < suc (length hs)
less_by true h hs leg less = omega arith
less_by false h hs leg less = omega (arith, less)

less_at : (b : Bool) (h : Leg × List RowKey) (hs : Holds) (leg : Leg) (o : Option Leg) → cond b (Some h.0) o ≡ Some leg → (o ≡ Some leg → length (without_leg hs leg) < length hs) →
    length (cond (is_leg leg h.0) hs (h ∷ without_leg hs leg)) < suc (length hs)
less_at true h hs leg o e later =
    let same : h.0 ≡ leg = cc in
    let here : is_leg leg h.0 ≡ true = ap (λ (l : Leg). is_leg l h.0) (sym same) ∙ leg_itself h.0 in
    rw here (omega arith)
less_at false h hs leg o e later = less_by (is_leg leg h.0) h hs leg (later e)

pub fewer : (hs : Holds) (x : Xid) (leg : Leg) → leg_of hs x ≡ Some leg → length (without_leg hs leg) < length hs
fewer [] x leg e = absurd cc
fewer (h ∷ hs) x leg e = less_at (is_leg_of x h.0) h hs leg (leg_of hs x) e (fewer hs x leg)

-- ---- and the same of the other transactions

left_at : (b : Bool) (h : Leg × List RowKey) (hs : Holds) (x : Xid) (leg : Leg) → is_leg leg h.0 ≡ b → is_leg_of x leg ≡ true → without_xid (without_leg hs leg) x ≡ without_xid hs x →
    without_xid (cond b hs (h ∷ without_leg hs leg)) x ≡ without_xid (h ∷ hs) x
left_at true h hs x leg same of later = ap (λ (b : Bool). cond (not b) (h ∷ without_xid hs x) (without_xid hs x)) (sym (same_owner leg h.0 x same of))
left_at false h hs x leg same of later = ap (λ (rest : Holds). cond (is_of_other x h) (h ∷ rest) rest) later

same_left : (hs : Holds) (x : Xid) (leg : Leg) → is_leg_of x leg ≡ true → without_xid (without_leg hs leg) x ≡ without_xid hs x
same_left [] x leg of = refl
same_left (h ∷ hs) x leg of = left_at (is_leg leg h.0) h hs x leg refl of (same_left hs x leg of)

pub released : (hs : Holds) (x : Xid) (leg : Leg) → leg_of hs x ≡ Some leg → without_xid (without_leg hs leg) x ≡ without_xid hs x
released hs x leg e = same_left hs x leg (found_of hs x leg e)

-- ---- where no branch is left, nothing is

none_at : (b : Bool) (h : Leg × List RowKey) (hs : Holds) (x : Xid) (o : Option Leg) → cond b (Some h.0) o ≡ None → (o ≡ None → without_xid hs x ≡ hs) → cond (not b) (h ∷ without_xid hs x) (without_xid hs x) ≡ h ∷ hs
none_at true h hs x o e later = absurd cc
none_at false h hs x o e later = ap (λ (rest : Holds). h ∷ rest) (later e)

pub none_left : (hs : Holds) (x : Xid) → leg_of hs x ≡ None → without_xid hs x ≡ hs
none_left [] x e = refl
none_left (h ∷ hs) x e = none_at (is_leg_of x h.0) h hs x (leg_of hs x) e (none_left hs x)
