-- The branches of one transaction, which stand next to each other: from its least branch on, up to one of another.
use Rattle.std.proofs.Common.{◌≡◌, ℕ, ◌<◌, true, false, cond, ◌&&◌, ◌==◌, List, [], ◌∷◌, Option, Some, None, Ordering, Less, Equal, Greater, refl, sym, arith}
use Rattle.std.specs.List.{AllByRecursion}
use Rattle.std.specs.List.Sorted.{IsStrictlySortedBy}
use Rattle.std.specs.Map.{keys_of}
use Rattle.std.specs.BTreeMap.Range.{entries_between}
use Rattle.std.specs.declared.ops.Bound.TheVariants.{Included, Unbounded}
use Rattle.std.specs.Ordering.{nat_cmp, ordering_then, is_le}
use Rattle.std.proofs.lemmas.Cmp.{ranked}
use Rattle.std.proofs.lemmas.Bool.{ne_eqb, eq-eqb}
use Rattle.seata_types.specs.declared.ids.Xid.{Xid}
use Rattle.seata_types.specs.declared.ids.Leg.{Leg}
use Rattle.seata_types.specs.declared.rows.RowKey.{RowKey}
use Rattle.lock_table.specs.Locks.{Holds, leg_cmp, least_leg, leg_of}

-- the first branch, where it is of x
abbrev pub own_leg : Holds → Xid → Option Leg
own_leg [] x = None
own_leg (e ∷ es) x = cond (e.0.xid.0 == x.0) (Some e.0) None

-- the branches of x and of later transactions
abbrev pub legs_from : Xid → Holds → Holds
legs_from x hs = entries_between leg_cmp (Included (least_leg x)) Unbounded hs

-- ---- behind a branch of a later transaction there is none of x

later_by : (x a b : ℕ) (o p : Ordering) → o ≡ nat_cmp a b → x < a → ordering_then o p ≡ Less → x < b
later_by x a b Less p is low less = let above : a < b = ranked a b Less is in omega (arith, low, above)
later_by x a b Equal p is low less = let same : a ≡ b = ranked a b Equal is in omega (arith, low, same)
later_by x a b Greater p is low less = absurd cc

not_own : (x : Xid) (leg : Leg) → x.0 < leg.xid.0 → (leg.xid.0 == x.0) ≡ false
not_own x leg low = ne_eqb leg.xid.0 x.0 (λ same. omega (arith, low, same))

module _ (x : Xid) (first : Leg) (low : x.0 < first.xid.0) where
  none_own : (es : Holds) → AllByRecursion (λ k. leg_cmp first k ≡ Less) (keys_of es) → leg_of es x ≡ None
  none_own [] above = refl
  none_own (e ∷ es) above =
      let later : x.0 < e.0.xid.0 = later_by x.0 first.xid.0 e.0.xid.0 (nat_cmp first.xid.0 e.0.xid.0) (nat_cmp first.branch.0 e.0.branch.0) refl low above.0 in
      rw (not_own x e.0 later) (none_own es above.1)

head_below : (e : Leg × List RowKey) (es : Holds) → IsStrictlySortedBy leg_cmp (keys_of (e ∷ es)) → AllByRecursion (λ k. leg_cmp e.0 k ≡ Less) (keys_of es)
unfolding IsStrictlySortedBy
head_below e es sorted = sorted.0

pub tail_sorted : (e : Leg × List RowKey) (es : Holds) → IsStrictlySortedBy leg_cmp (keys_of (e ∷ es)) → IsStrictlySortedBy leg_cmp (keys_of es)
unfolding IsStrictlySortedBy
tail_sorted e es sorted = sorted.1

-- ---- from the least branch of x on

least_by : (b : ℕ) (o : Ordering) → o ≡ nat_cmp 0 b → is_le o ≡ true
least_by b Less is = refl
least_by b Equal is = refl
least_by b Greater is = let none : b < 0 = ranked 0 b Greater is in absurd (omega (arith, none))

least_is : (b : ℕ) → is_le (nat_cmp 0 b) ≡ true
least_is b = least_by b (nat_cmp 0 b) refl

leg_by : (x : Xid) (e : Leg × List RowKey) (es rest : Holds) (o : Ordering) → o ≡ nat_cmp x.0 e.0.xid.0 → AllByRecursion (λ k. leg_cmp e.0 k ≡ Less) (keys_of es) → own_leg rest x ≡ leg_of es x →
    own_leg (cond (is_le (ordering_then o (nat_cmp 0 e.0.branch.0)) && true) (e ∷ rest) rest) x ≡ cond (e.0.xid.0 == x.0) (Some e.0) (leg_of es x)
leg_by x e es rest Less is below later =
    let low : x.0 < e.0.xid.0 = ranked x.0 e.0.xid.0 Less is in
    rw (not_own x e.0 low, none_own x e.0 low es below) refl
leg_by x e es rest Equal is below later =
    let same : x.0 ≡ e.0.xid.0 = ranked x.0 e.0.xid.0 Equal is in
    let own : (e.0.xid.0 == x.0) ≡ true = eq-eqb e.0.xid.0 x.0 (sym same) in
    rw (least_is e.0.branch.0, own) refl
leg_by x e es rest Greater is below later =
    let low : e.0.xid.0 < x.0 = ranked x.0 e.0.xid.0 Greater is in
    let other : (e.0.xid.0 == x.0) ≡ false = ne_eqb e.0.xid.0 x.0 (λ same. omega (arith, low, same)) in
    rw (other) later

pub own_leg_is : (x : Xid) (hs : Holds) → IsStrictlySortedBy leg_cmp (keys_of hs) → own_leg (legs_from x hs) x ≡ leg_of hs x
own_leg_is x [] sorted = refl
own_leg_is x (e ∷ es) sorted = leg_by x e es (legs_from x es) (nat_cmp x.0 e.0.xid.0) refl (head_below e es sorted) (own_leg_is x es (tail_sorted e es sorted))
