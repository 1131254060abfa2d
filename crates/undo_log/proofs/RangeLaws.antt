-- A call's record is found among the branches of its transaction.
use Rattle.std.proofs.Common.{◌≡◌, ◌==◌, ◌&&◌, ◌+◌, not, ℕ, Bool, true, false, cond, List, [], ◌∷◌, Option, Some, None, Ordering, Less, Equal, Greater, refl, ap, sym, ◌∙◌, arith, true≢false, subst}
use Rattle.std.specs.Cmp.{nat_cmp_is}
use Rattle.std.specs.BTreeMap.Range.{range_contains, entries_between, IsLeBy, IsLtBy}
use Rattle.std.specs.Ordering.{nat_cmp, ordering_then, is_le, is_lt, is_gt}
use Rattle.std.specs.declared.ops.Bound.{Bound}
use Rattle.std.specs.declared.ops.Bound.TheVariants.{Included, Excluded, Unbounded}
use Rattle.std.proofs.lemmas.Bool.Decides.{nat_tests}
use Rattle.std.proofs.lemmas.Cmp.{nat_cmp_total, tied_itself}
use Rattle.seata_types.specs.declared.ids.Leg.{Leg}
use Rattle.undo_log.specs.declared.records.UndoEntry.{UndoEntry}
use Rattle.undo_log.specs.declared.records.UndoEntry.TheVariants as entry
use Rattle.undo_log.specs.declared.records.UndoRecord.{UndoRecord}
use Rattle.undo_log.specs.Entries.{Log, order, is_of_call, record_in, record_of_call, leg_at, IsPast}

same_nat : (m n : ℕ) → (m == n) ≡ true → m ≡ n
same_nat m n e = grind (arith, nat_tests)

and_left : (a b : Bool) → (a && b) ≡ true → a ≡ true
and_left true b e = refl
and_left false b e = absurd (true≢false (sym e))

of_transaction : (x c : ℕ) (leg : Leg) (e : UndoEntry) → is_of_call x c leg e ≡ true → leg.xid.0 ≡ x
of_transaction x c leg (entry.Normal r) e = same_nat leg.xid.0 x (and_left (leg.xid.0 == x) (r.call == c) e)
of_transaction x c leg entry.Finished e = absurd (true≢false (sym e))

below : (n : ℕ) → nat_cmp n (n + 1) ≡ Less
below n = sym (nat_cmp_is n (n + 1) Less (omega arith))

above : (n : ℕ) → nat_cmp (n + 1) n ≡ Greater
above n = sym (nat_cmp_is (n + 1) n Greater (omega arith))

from_zero : (n : ℕ) → is_le (nat_cmp 0 n) ≡ true
from_zero n = by n
  where
    by : (n : ℕ) → is_le (nat_cmp 0 n) ≡ true
    by n = grind (arith, nat_tests)

then_le : (p q : Ordering) → p ≡ Equal → is_le q ≡ true → is_le (ordering_then p q) ≡ true
then_le Equal q e f = f
then_le Less q e f = refl
then_le Greater q e f = absurd cc

then_not : (p q : Ordering) → p ≡ Greater → is_le (ordering_then p q) ≡ false
then_not Greater q e = refl
then_not Less q e = absurd cc
then_not Equal q e = absurd cc

-- a branch of x is in the range
from_first : (x : ℕ) (leg : Leg) → leg.xid.0 ≡ x → is_le (order (leg_at x 0) leg) ≡ true
from_first x leg e =
    then_le (nat_cmp x leg.xid.0) (nat_cmp 0 leg.branch.0) (ap (nat_cmp x) e ∙ tied_itself nat_cmp_total x) (from_zero leg.branch.0)

not_past : (x : ℕ) (leg : Leg) → leg.xid.0 ≡ x → is_le (order (leg_at (x + 1) 0) leg) ≡ false
not_past x leg e = then_not (nat_cmp (x + 1) leg.xid.0) (nat_cmp 0 leg.branch.0) (ap (nat_cmp (x + 1)) e ∙ above x)

both : (a b : Bool) → a ≡ true → b ≡ false → (a && not b) ≡ true
both true false e f = refl
both true true e f = absurd (true≢false f)
both false b e f = absurd (true≢false (sym e))

inside : (x : ℕ) (hi : Bound Leg) (leg : Leg) → IsPast x hi → leg.xid.0 ≡ x → range_contains order (Included (leg_at x 0)) hi leg ≡ true
inside x (Excluded last) leg p e =
    both (is_le (order (leg_at x 0) leg)) (is_le (order last leg)) (from_first x leg e) (ap (λ l. is_le (order l leg)) p ∙ not_past x leg e)
inside x Unbounded leg p e = both (is_le (order (leg_at x 0) leg)) false (from_first x leg e) refl
inside x (Included last) leg p e = absurd p

-- the pass over the range finds what a pass over all finds
module _ (x c : ℕ) (hi : Bound Leg) (p : IsPast x hi) where
  abbrev between : Log → Log
  between log = entries_between order (Included (leg_at x 0)) hi log

  passes : (e : Leg × UndoEntry) (rest all : Option UndoRecord) → rest ≡ all → (b : Bool) → is_of_call x c e.0 e.1 ≡ b → (r : Bool) → range_contains order (Included (leg_at x 0)) hi e.0 ≡ r
      → cond r (cond (is_of_call x c e.0 e.1) (record_in e.1) rest) rest ≡ cond (is_of_call x c e.0 e.1) (record_in e.1) all
  passes e rest all same b q true r = ap (cond (is_of_call x c e.0 e.1) (record_in e.1)) same
  passes e rest all same true q false r =
      absurd (true≢false (sym (inside x hi e.0 p (of_transaction x c e.0 e.1 q)) ∙ r))
  passes e rest all same false q false r = same ∙ sym (ap (λ b. cond b (record_in e.1) all) q)

  split : (e : Leg × UndoEntry) (es : Log) (r : Bool) → record_of_call x c (cond r (e ∷ es) es) ≡ cond r (cond (is_of_call x c e.0 e.1) (record_in e.1) (record_of_call x c es)) (record_of_call x c es)
  split e es true = refl
  split e es false = refl

  pub in_range : (log : Log) → record_of_call x c (between log) ≡ record_of_call x c log
  in_range [] = refl
  in_range (e ∷ es) =
      split e (between es) (range_contains order (Included (leg_at x 0)) hi e.0)
      ∙ passes e (record_of_call x c (between es)) (record_of_call x c es) (in_range es) (is_of_call x c e.0 e.1) refl (range_contains order (Included (leg_at x 0)) hi e.0) refl

-- the range runs forward
pub forward : (x : ℕ) → order (leg_at x 0) (leg_at (x + 1) 0) ≡ Less
forward x = ap (λ o. ordering_then o (nat_cmp 0 0)) (below x)
