-- Rows that nobody else holds, and the steps of putting them one after the other.
use Rattle.std.proofs.Common.{◌≡◌, ℕ, suc, ◌+◌, ◌*◌, ◌≤◌, Bool, true, false, cond, ◌==◌, List, ◌∷◌, length, Option, Some, None, refl, sym, ap, ◌∙◌, arith}
use Rattle.std.proofs.lemmas.Bool.{eqb-true}
use Rattle.std.proofs.lemmas.Bool.Decides.{nat_tests}
use Rattle.seata_types.specs.declared.ids.Xid.{Xid}
use Rattle.seata_types.specs.declared.rows.RowKey.{RowKey}
use Rattle.lock_table.specs.Locks.{Locks, locked, if_other, first_locked}
use Rattle.lock_table.specs.Searches.{MayTake}

-- ---- nobody else holds the first row, nor one of the others

other_is : (r : RowKey) (x y : Xid) (rest : Option (RowKey × Xid)) (b : Bool) → (y.0 == x.0) ≡ b → cond b rest (Some (r, y)) ≡ None → (b ≡ true) × (rest ≡ None)
other_is r x y rest true same e = (refl, e)
other_is r x y rest false same e = absurd cc

pub same_xid : (x y : Xid) → x.0 ≡ y.0 → x ≡ y
same_xid x y e = λ i. record { 0 = e i }

first_free : (r : RowKey) (x : Xid) (o : Option Xid) (rest : Option (RowKey × Xid)) → if_other r x o rest ≡ None → (rest ≡ None) × ((y : Xid) → o ≡ Some y → y ≡ x)
first_free r x None rest e = (e, λ y h. absurd cc)
first_free r x (Some z) rest e =
    let here = other_is r x z rest (z.0 == x.0) refl e in
    (here.1, λ y h. let same : z ≡ y = cc in sym same ∙ same_xid z x (eqb-true z.0 x.0 here.0))

pub may_take : (ls : Locks) (x : Xid) (k : RowKey) (ks : List RowKey) → first_locked ls x (k ∷ ks) ≡ None → MayTake ls k x
may_take ls x k ks e = (first_free k x (locked ls k) (first_locked ls x ks) e).1

pub others_free : (ls : Locks) (x : Xid) (k : RowKey) (ks : List RowKey) → first_locked ls x (k ∷ ks) ≡ None → first_locked ls x ks ≡ None
others_free ls x k ks e = (first_free k x (locked ls k) (first_locked ls x ks) e).0

pub xid_itself : (x : Xid) → (x.0 == x.0) ≡ true
xid_itself x = grind (arith, nat_tests)

-- ---- steps

pub suc_times : (k d : ℕ) → suc k * d ≡ k * d + d
suc_times k d = grind arith

pub cost_after : (first before now k total d : ℕ) → before + suc k * d ≤ first + total * d → now ≤ before + d → now + k * d ≤ first + total * d
cost_after first before now k total d so_far one = omega (arith, suc_times k d)

-- ---- one turn of a loop over the rows

pub next_cost : (first before now : ℕ) (k : RowKey) (all rest : List RowKey) (total d : ℕ) → all ≡ k ∷ rest → before + length all * d ≤ first + total * d → now ≤ before + d → now + length rest * d ≤ first + total * d
next_cost first before now k all rest total d is so_far one =
    let same : length all ≡ suc (length rest) = ap length is in
    cost_after first before now (length rest) total d (rw same at so_far) one
