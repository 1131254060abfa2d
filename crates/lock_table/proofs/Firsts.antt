-- The first row that another transaction holds, in two lists one after the other.
use Rattle.std.proofs.Common.{◌≡◌, Bool, true, false, cond, if◌then◌else◌, ◌==◌, List, [], ◌∷◌, ◌++◌, Option, Some, None, Result, Ok, Err, refl, ◌∙◌}
use Rattle.std.specs.Prelude.{IfOk}
use Rattle.seata_types.specs.declared.ids.Xid.{Xid}
use Rattle.seata_types.specs.declared.rows.RowKey.{RowKey}
use Rattle.lock_table.specs.Locks.{Locks, locked, if_other, first_locked}

pub listed_as : {X E : Type 0} (a b : X) → a ≡ b → (r : Result X E) → IfOk r (λ x. x ≡ a) → IfOk r (λ x. x ≡ b)
listed_as a b is (Ok x) e = e ∙ is
listed_as a b is (Err f) e = e

found_on : (b : Bool) (rest all s : Option (RowKey × Xid)) (f : RowKey × Xid) → (rest ≡ Some f → all ≡ Some f) → cond b rest s ≡ Some f → cond b all s ≡ Some f
found_on true rest all s f later e = later e
found_on false rest all s f later e = e

found_at : (r : RowKey) (x : Xid) (o : Option Xid) (rest all : Option (RowKey × Xid)) (f : RowKey × Xid) → (rest ≡ Some f → all ≡ Some f) → if_other r x o rest ≡ Some f → if_other r x o all ≡ Some f
found_at r x None rest all f later e = later e
found_at r x (Some y) rest all f later e = found_on (y.0 == x.0) rest all (Some (r, y)) f later e

-- the first of some rows is the first of these and more
pub found_first : (ls : Locks) (x : Xid) (a b : List RowKey) (f : RowKey × Xid) → first_locked ls x a ≡ Some f → first_locked ls x (a ++ b) ≡ Some f
found_first ls x [] b f e = absurd cc
found_first ls x (r ∷ rs) b f e = found_at r x (locked ls r) (first_locked ls x rs) (first_locked ls x (rs ++ b)) f (found_first ls x rs b f) e

none_on : (t : Bool) (rest all o : Option (RowKey × Xid)) (s : RowKey × Xid) → (rest ≡ None → all ≡ o) → cond t rest (Some s) ≡ None → cond t all (Some s) ≡ o
none_on true rest all o s later e = later e
none_on false rest all o s later e = absurd cc

none_at : (r : RowKey) (x : Xid) (h : Option Xid) (rest all o : Option (RowKey × Xid)) → (rest ≡ None → all ≡ o) → if_other r x h rest ≡ None → if_other r x h all ≡ o
none_at r x None rest all o later e = later e
none_at r x (Some y) rest all o later e = none_on (y.0 == x.0) rest all o (r, y) later e

-- where none of the first rows is held, the first of all is that of the others
pub none_first : (ls : Locks) (x : Xid) (a b : List RowKey) → first_locked ls x a ≡ None → first_locked ls x (a ++ b) ≡ first_locked ls x b
none_first ls x [] b e = refl
none_first ls x (r ∷ rs) b e = none_at r x (locked ls r) (first_locked ls x rs) (first_locked ls x (rs ++ b)) (first_locked ls x b) (none_first ls x rs b) e

free_by : (ls : Locks) (x : Xid) (k : RowKey) (o : Option Xid) (all rest : Option (RowKey × Xid)) → if_other k x o all ≡ None → (all ≡ None → rest ≡ None) → if_other k x o rest ≡ None
free_by ls x k None all rest e below = below e
free_by ls x k (Some y) all rest e below = by (y.0 == x.0) e
  where
    by : (b : Bool) → (if b then all else Some (k, y)) ≡ None → (if b then rest else Some (k, y)) ≡ None
    by true e = below e
    by false e = e

-- where none of all is held, none of the first ones is
pub free_first : (ls : Locks) (x : Xid) (a b : List RowKey) → first_locked ls x (a ++ b) ≡ None → first_locked ls x a ≡ None
free_first ls x [] b e = refl
free_first ls x (k ∷ ks) b e = free_by ls x k (locked ls k) (first_locked ls x (ks ++ b)) (first_locked ls x ks) e (free_first ls x ks b)
