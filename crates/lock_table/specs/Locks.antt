-- Which rows each branch holds, in order of transaction and branch, and what that says of a row.
use Rattle.std.specs.Prelude.{◌≡◌, ℕ, ◌<◌, ◌≤◌, ◌+◌, ◌*◌, ◌^◌, ◌==◌, ◌&&◌, Bool, true, false, not, List, [], ◌∷◌, ◌++◌, filter, find, Option, Some, None, unwrap_or, if◌then◌else◌}
use Rattle.std.specs.List.{list_any}
use Rattle.std.specs.BTreeMap.{insert_entry, is_at}
use Rattle.std.specs.Map.{lookup, remove_entry, keys_of}
use Rattle.std.specs.declared.cmp.Ordering.{Ordering}
use Rattle.std.specs.Ordering.{nat_cmp, ordering_then}
use Rattle.seata_types.specs.Orders.{key_cmp}
use Rattle.seata_types.specs.declared.ids.Xid.{Xid}
use Rattle.seata_types.specs.declared.ids.Leg.{Leg}
use Rattle.seata_types.specs.declared.rows.RowKey.{RowKey}
use Rattle.local_tables.specs.Rows.{is_key}
use Rattle.durable_records.specs.Locks.{has_key}

-- ---- rows with their holders

abbrev pub Locks : Type 0
Locks = List (RowKey × Xid)

-- the holder of a row
abbrev pub locked : Locks → RowKey → Option Xid
locked ls r = lookup (is_key r) ls

-- ---- branches with the rows that they hold

abbrev pub Holds : Type 0
Holds = List (Leg × List RowKey)

abbrev pub leg_cmp : Leg → Leg → Ordering
leg_cmp a b = ordering_then (nat_cmp a.xid.0 b.xid.0) (nat_cmp a.branch.0 b.branch.0)

abbrev pub is_leg : Leg → Leg → Bool
is_leg leg = is_at (leg_cmp leg)

-- the rows of a branch, if it holds any
abbrev pub rows_at : Holds → Leg → Option (List RowKey)
rows_at hs leg = lookup (is_leg leg) hs

abbrev pub rows_of : Holds → Leg → List RowKey
rows_of hs leg = unwrap_or (rows_at hs leg) []

abbrev pub is_held_by : Xid → RowKey → Leg × List RowKey → Bool
is_held_by x r e = (e.0.xid.0 == x.0) && has_key e.1 r

-- whether x holds a row, by some branch
abbrev pub holds : Holds → Xid → RowKey → Bool
holds hs x r = list_any (is_held_by x r) hs

-- no row has two holders
abbrev pub HaveOneHolder : Holds → Type 0
HaveOneHolder hs = (x y : Xid) (r : RowKey) → holds hs x r ≡ true → holds hs y r ≡ true → x ≡ y

-- ---- all locks

abbrev pub is_holder : Option Xid → Xid → Bool
is_holder None x = false
is_holder (Some y) x = y.0 == x.0

abbrev pub locks_on : Xid → List RowKey → Locks → Locks
locks_on x [] ls = ls
locks_on x (k ∷ ks) ls = insert_entry key_cmp (locks_on x ks ls) k x

-- each row that is held and its holder, in the order of rows
abbrev pub locks : Holds → Locks
locks [] = []
locks (e ∷ es) = locks_on e.0.xid e.1 (locks es)

-- who holds a row
abbrev pub holder : Holds → RowKey → Option Xid
holder hs r = locked (locks hs) r

-- ---- taking rows, and giving them back

abbrev pub if_other : RowKey → Xid → Option Xid → Option (RowKey × Xid) → Option (RowKey × Xid)
if_other r x None rest = rest
if_other r x (Some y) rest = if y.0 == x.0 then rest else Some (r, y)

abbrev pub first_locked : Locks → Xid → List RowKey → Option (RowKey × Xid)
first_locked ls x [] = None
first_locked ls x (r ∷ rs) = if_other r x (locked ls r) (first_locked ls x rs)

-- the first of these rows that another transaction than x holds, with its holder
abbrev pub first_held : Holds → Xid → List RowKey → Option (RowKey × Xid)
first_held hs x rs = first_locked (locks hs) x rs

-- a branch holds these rows too
abbrev pub with_rows : Holds → Leg → List RowKey → Holds
with_rows hs leg rows = insert_entry leg_cmp hs leg (rows_of hs leg ++ rows)

-- a branch holds nothing
abbrev pub without_leg : Holds → Leg → Holds
without_leg hs leg = remove_entry (is_leg leg) hs

abbrev pub is_leg_of : Xid → Leg → Bool
is_leg_of x leg = leg.xid.0 == x.0

-- the least branch that x may have
abbrev pub least_leg : Xid → Leg
least_leg x = record { xid = x; branch = record { 0 = 0 } }

-- the first branch of x
abbrev pub leg_of : Holds → Xid → Option Leg
leg_of hs x = find (is_leg_of x) (keys_of hs)

abbrev pub is_of_other : Xid → Leg × List RowKey → Bool
is_of_other x e = not (is_leg_of x e.0)

-- no branch of x holds anything
abbrev pub without_xid : Holds → Xid → Holds
without_xid hs x = filter (is_of_other x) hs

-- ---- steps

-- at most so many steps for each binary digit of a number of rows: a number below 2 ^ d has at most d
abbrev pub TakesAtMost : (times rows old new : ℕ) → Type 0
TakesAtMost times rows old new = (d : ℕ) → rows < 2 ^ d → new ≤ old + times * d
