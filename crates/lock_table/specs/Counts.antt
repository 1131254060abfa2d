-- How often the branches of a transaction hold a row, and the index of rows that counts it.
use Rattle.std.specs.Prelude.{◌≡◌, ℕ, suc, ◌+◌, ◌-◌, ◌^◌, ◌<◌, ◌==◌, Bool, true, List, [], ◌∷◌, map, length, Option, Some, None, if◌then◌else◌}
use Rattle.std.specs.List.{AllByRecursion}
use Rattle.std.specs.Map.{lookup}
use Rattle.seata_types.specs.declared.ids.Xid.{Xid}
use Rattle.seata_types.specs.declared.ids.Leg.{Leg}
use Rattle.seata_types.specs.declared.rows.RowKey.{RowKey}
use Rattle.local_tables.specs.Rows.{is_key}
use Rattle.local_tables.specs.Lookups.{IsRising}
use Rattle.durable_records.specs.Locks.{has_key}
use Rattle.lock_table.specs.Locks.{Locks, Holds}
use Rattle.lock_table.specs.declared.holder.Holder.{Holder}

-- ---- what the branches say

abbrev pub once : Bool → ℕ
once b = if b then 1 else 0

-- how often a row is among these
abbrev pub count_key : List RowKey → RowKey → ℕ
count_key [] r = 0
count_key (k ∷ ks) r = once (is_key k r) + count_key ks r

-- how often the branches of x hold a row
abbrev pub times : Holds → Xid → RowKey → ℕ
times [] x r = 0
times (e ∷ es) x r = (if e.0.xid.0 == x.0 then count_key e.1 r else 0) + times es x r

-- each branch holds fewer rows than a list can have
abbrev pub AreShort : Holds → Type 0
AreShort hs = AllByRecursion (λ (e : Leg × List RowKey). length e.1 < 2 ^ 64) hs

-- ---- what the index says

-- rows with their holders
abbrev pub Index : Type 0
Index = List (RowKey × Holder)

abbrev pub held_at : Index → RowKey → Option Holder
held_at rows r = lookup (is_key r) rows

-- the rows with their transactions alone
abbrev pub locks_of : Index → Locks
locks_of rows = map (λ (e : RowKey × Holder). (e.0, e.1.xid)) rows

abbrev pub times_by : Option Holder → Xid → ℕ
times_by None x = 0
times_by (Some h) x = if h.xid.0 == x.0 then suc h.more else 0

-- how often x holds a row
abbrev pub times_at : Index → Xid → RowKey → ℕ
times_at rows x r = times_by (held_at rows r) x

-- these rows stand in order, and each is held as often as the branches say
pub record IsIndex (rows : Index) (hs : Holds) : Type 0 where
  pub order : IsRising rows
  pub agrees : (x : Xid) (r : RowKey) → times_at rows x r ≡ times hs x r
  pub short : AreShort hs

-- ---- taking a row, and giving it back

-- no other transaction than x holds one of these rows
abbrev pub AreFree : Index → Xid → List RowKey → Type 0
AreFree rows x keys = (r : RowKey) (h : Holder) → has_key keys r ≡ true → held_at rows r ≡ Some h → h.xid ≡ x

-- held once more, by x where nobody held it
abbrev pub once_more : Xid → Option Holder → Holder
once_more x None = record { xid = x; more = 0 }
once_more x (Some h) = record { xid = h.xid; more = h.more + 1 }

-- held once less
abbrev pub once_less : Option Holder → Option Holder
once_less None = None
once_less (Some h) = if h.more == 0 then None else Some (record { xid = h.xid; more = h.more - 1 })
