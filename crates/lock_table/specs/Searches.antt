-- Places in a list of rows in rising order.
use Rattle.std.specs.Prelude.{◌≡◌, ℕ, ◌<◌, ◌≤◌, length, slice_get, Some}
use Rattle.std.specs.declared.cmp.Ordering.TheVariants.{Less, Greater}
use Rattle.seata_types.specs.Orders.{key_cmp}
use Rattle.seata_types.specs.declared.ids.Xid.{Xid}
use Rattle.seata_types.specs.declared.rows.RowKey.{RowKey}
use Rattle.lock_table.specs.declared.holder.Holder.{Holder}
use Rattle.lock_table.specs.Locks.{Locks, locked}
use Rattle.lock_table.specs.Counts.{Index}

-- the row stands there
pub record IsPlace (rows : Index) (r : RowKey) (i : ℕ) : Type 0 where
  pub holder : Holder
  pub there : slice_get rows i ≡ Some (r, holder)

-- the row belongs there and isn't there
pub record IsGap (rows : Index) (r : RowKey) (i : ℕ) : Type 0 where
  pub within : i ≤ length rows
  pub below : (j : ℕ) (e : RowKey × Holder) → j < i → slice_get rows j ≡ Some e → key_cmp r e.0 ≡ Greater
  pub above : (e : RowKey × Holder) → slice_get rows i ≡ Some e → key_cmp r e.0 ≡ Less

-- nobody else holds the row
abbrev pub MayTake : Locks → RowKey → Xid → Type 0
MayTake ls r x = (y : Xid) → locked ls r ≡ Some y → y ≡ x
