-- For the proofs alone: places in a list of entries in rising order of keys.
use Rattle.std.specs.Prelude.{◌≡◌, ℕ, ◌<◌, ◌≤◌, List, length, slice_get, Some}
use Rattle.std.specs.declared.cmp.Ordering.TheVariants.{Less, Greater}
use Rattle.seata_types.specs.Orders.{key_cmp}
use Rattle.seata_types.specs.declared.rows.RowKey.{RowKey}

-- keys with what stands at each
abbrev pub Entries : Type 0 → Type 0
Entries X = List (RowKey × X)

-- the key stands there
pub record IsPlace {X : Type 0} (es : Entries X) (key : RowKey) (i : ℕ) : Type 0 where
  pub value : X
  pub there : slice_get es i ≡ Some (key, value)

-- the key belongs there and isn't there
pub record IsGap {X : Type 0} (es : Entries X) (key : RowKey) (i : ℕ) : Type 0 where
  pub within : i ≤ length es
  pub below : (j : ℕ) (e : RowKey × X) → j < i → slice_get es j ≡ Some e → key_cmp key e.0 ≡ Greater
  pub above : (e : RowKey × X) → slice_get es i ≡ Some e → key_cmp key e.0 ≡ Less
