-- The order of a list of keys.
use Rattle.std.specs.Prelude.{Bool}
use Rattle.std.specs.Ordering.{is_lt}
use Rattle.seata_types.specs.Orders.{key_cmp}
use Rattle.seata_types.specs.declared.rows.RowKey.{RowKey}

-- whether the first key comes strictly before the second
unfoldable pub is_below : RowKey → RowKey → Bool
is_below a b = is_lt (key_cmp a b)
