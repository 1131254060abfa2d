-- The rows that a guarded local transaction asks for: a key's place among others, and that they rise.
use Rattle.std.specs.Prelude.{ℕ, not, Bool, List, Option}
use Rattle.std.specs.List.{position}
use Rattle.std.specs.List.Sorted.{IsStrictlySortedBy}
use Rattle.std.specs.Ordering.{is_gt}
use Rattle.seata_types.specs.Orders.{key_cmp}
use Rattle.seata_types.specs.declared.rows.RowKey.{RowKey}

-- whether a key isn't below this one
abbrev pub is_from : RowKey → RowKey → Bool
is_from key other = not (is_gt (key_cmp key other))

-- where the first key stands that isn't below this one
abbrev pub first_from : RowKey → List RowKey → Option ℕ
first_from key keys = position (is_from key) keys

-- each key stands above the one before it
abbrev pub Rises : List RowKey → Type 0
Rises keys = IsStrictlySortedBy key_cmp keys

-- where the first of these rise, the second do
abbrev pub KeepsOrder : List RowKey → List RowKey → Type 0
KeepsOrder old new = Rises old → Rises new
