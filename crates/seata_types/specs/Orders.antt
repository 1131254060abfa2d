-- The order of values and of rows' keys: keys by resource, then table, then part by part. Numbers compare by size, texts
-- by bytes, and a number stands below a text.
use Rattle.std.specs.Prelude.{ℕ, nat_eq, Bool, List}
use Rattle.std.specs.declared.cmp.Ordering.{Ordering}
use Rattle.std.specs.declared.cmp.Ordering.TheVariants.{Less, Greater}
use Rattle.std.specs.Ordering.{nat_cmp, int_cmp, ordering_then}
use Rattle.std.specs.Cmp.Lexicographic.{slice_cmp, pointwise}
use Rattle.seata_types.specs.declared.rows.Value.{Value}
use Rattle.seata_types.specs.declared.rows.Value.TheVariants as value
use Rattle.seata_types.specs.declared.rows.RowKey.{RowKey}

-- whether two texts are one
abbrev pub same_text : List ℕ → List ℕ → Bool
same_text a b = pointwise nat_eq a b

-- which of two values stands first
abbrev pub value_cmp : Value → Value → Ordering
value_cmp (value.Int a) (value.Int b) = int_cmp a b
value_cmp (value.Int a) (value.Text t) = Less
value_cmp (value.Text s) (value.Int b) = Greater
value_cmp (value.Text s) (value.Text t) = slice_cmp nat_cmp s t

-- which of two keys stands first
abbrev pub key_cmp : RowKey → RowKey → Ordering
key_cmp a b =
    ordering_then (nat_cmp a.resource b.resource) (ordering_then (slice_cmp nat_cmp a.table b.table) (slice_cmp value_cmp a.pk b.pk))
