-- For the proofs alone: the rows under a call's changes, key by key, and the key that a condition asks for.
use Rattle.std.specs.Prelude.{◌≡◌, ℕ, Bool, true, false, ◌&&◌, if◌then◌else◌, filter, List, [], ◌∷◌, ◌++◌, Option, Some, None, is_some}
use Rattle.std.specs.Cmp.Lexicographic.{slice_cmp}
use Rattle.std.specs.Ordering.{is_lt, nat_cmp, ordering_then}
use Rattle.std.specs.List.Sorted.{IsStrictlySortedBy}
use Rattle.std.specs.Map.{lookup, keys_of}
use Rattle.std.proofs.lemmas.Map.Entries.{option_filter}
use Rattle.seata_types.specs.Condition.{Condition}
use Rattle.seata_types.specs.Condition as condition
use Rattle.seata_types.specs.Orders.{key_cmp}
use Rattle.seata_types.specs.declared.conditions.Op.{Op}
use Rattle.seata_types.specs.declared.conditions.Op.TheVariants as op
use Rattle.seata_types.specs.declared.rows.Row.{Row}
use Rattle.seata_types.specs.declared.rows.RowKey.{RowKey}
use Rattle.seata_types.specs.declared.rows.Value.{Value}
use Rattle.local_tables.specs.Cells.{place_of}
use Rattle.local_tables.specs.Checks.{is_place}
use Rattle.local_tables.specs.Rows.{Rows, Change, IsRowOf, is_key, row_at, each_of, key_values}
use Rattle.local_tables.specs.declared.schemas.TableDef.{TableDef}

-- entries in rising order of their keys
abbrev pub IsRising : {X : Type 0} → List (RowKey × X) → Type 0
IsRising es = IsStrictlySortedBy key_cmp (keys_of es)

-- what stands at a key, by what stood there and the change there, if there is one
abbrev pub over : Option Row → Option (Option Row) → Option Row
over old None = old
over old (Some new) = new

-- the change at a key, if there is one
abbrev pub change_at : List Change → RowKey → Option (Option Row)
change_at changes key = lookup (is_key key) changes

-- whether a row stands at a key
abbrev pub stands : Rows → RowKey → Bool
stands rows key = is_some (row_at rows key)

-- a change as far as a test lets its row stand
abbrev pub kept : (RowKey × Row → Bool) → Change → Change
kept test c = (c.0, option_filter (λ row. test (c.0, row)) c.1)

-- each row of a table has its key
abbrev pub HasKeysOf : TableDef → Rows → Type 0
HasKeysOf def rows =
    (key : RowKey) (row : Row) → row_at rows key ≡ Some row → key.table ≡ def.name → key_values def row ≡ Some key.pk

-- each row of a table fits it, and has its key
abbrev pub AreRowsOf : TableDef → Rows → Type 0
AreRowsOf def rows =
    (key : RowKey) (row : Row) → row_at rows key ≡ Some row → key.table ≡ def.name → IsRowOf def key row

-- ---- the key that a condition asks for

abbrev pub is_equality : Op → Bool
is_equality op.Eq = true
is_equality _ = false

-- the first of the two that is there
abbrev pub first_of_two : Option Value → Option Value → Option Value
first_of_two (Some found) other = Some found
first_of_two None other = other

-- the literal that the column at a place equals wherever the condition holds, where the condition or a side of an AND says
-- so
abbrev pub literal_at : TableDef → Condition → ℕ → Option Value
literal_at def (condition.Cmp column test literal) place =
    if is_equality test && is_place place (place_of def column) then Some literal else None
literal_at def (condition.And left right) place = first_of_two (literal_at def left place) (literal_at def right place)
literal_at def _ place = None

-- the literals of all key columns, where the condition asks for each
abbrev pub key_literals : TableDef → Condition → Option (List Value)
key_literals def asked = each_of (literal_at def asked) def.key

-- the one row at a key, if there is one
abbrev pub only : RowKey → Option Row → Rows
only key None = []
only key (Some row) = (key, row) ∷ []

-- ---- the rows of a table among those of others

-- a key above all keys of a table
abbrev pub key_above : ℕ → TableDef → RowKey
key_above resource def = record { resource = resource; table = def.name ++ 0 ∷ []; pk = [] }

-- whether a key is of a table that stands before this one
abbrev pub is_before : ℕ → TableDef → RowKey → Bool
is_before resource def key = is_lt (ordering_then (nat_cmp key.resource resource) (slice_cmp nat_cmp key.table def.name))

-- of all rows some are left in front, and of those behind the test keeps these
pub record Passes (test : RowKey × Row → Bool) (all left found : Rows) : Type 0 where
  pub done : Rows
  pub whole : all ≡ left ++ done
  pub keeps : found ≡ filter test done
