-- For the proofs alone: what holds of the tables of a resource at all times, and of the changes of a call on them.
use Rattle.std.specs.Prelude.{◌≡◌, ℕ, Bool, List, [], ◌∷◌, Option, Some, None, is_some, is_none}
use Rattle.std.proofs.Common.{Bor}
use Rattle.std.specs.List.{AllByRecursion}
use Rattle.std.specs.Map.{set_value, remove_entry}
use Rattle.seata_types.specs.declared.rows.Row.{Row}
use Rattle.seata_types.specs.declared.rows.RowKey.{RowKey}
use Rattle.local_tables.specs.Rows.{Rows, Change, FitsKey, SideFitsKey, IsMap, is_key, put, row_at, table_named}
use Rattle.local_tables.specs.declared.schemas.Schema.{Schema}
use Rattle.local_tables.specs.declared.schemas.TableDef.{TableDef}

-- the rows stand in rising order of their keys, and each fits its table and has its key
pub record IsSound (schema : Schema) (rows : Rows) : Type 0 where
  pub in_order : IsMap rows
  pub keyed : (key : RowKey) (row : Row) → row_at rows key ≡ Some row → FitsKey schema key row

-- the rows with an opening row at its key
abbrev pub with_opened : Rows → Option (RowKey × Row) → Rows
with_opened rows None = rows
with_opened rows (Some e) = put rows e.0 (Some e.1)

-- a change at a key of one of these tables, whose row fits the table and has this key
pub record IsChangeOf (resource : ℕ) (schema : Schema) (c : Change) : Type 0 where
  pub number : c.0.resource ≡ resource
  pub in_table : (def : TableDef) × (table_named schema c.0.table ≡ Some def)
  pub fits : SideFitsKey schema c.0 c.1

abbrev pub AreChangesOf : ℕ → Schema → List Change → Type 0
AreChangesOf resource schema changes = AllByRecursion (IsChangeOf resource schema) changes

-- the rows with the row at a key that was there before: of one that is there, or without it
abbrev pub restored : Rows → RowKey → Option Row → Rows
restored rows key (Some row) = set_value (is_key key) rows row
restored rows key None = remove_entry (is_key key) rows

-- whether a change puts a row, or takes one away
abbrev pub puts : Change → Bool
puts c = is_some c.1

abbrev pub removes : Change → Bool
removes c = is_none c.1

-- a key with the row that stood there
abbrev pub kept_at : Bor RowKey × Option Row → RowKey × Option Row
kept_at k = (k.0.now, k.1)

-- the rows after all that was kept stands again, from the last one on
abbrev pub given_back : Rows → List (RowKey × Option Row) → Rows
given_back rows [] = rows
given_back rows (k ∷ ks) = restored (given_back rows ks) k.0 k.1
