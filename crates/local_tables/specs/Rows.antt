-- The rows of a resource as one finite map from table and key to row, and what images put on it.
use Rattle.std.specs.Prelude.{◌≡◌, ◌==◌, ◌&&◌, ℕ, Bool, true, if◌then◌else◌, List, [], ◌∷◌, length, map, All, Option, Some, None, IsSome, option_map, option_and_then, find, filter_map, slice_get, zip}
use Rattle.std.specs.BTreeMap.{insert_entry, is_at}
use Rattle.std.specs.Map.{lookup, remove_entry, keys_of}
use Rattle.std.specs.List.{AllByRecursion, IsDistinct, list_all}
use Rattle.std.specs.List.Sorted.{IsStrictlySortedBy}
use Rattle.seata_types.specs.Orders.{key_cmp, same_text}
use Rattle.seata_types.specs.declared.rows.Image.{Image}
use Rattle.seata_types.specs.declared.rows.ReadRow.{ReadRow}
use Rattle.seata_types.specs.declared.rows.Row.{Row}
use Rattle.seata_types.specs.declared.rows.RowKey.{RowKey}
use Rattle.seata_types.specs.declared.rows.Value.{Value}
use Rattle.local_tables.specs.Cells.{Column}
use Rattle.local_tables.specs.Checks.{fits_column}
use Rattle.local_tables.specs.declared.schemas.Schema.{Schema}
use Rattle.local_tables.specs.declared.schemas.TableDef.{TableDef}
use Rattle.local_tables.specs.declared.schemas.Way.{Way}
use Rattle.local_tables.specs.declared.schemas.Way.TheVariants as way

-- ---- a finite map, as its rows with their keys, in rising order of keys

abbrev pub Rows : Type 0
Rows = List (RowKey × Row)

-- whether a key is this one
abbrev pub is_key : RowKey → RowKey → Bool
is_key key = is_at (key_cmp key)

abbrev pub row_at : Rows → RowKey → Option Row
row_at rows key = lookup (is_key key) rows

-- the rows with this row at the key, or without one there
abbrev pub put : Rows → RowKey → Option Row → Rows
put rows key (Some row) = insert_entry key_cmp rows key row
put rows key None = remove_entry (is_key key) rows

-- what stands at a key from now on: a row, or none
abbrev pub Change : Type 0
Change = RowKey × Option Row

-- a row that stands at its key from now on, and below it a row that doesn't any more
abbrev pub comes : RowKey × Row → Change
comes e = (e.0, Some e.1)

abbrev pub goes : RowKey × Row → Change
goes e = (e.0, None)

-- the rows after these changes, one after the other
abbrev pub put_all : Rows → List Change → Rows
put_all rows [] = rows
put_all rows (c ∷ cs) = put_all (put rows c.0 c.1) cs

-- ---- the tables of a resource

-- its number, its schema and its rows
pub record Database : Type 0 where
  pub resource : ℕ
  pub schema : Schema
  pub rows : Rows

abbrev pub is_named : List ℕ → TableDef → Bool
is_named name def = same_text def.name name

-- the table of this name
abbrev pub table_named : Schema → List ℕ → Option TableDef
table_named schema name = find (is_named name) schema.tables

-- what f gives of each, where it gives something of all
abbrev pub each_of : {X Y : Type 0} → (X → Option Y) → List X → Option (List Y)
each_of f [] = Some []
each_of f (x ∷ xs) = option_and_then (λ y. option_map (λ ys. y ∷ ys) (each_of f xs)) (f x)

-- a row's values in the key columns, in key order
abbrev pub key_values : TableDef → Row → Option (List Value)
key_values def row = each_of (slice_get row.0) def.key

-- the key of a row of a table, by the values of the key columns
abbrev pub key_in : ℕ → TableDef → List Value → RowKey
key_in resource def pk = record { resource = resource; table = def.name; pk = pk }

-- whether a key is of this table
abbrev pub is_in : ℕ → TableDef → RowKey → Bool
is_in resource def key = (key.resource == resource) && same_text key.table def.name

-- a row of a table, behind the key with these values
abbrev pub with_key : ℕ → TableDef → Row → List Value → RowKey × Row
with_key resource def row pk = (key_in resource def pk, row)

-- a row of a table with its key, which has the values of the key columns
abbrev pub keyed : ℕ → TableDef → Row → Option (RowKey × Row)
keyed resource def row = option_map (with_key resource def row) (key_values def row)

-- ---- rows that fit their table

-- whether a value is of the type that its table gives to the column
abbrev pub fits_cell : TableDef → Column × Value → Bool
fits_cell def e = fits_column def e.0.0 e.1

-- whether a row has as many values as its table has columns, each of its column's type
abbrev pub fits_row : TableDef → Row → Bool
fits_row def row = (length row.0 == length def.columns) && list_all (fits_cell def) (zip def.columns row.0)

-- a row of this table with this key: it fits the table, and its key columns have the key's values
pub record IsRowOf (def : TableDef) (key : RowKey) (row : Row) : Type 0 where
  pub fits : fits_row def row ≡ true
  pub values : key_values def row ≡ Some key.pk

-- a row is of its key's table, with this key
abbrev pub FitsKey : Schema → RowKey → Row → Type 0
FitsKey schema key row = (def : TableDef) → table_named schema key.table ≡ Some def → IsRowOf def key row

-- ---- the tables at the opening

-- a row of this table with its key, where it fits the table
abbrev pub opening_entry : ℕ → Option TableDef → Row → Option (RowKey × Row)
opening_entry resource None row = None
opening_entry resource (Some def) row = if fits_row def row then keyed resource def row else None

-- a row that stands behind its table's name, with its key, where the table is there and the row fits it
abbrev pub keyed_row : ℕ → Schema → List ℕ × Row → Option (RowKey × Row)
keyed_row resource schema o = opening_entry resource (table_named schema o.0) o.1

-- each of these rows that fits its table, with its key
abbrev pub opening_rows : ℕ → Schema → List (List ℕ × Row) → List (RowKey × Row)
opening_rows resource schema opening = filter_map (keyed_row resource schema) opening

-- each opening row that fits its table, at its key
abbrev pub opened : ℕ → Schema → List (List ℕ × Row) → Database
opened resource schema opening =
    record { resource = resource; schema = schema; rows = put_all [] (map comes (opening_rows resource schema opening)) }

-- opening rows that fit the schema's tables, each with values in its key columns, and no two with one key
pub record IsOpening (resource : ℕ) (schema : Schema) (opening : List (List ℕ × Row)) : Type 0 where
  pub each : All (λ o. IsSome (keyed_row resource schema o)) opening
  pub different : IsDistinct is_key (keys_of (opening_rows resource schema opening))

-- ---- images put on the tables

-- what an image puts at its row: its after, or to undo it its before
abbrev pub side : Way → Image → Change
side way.Do image = (image.key, image.after)
side way.Undo image = (image.key, image.before)

-- the tables with every image's after, or every image's before
abbrev pub applied : Way → List Image → Database → Database
applied direction images db = record db { rows = put_all db.rows (map (side direction) images) }

abbrev pub key_of : Image → RowKey
key_of image = image.key

-- a row that may be absent
abbrev pub SideFitsKey : Schema → RowKey → Option Row → Type 0
SideFitsKey schema key None = Unit {0}
SideFitsKey schema key (Some row) = FitsKey schema key row

-- an image of a row of one of these tables, whose rows fit the table and have its key
pub record IsImageOf (db : Database) (image : Image) : Type 0 where
  pub resource : image.key.resource ≡ db.resource
  pub table : (def : TableDef) × (table_named db.schema image.key.table ≡ Some def)
  pub before : SideFitsKey db.schema image.key image.before
  pub after : SideFitsKey db.schema image.key image.after

-- images of different rows of these tables
pub record AreImagesOf (db : Database) (images : List Image) : Type 0 where
  pub each : All (IsImageOf db) images
  pub different : IsDistinct is_key (map key_of images)

-- a read of a row of one of these tables, which fits the table and has its key
pub record IsReadOf (db : Database) (read : ReadRow) : Type 0 where
  pub resource : read.key.resource ≡ db.resource
  pub table : (def : TableDef) × (table_named db.schema read.key.table ≡ Some def)
  pub row : FitsKey db.schema read.key read.row

-- images in rising order of their keys
abbrev pub AreRising : List Image → Type 0
AreRising images = IsStrictlySortedBy key_cmp (map key_of images)

-- the rows stand in rising order of their keys
abbrev pub IsMap : Rows → Type 0
IsMap rows = IsStrictlySortedBy key_cmp (keys_of rows)

-- a row that stands behind its table's name fits the table, and has this key
abbrev pub HasItsKey : ℕ → Schema → RowKey × Row → Type 0
HasItsKey resource schema e = keyed_row resource schema (e.0.table, e.1) ≡ Some e

-- the rows stand in order, and each fits its table and has its key
pub record AreRows (db : Database) : Type 0 where
  pub in_order : IsMap db.rows
  pub keyed : AllByRecursion (HasItsKey db.resource db.schema) db.rows
