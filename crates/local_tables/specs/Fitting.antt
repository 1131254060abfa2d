-- Whether rows, images and reads are of a resource's tables, as tests.
use Rattle.std.specs.Prelude.{ℕ, ◌==◌, ◌&&◌, Bool, true, false, List, length, zip, slice_get, Option, Some, None, option_map}
use Rattle.std.specs.List.{list_all}
use Rattle.std.specs.Ordering.{is_eq}
use Rattle.seata_types.specs.Orders.{value_cmp}
use Rattle.seata_types.specs.declared.rows.Image.{Image}
use Rattle.seata_types.specs.declared.rows.ReadRow.{ReadRow}
use Rattle.seata_types.specs.declared.rows.Row.{Row}
use Rattle.seata_types.specs.declared.rows.RowKey.{RowKey}
use Rattle.seata_types.specs.declared.rows.Value.{Value}
use Rattle.local_tables.specs.Rows.{fits_row, keyed_row, table_named}
use Rattle.local_tables.specs.declared.schemas.Schema.{Schema}
use Rattle.local_tables.specs.declared.schemas.TableDef.{TableDef}

abbrev pub entry_key : RowKey × Row → RowKey
entry_key e = e.0

-- the key of a row that stands behind its table's name, where it fits the table
abbrev pub row_key : ℕ → Schema → List ℕ × Row → Option RowKey
row_key resource schema named = option_map entry_key (keyed_row resource schema named)

-- whether this value stands there
abbrev pub is_cell : Value → Option Value → Bool
is_cell part None = false
is_cell part (Some v) = is_eq (value_cmp v part)

-- whether a row has this value at this place
abbrev pub has_part : Row → ℕ × Value → Bool
has_part row e = is_cell e.1 (slice_get row.0 e.0)

-- whether the key columns of a row have these values
abbrev pub has_key : TableDef → List Value → Row → Bool
has_key def pk row = (length def.key == length pk) && list_all (has_part row) (zip def.key pk)

-- whether a row fits its table and has this key
abbrev pub fits_key : TableDef → RowKey → Row → Bool
fits_key def key row = fits_row def row && has_key def key.pk row

-- a row that may be absent
abbrev pub side_fits : TableDef → RowKey → Option Row → Bool
side_fits def key None = true
side_fits def key (Some row) = fits_key def key row

-- whether an image is of this resource, and its rows fit this table and have its key; never where there is no table
abbrev pub image_fits : ℕ → Option TableDef → Image → Bool
image_fits resource None i = false
image_fits resource (Some def) i = (i.key.resource == resource) && (side_fits def i.key i.before && side_fits def i.key i.after)

-- whether an image is of a row of one of these tables, and its rows fit the table and have its key
abbrev pub is_image : ℕ → Schema → Image → Bool
is_image resource schema i = image_fits resource (table_named schema i.key.table) i

-- whether a read is of this resource, and its row fits this table and has its key; never where there is no table
abbrev pub read_fits : ℕ → Option TableDef → ReadRow → Bool
read_fits resource None r = false
read_fits resource (Some def) r = (r.key.resource == resource) && fits_key def r.key r.row

-- whether a read is of a row of one of these tables, which fits the table and has its key
abbrev pub is_read : ℕ → Schema → ReadRow → Bool
is_read resource schema r = read_fits resource (table_named schema r.key.table) r
