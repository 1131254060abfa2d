-- What images put on the tables, key by key.
use Rattle.std.specs.Prelude.{◌≡◌, List, map, Option}
use Rattle.std.specs.List.{IsDistinct}
use Rattle.seata_types.specs.declared.rows.Image.{Image}
use Rattle.seata_types.specs.declared.rows.Row.{Row}
use Rattle.seata_types.specs.declared.rows.RowKey.{RowKey}
use Rattle.local_tables.specs.Lookups.{over, change_at}
use Rattle.local_tables.specs.Rows.{Database, is_key, key_of, row_at, side, applied, IsMap}
use Rattle.local_tables.specs.declared.schemas.Way.{Way}

-- what the image of a key puts there, if there is one
abbrev pub put_at : Way → List Image → RowKey → Option (Option Row)
put_at direction images key = change_at (map (side direction) images) key

-- at the key of an image stands what it puts, and at each other key what stood there
abbrev pub PutsImages : Type 0
PutsImages = (direction : Way) (images : List Image) (db : Database) (key : RowKey) → IsMap db.rows → IsDistinct is_key (map key_of images) →
    row_at (applied direction images db).rows key ≡ over (row_at db.rows key) (put_at direction images key)
