-- What holds of the effect of statements, on any tables.
use Rattle.std.specs.Prelude.{◌≡◌, ◌⊎◌, true, if◌then◌else◌, List, [], ◌∷◌, ◌++◌, map, All, Option, Some, None, Ok}
use Rattle.std.specs.List.Sorted.{IsStrictlySortedBy}
use Rattle.seata_types.specs.Orders.{key_cmp}
use Rattle.seata_types.specs.declared.rows.Image.{Image}
use Rattle.seata_types.specs.declared.rows.ReadRow.{ReadRow}
use Rattle.seata_types.specs.declared.rows.Row.{Row}
use Rattle.seata_types.specs.declared.rows.RowKey.{RowKey}
use Rattle.seata_types.specs.declared.statements.Stmt.{Stmt}
use Rattle.local_tables.specs.Calls.{effect}
use Rattle.local_tables.specs.Checks.{table_of}
use Rattle.local_tables.specs.Rows.{Database, AreRising, IsMap, applied, is_in, is_key, row_at, table_named}
use Rattle.local_tables.specs.Touches.{readings}
use Rattle.local_tables.specs.declared.schemas.Effect.{Effect}
use Rattle.local_tables.specs.declared.schemas.TableDef.{TableDef}
use Rattle.local_tables.specs.declared.schemas.Way.TheVariants as way

-- a key of the table that the statement names
pub record IsInTable (db : Database) (stmt : Stmt) (key : RowKey) : Type 0 where
  pub def : TableDef
  pub named : table_named db.schema (table_of stmt) ≡ Some def
  pub lies : is_in db.resource def key ≡ true

-- a key of the table that one of the statements names
abbrev pub IsInTables : Database → List Stmt → RowKey → Type 0
IsInTables db [] key = ⊥
IsInTables db (s ∷ ss) key = IsInTable db s key ⊎ IsInTables db ss key

-- an image of a row of the statements' tables, with the row that stood before them
pub record IsImageBy (db : Database) (stmts : List Stmt) (image : Image) : Type 0 where
  pub lies : IsInTables db stmts image.key
  pub before : image.before ≡ row_at db.rows image.key

abbrev pub read_key : ReadRow → RowKey
read_key read = read.key

-- images and reads of different rows of the statements' tables, in rising order of keys, each image with the row that stood
-- before
pub record IsEffectOf (db : Database) (stmts : List Stmt) (result : Effect) : Type 0 where
  pub rising : AreRising result.images
  pub images : All (IsImageBy db stmts) result.images
  pub reads_rise : IsStrictlySortedBy key_cmp (map read_key result.reads)
  pub reads : All (λ read. IsInTables db stmts read.key) result.reads

-- an effect of statements, on any tables, is such
abbrev pub EffectsAreOfTheirTables : Type 0
EffectsAreOfTheirTables = (db : Database) (stmts : List Stmt) (result : Effect) → effect db stmts ≡ Ok result → IsEffectOf db stmts result

-- ---- reads, as read last

-- the row at a key as it was read last, if it was read
abbrev pub read_at : List ReadRow → RowKey → Option Row
read_at [] key = None
read_at (read ∷ reads) key = if is_key key read.key then Some read.row else read_at reads key

-- a later reading in place of an earlier one, where there is a later one
abbrev pub read_later : (earlier later : Option Row) → Option Row
read_later earlier None = earlier
read_later earlier (Some row) = Some row

-- where one more statement stands behind others, each row is as this one reads it, on the tables as the others leave them,
-- and where it doesn't read it, as the others read it last
abbrev pub ReadsAreTheLast : Type 0
ReadsAreTheLast = (db : Database) (stmts : List Stmt) (last : Stmt) (def : TableDef) (before after : Effect) (key : RowKey) → IsMap db.rows
    → effect db stmts ≡ Ok before → effect db (stmts ++ last ∷ []) ≡ Ok after → table_named db.schema (table_of last) ≡ Some def
    → read_at after.reads key ≡ read_later (read_at before.reads key) (row_at (readings db.resource def last (applied way.Do before.images db).rows) key)
