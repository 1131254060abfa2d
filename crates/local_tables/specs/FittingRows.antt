-- That rows fit their tables: at the opening, after images, and in effects.
use Rattle.std.specs.Prelude.{◌≡◌, ◌+◌, ◌≤◌, ℕ, Bool, not, List, length, All, count_by, Ok}
use Rattle.std.specs.List.{list_any}
use Rattle.seata_types.specs.declared.limits.TheConstants.{CALL_ROWS}
use Rattle.seata_types.specs.declared.rows.Image.{Image}
use Rattle.seata_types.specs.declared.rows.ReadRow.{ReadRow}
use Rattle.seata_types.specs.declared.rows.Row.{Row}
use Rattle.seata_types.specs.declared.statements.Stmt.{Stmt}
use Rattle.local_tables.specs.Calls.{effect}
use Rattle.local_tables.specs.Rows.{Database, AreRows, IsImageOf, IsReadOf, applied, is_key, opened}
use Rattle.local_tables.specs.declared.schemas.Effect.{Effect}
use Rattle.local_tables.specs.declared.schemas.Schema.{Schema}
use Rattle.local_tables.specs.declared.schemas.Way.{Way}

-- opening rows make tables whose rows fit
abbrev pub OpeningRowsFit : Type 0
OpeningRowsFit = (resource : ℕ) (schema : Schema) (opening : List (List ℕ × Row)) → AreRows (opened resource schema opening)

-- images of the tables leave rows that fit, done or undone
abbrev pub ImagesKeepRows : Type 0
ImagesKeepRows = (direction : Way) (images : List Image) (db : Database) → All (IsImageOf db) images → AreRows db → AreRows (applied direction images db)

-- a read of a row that no image is of
abbrev pub is_untouched : List Image → ReadRow → Bool
is_untouched images read = not (list_any (λ i. is_key i.key read.key) images)

-- images and reads of rows that fit these tables, and of no more rows than a call may touch or read
pub record IsEffectOn (db : Database) (result : Effect) : Type 0 where
  pub images : All (IsImageOf db) result.images
  pub reads : All (IsReadOf db) result.reads
  pub few : length result.images + count_by (is_untouched result.images) result.reads ≤ CALL_ROWS

-- an effect of statements, on tables whose rows fit, is such
abbrev pub EffectsFitTheirTables : Type 0
EffectsFitTheirTables = (db : Database) (stmts : List Stmt) (result : Effect) → AreRows db → effect db stmts ≡ Ok result → IsEffectOn db result
