-- Images the other way round, and what undoing gives.
use Rattle.std.specs.Prelude.{◌≡◌, List, map, All, Ok}
use Rattle.std.specs.List.{IsDistinct}
use Rattle.seata_types.specs.declared.rows.Image.{Image}
use Rattle.seata_types.specs.declared.statements.Stmt.{Stmt}
use Rattle.local_tables.specs.Calls.{effect}
use Rattle.local_tables.specs.Rows.{Database, is_key, key_of, row_at, applied, IsMap}
use Rattle.local_tables.specs.declared.schemas.Effect.{Effect}
use Rattle.local_tables.specs.declared.schemas.Way.TheVariants as way

-- before and after exchanged
abbrev pub exchanged : Image → Image
exchanged image = record image { before = image.after; after = image.before }

-- an image's before is the present row
abbrev pub IsPresent : Database → Image → Type 0
IsPresent db image = row_at db.rows image.key ≡ image.before

-- images of different present rows that were done and then undone leave the tables as they were
abbrev pub UndoingRestores : Type 0
UndoingRestores = (db : Database) (images : List Image) → IsMap db.rows → IsDistinct is_key (map key_of images) → All (IsPresent db) images →
    applied way.Undo images (applied way.Do images db) ≡ db

-- so do those of an effect
abbrev pub UndoingAnEffectRestores : Type 0
UndoingAnEffectRestores = (db : Database) (statements : List Stmt) (e : Effect) → IsMap db.rows → effect db statements ≡ Ok e →
    applied way.Undo e.images (applied way.Do e.images db) ≡ db

-- doing the exchanged images is undoing the images
abbrev pub ExchangingUndoes : Type 0
ExchangingUndoes = (db : Database) (images : List Image) → applied way.Do (map exchanged images) db ≡ applied way.Undo images db
