-- The images of two lists of statements, one after the other.
use Rattle.std.specs.Prelude.{◌≡◌, Bool, List, [], ◌∷◌, ◌++◌, Option, Some, None, Ok, find}
use Rattle.std.specs.Ordering.{match_ordering}
use Rattle.seata_types.specs.Orders.{key_cmp}
use Rattle.seata_types.specs.declared.rows.Image.{Image}
use Rattle.seata_types.specs.declared.rows.RowKey.{RowKey}
use Rattle.seata_types.specs.declared.statements.Stmt.{Stmt}
use Rattle.local_tables.specs.Calls.{effect}
use Rattle.local_tables.specs.Rows.{Database, is_key, applied, AreRising, IsMap}
use Rattle.local_tables.specs.declared.schemas.Effect.{Effect}
use Rattle.local_tables.specs.declared.schemas.Way.TheVariants as way

abbrev pub is_of : RowKey → Image → Bool
is_of key image = is_key key image.key

-- the image of a row
abbrev pub image_at : List Image → RowKey → Option Image
image_at images key = find (is_of key) images

-- the image of a row that both changed
abbrev pub from_to : Image → Image → Image
from_to first second = record first { after = second.after }

-- of two images of a row, the first's before and the second's after
abbrev pub both : Option Image → Option Image → Option Image
both (Some first) (Some second) = Some (from_to first second)
both None second = second
both first None = first

-- of each row that one of them changed, the first before and the last after, in rising order of keys
pub record IsJoined (first second joined : List Image) : Type 0 where
  pub rising : AreRising joined
  pub each : (key : RowKey) → image_at joined key ≡ both (image_at first key) (image_at second key)

-- ---- the merge of two lists in rising order

-- x goes before, after or with the least of ys; what is behind x is merged by rest
abbrev pub placed : Image → (List Image → List Image) → List Image → List Image
placed x rest [] = x ∷ rest []
placed x rest (y ∷ ys) = match_ordering (key_cmp x.key y.key) (x ∷ rest (y ∷ ys)) (from_to x y ∷ rest ys) (y ∷ placed x rest ys)

-- where both have an image of a row, there is one from the first's before to the second's after
abbrev pub merged : List Image → List Image → List Image
merged [] ys = ys
merged (x ∷ xs) ys = placed x (merged xs) ys

-- ---- one list of statements after another

-- where two lists of statements, one after the other, have an effect, its images are those of the first joined with
-- those of the second on the tables that the first left
abbrev pub JoinsEffects : Type 0
JoinsEffects = (db : Database) (first second : List Stmt) (e f g : Effect) → IsMap db.rows →
    effect db first ≡ Ok e → effect (applied way.Do e.images db) second ≡ Ok f → effect db (first ++ second) ≡ Ok g →
    IsJoined e.images f.images g.images
