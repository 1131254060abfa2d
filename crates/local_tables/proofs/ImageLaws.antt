-- Images of tables are images of all tables with the same number and schema, whatever their rows are.
use Rattle.std.proofs.Common.{◌≡◌, List, sym, ap, ◌∙◌, subst}
use Rattle.std.proofs.lemmas.List.Elements.{All-weaker}
use Rattle.seata_types.specs.declared.rows.Image.{Image}
use Rattle.local_tables.specs.Rows.{Database, SideFitsKey, IsImageOf, AreImagesOf, table_named}
use Rattle.local_tables.specs.declared.schemas.Schema.{Schema}

image_stays : (db other : Database) (image : Image) → db.resource ≡ other.resource → db.schema ≡ other.schema → IsImageOf db image → IsImageOf other image
image_stays db other image e f h = record {
  resource = h.resource ∙ e;
  table = (h.table.0, ap (λ (s : Schema). table_named s image.key.table) (sym f) ∙ h.table.1);
  before = subst (λ (s : Schema). SideFitsKey s image.key image.before) f h.before;
  after = subst (λ (s : Schema). SideFitsKey s image.key image.after) f h.after;
}

pub images_stay : (db other : Database) (images : List Image) → db.resource ≡ other.resource → db.schema ≡ other.schema → AreImagesOf db images → AreImagesOf other images
images_stay db other images e f h = record {
  each = All-weaker (IsImageOf db) (IsImageOf other) (λ image. image_stays db other image e f) images h.each;
  different = h.different;
}
