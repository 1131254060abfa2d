-- The sides of images: their keys, and what stands at each key once they were put.
use Rattle.std.proofs.Common.{◌≡◌, List, [], ◌∷◌, map, refl, ap, sym, subst}
use Rattle.std.specs.List.{IsDistinct}
use Rattle.std.specs.Map.{keys_of}
use Rattle.seata_types.specs.declared.rows.Image.{Image}
use Rattle.seata_types.specs.declared.rows.RowKey.{RowKey}
use Rattle.local_tables.specs.Lookups.{over}
use Rattle.local_tables.specs.Puts.{put_at}
use Rattle.local_tables.specs.Rows.{Database, is_key, key_of, row_at, side, applied, IsMap}
use Rattle.local_tables.specs.declared.schemas.Way.{Way}
use Rattle.local_tables.specs.declared.schemas.Way.TheVariants as way
use Rattle.local_tables.proofs.PutLaws.{row_at_put_all}

pub keys-sides : (direction : Way) (images : List Image) → keys_of (map (side direction) images) ≡ map key_of images
keys-sides direction [] = refl
keys-sides way.Do (i ∷ is) = ap (λ ks. i.key ∷ ks) (keys-sides way.Do is)
keys-sides way.Undo (i ∷ is) = ap (λ ks. i.key ∷ ks) (keys-sides way.Undo is)

pub distinct_sides : (direction : Way) (images : List Image) → IsDistinct is_key (map key_of images) → IsDistinct is_key (keys_of (map (side direction) images))
distinct_sides direction images different = subst (IsDistinct is_key) (sym (keys-sides direction images)) different

pub puts_images : (direction : Way) (images : List Image) (db : Database) (key : RowKey) → IsMap db.rows → IsDistinct is_key (map key_of images)
    → row_at (applied direction images db).rows key ≡ over (row_at db.rows key) (put_at direction images key)
puts_images direction images db key mapped different = row_at_put_all db.rows (map (side direction) images) key mapped (distinct_sides direction images different)
