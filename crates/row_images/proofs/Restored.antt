-- Images that are done and undone.
use Rattle.std.proofs.Common.{◌≡◌, Bool, true, false, cond, List, [], ◌∷◌, map, Some, refl, ap, sym, ◌∙◌}
use Rattle.std.specs.Prelude.{All}
use Rattle.std.specs.List.{IsDistinct}
use Rattle.std.proofs.lemmas.List.Elements.{All-head, All-tail}
use Rattle.seata_types.specs.declared.rows.Image.{Image}
use Rattle.seata_types.specs.declared.rows.RowKey.{RowKey}
use Rattle.local_tables.specs.Lookups.{over, change_at}
use Rattle.local_tables.specs.Rows.{Rows, Database, is_key, key_of, row_at, put_all, side, applied, IsMap}
use Rattle.local_tables.specs.declared.schemas.Way.TheVariants as way
use Rattle.local_tables.proofs.KeyLaws.{same_key}
use Rattle.local_tables.proofs.MapLaws.{same_entries}
use Rattle.local_tables.proofs.PutLaws.{map_put_all, row_at_put_all}
use Rattle.local_tables.proofs.SideLaws.{distinct_sides, puts_images}
use Rattle.row_images.specs.Undoing.{exchanged, IsPresent}

-- ---- exchanged images

exchanged_sides : (images : List Image) → map (side way.Do) (map exchanged images) ≡ map (side way.Undo) images
exchanged_sides [] = refl
exchanged_sides (i ∷ is) = ap (λ cs. (i.key, i.before) ∷ cs) (exchanged_sides is)

pub exchanging_undoes : (db : Database) (images : List Image) → applied way.Do (map exchanged images) db ≡ applied way.Undo images db
exchanging_undoes db images = ap (λ cs. record db { rows = put_all db.rows cs }) (exchanged_sides images)

-- ---- done and undone

restored_at : (db : Database) (images : List Image) → All (IsPresent db) images → (q : RowKey)
    → over (over (row_at db.rows q) (change_at (map (side way.Do) images) q)) (change_at (map (side way.Undo) images) q) ≡ row_at db.rows q
restored_at db [] present q = refl
restored_at db (i ∷ is) present q = by (is_key q i.key) refl (restored_at db is (All-tail (IsPresent db) i is present) q)
  where
    by : (b : Bool) → is_key q i.key ≡ b
        → over (over (row_at db.rows q) (change_at (map (side way.Do) is) q)) (change_at (map (side way.Undo) is) q) ≡ row_at db.rows q
        → over (over (row_at db.rows q) (cond b (Some i.after) (change_at (map (side way.Do) is) q))) (cond b (Some i.before) (change_at (map (side way.Undo) is) q)) ≡ row_at db.rows q
    by true e later = sym (All-head (IsPresent db) i is present) ∙ ap (row_at db.rows) (sym (same_key q i.key e))
    by false e later = later

pub undoing_restores : (db : Database) (images : List Image) → IsMap db.rows → IsDistinct is_key (map key_of images) → All (IsPresent db) images
    → applied way.Undo images (applied way.Do images db) ≡ db
undoing_restores db images s different present =
    let done : Rows = put_all db.rows (map (side way.Do) images) in
    let mapped : IsMap done = map_put_all db.rows (map (side way.Do) images) s in
    let undone = distinct_sides way.Undo images different in
    ap (λ rows. record db { rows = rows })
    (same_entries _ _ (map_put_all done (map (side way.Undo) images) mapped) s (λ q.
    row_at_put_all done (map (side way.Undo) images) q mapped undone
    ∙ ap (λ o. over o (change_at (map (side way.Undo) images) q)) (puts_images way.Do images db q s different)
    ∙ restored_at db images present q))
