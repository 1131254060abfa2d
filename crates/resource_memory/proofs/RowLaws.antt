-- Rows of the tables behind their tables' names: at the opening, after images are put, and opened again.
use Rattle.std.proofs.Common.{◌≡◌, ℕ, true, List, [], ◌∷◌, ◌++◌, map, Option, Some, None, refl, sym, ap, ◌∙◌, subst}
use Rattle.std.specs.List.{AllByRecursion, list_all, cons_option}
use Rattle.std.proofs.lemmas.Option.{none-some}
use Rattle.seata_types.specs.declared.rows.Image.{Image}
use Rattle.seata_types.specs.declared.rows.Row.{Row}
use Rattle.seata_types.specs.declared.rows.RowKey.{RowKey}
use Rattle.local_tables.specs.declared.schemas.Schema.{Schema}
use Rattle.local_tables.specs.declared.schemas.TableDef.{TableDef}
use Rattle.local_tables.specs.declared.schemas.Way.{Way}
use Rattle.local_tables.specs.Fitting.{is_image}
use Rattle.local_tables.specs.Rows.{AreRows, Database, HasItsKey, Rows, IsMap, table_named, opening_entry, keyed_row, opening_rows, opened, applied, put_all, comes}
use Rattle.local_tables.proofs.KeyLaws.{key_cmp_total, key_exact}
pub use Rattle.local_tables.proofs.RowsKept.{Puts, all_put_all, all_come, has_its_key, opened_key, all_of_opening, opened_rows}
use Rattle.local_tables.proofs.RowsKept.{images_keep_rows}
use Rattle.local_tables.proofs.SoundLaws.{named, opened_has}
use Rattle.seata_types.specs.Orders.{key_cmp}
use Rattle.resource_log.specs.SnapshotOf.{named_row}
use Rattle.resource_memory.proofs.Fits.{each_image}
use Rattle.resource_memory.proofs.Maps.{insert_last}

-- ---- the rows of the opening

module _ (resource : ℕ) (schema : Schema) where
  -- an opening row stands behind the name that it was given with
  pub opened_as : (o : List ℕ × Row) (e : RowKey × Row) → keyed_row resource schema o ≡ Some e → named_row e ≡ o
  opened_as o e f = by (table_named schema o.0) refl f
    where
      by : (table : Option TableDef) → table_named schema o.0 ≡ table → opening_entry resource table o.1 ≡ Some e → named_row e ≡ o
      by None found g = absurd (none-some e g)
      by (Some def) found g =
          let has = (opened_has resource def o.1 e g).1 in
          λ i. ((has.table ∙ named schema o.0 def found) i, sym has.same i)

-- ---- images

-- rows with images of these tables put on them
pub rows_applied : (direction : Way) (images : List Image) (db : Database) → list_all (is_image db.resource db.schema) images ≡ true → AreRows db → AreRows (applied direction images db)
rows_applied direction images db fit rows = images_keep_rows direction images db (each_image db images fit) rows

-- ---- rows that are opened again

keyed_again : (resource : ℕ) (schema : Schema) (rows : Rows) → AllByRecursion (HasItsKey resource schema) rows → opening_rows resource schema (map named_row rows) ≡ rows
keyed_again resource schema [] all = refl
keyed_again resource schema (e ∷ es) all =
    ap (λ (found : Option (RowKey × Row)). cons_option found (opening_rows resource schema (map named_row es))) all.0
    ∙ ap (λ (l : Rows). e ∷ l) (keyed_again resource schema es all.1)

append_more : (done : Rows) (e : RowKey × Row) (rest : Rows) → (done ++ e ∷ []) ++ rest ≡ done ++ e ∷ rest
append_more [] e rest = refl
append_more (d ∷ done) e rest = ap (λ (l : Rows). d ∷ l) (append_more done e rest)

append_nil : (done : Rows) → done ++ [] ≡ done
append_nil [] = refl
append_nil (d ∷ done) = ap (λ (l : Rows). d ∷ l) (append_nil done)

put_in_order : (done rest : Rows) → IsMap (done ++ rest) → put_all done (map comes rest) ≡ done ++ rest
put_in_order done [] s = sym (append_nil done)
put_in_order done (e ∷ rest) s =
    ap (λ (l : Rows). put_all l (map comes rest)) (insert_last key_cmp key_cmp_total key_exact done e.0 e.1 rest s)
    ∙ put_in_order (done ++ e ∷ []) rest (subst (λ (l : Rows). IsMap l) (sym (append_more done e rest)) s)
    ∙ append_more done e rest

pub opened_again : (db : Database) → AreRows db → opened db.resource db.schema (map named_row db.rows) ≡ db
opened_again db rows =
    ap (λ (l : Rows). record db { rows = l })
    (ap (λ (l : Rows). put_all [] (map comes l)) (keyed_again db.resource db.schema db.rows rows.keyed) ∙ put_in_order [] db.rows rows.in_order)
