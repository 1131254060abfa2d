-- Rows stand in order, fit their tables and have their keys: at the opening, and after images are put.
use Rattle.std.proofs.Common.{◌≡◌, ℕ, Bool, true, false, cond, All, List, [], ◌∷◌, map, Option, Some, None, option_map, refl, sym, ap, ◌∙◌, subst}
use Rattle.std.specs.Map.{remove_entry}
use Rattle.std.specs.List.{AllByRecursion, cons_option}
use Rattle.std.specs.List.Sorted.{IsStrictlySortedBy}
use Rattle.std.proofs.lemmas.List.Elements.{All-head, All-tail}
use Rattle.std.proofs.lemmas.Option.{none-some}
use Rattle.seata_types.specs.declared.rows.Image.{Image}
use Rattle.seata_types.specs.declared.rows.Row.{Row}
use Rattle.seata_types.specs.declared.rows.RowKey.{RowKey}
use Rattle.seata_types.specs.declared.rows.Value.{Value}
use Rattle.local_tables.specs.FittingRows.{OpeningRowsFit, ImagesKeepRows}
use Rattle.local_tables.specs.Rows.{Database, Rows, Change, AreRows, HasItsKey, FitsKey, IsImageOf, IsMap, IsRowOf, SideFitsKey, comes, fits_row, is_key, key_in, key_values, keyed, keyed_row, opened, opening_entry, opening_rows, put, put_all, row_at, side, table_named, with_key}
use Rattle.local_tables.specs.Sound.{IsSound}
use Rattle.local_tables.specs.declared.schemas.Schema.{Schema}
use Rattle.local_tables.specs.declared.schemas.TableDef.{TableDef}
use Rattle.local_tables.specs.declared.schemas.Way.{Way}
use Rattle.local_tables.specs.declared.schemas.Way.TheVariants as way
use Rattle.local_tables.proofs.ChangeLaws.{each_insert}
use Rattle.local_tables.proofs.KeyLaws.{same_key}
use Rattle.local_tables.proofs.PutLaws.{map_put_all}
use Rattle.local_tables.proofs.SoundLaws.{named, opened_has, entry_fits}

some_is : {A : Type 0} (a b : A) → Some a ≡ Some b → a ≡ b
some_is a b e = cc

-- ---- what holds of each row, after changes

each_remove : {X : Type 0} (P : RowKey × X → Type 0) (es : List (RowKey × X)) (k : RowKey) → AllByRecursion P es → AllByRecursion P (remove_entry (is_key k) es)
each_remove P [] k all = tt
each_remove P (e ∷ es) k all = by (is_key k e.0) (each_remove P es k all.1)
  where
    by : (b : Bool) → AllByRecursion P (remove_entry (is_key k) es) → AllByRecursion P (cond b es (e ∷ remove_entry (is_key k) es))
    by true rest = all.1
    by false rest = (all.0, rest)

-- a change puts no other row than one of which P holds
abbrev pub Puts : (RowKey × Row → Type 0) → Change → Type 0
Puts P c = (row : Row) → c.1 ≡ Some row → P (c.0, row)

all_put : (P : RowKey × Row → Type 0) (rows : Rows) (key : RowKey) (c : Option Row) → AllByRecursion P rows → ((row : Row) → c ≡ Some row → P (key, row)) → AllByRecursion P (put rows key c)
all_put P rows key (Some row) all new = each_insert P rows key row all (new row refl)
all_put P rows key None all new = each_remove P rows key all

pub all_put_all : (P : RowKey × Row → Type 0) (rows : Rows) (cs : List Change) → AllByRecursion P rows → AllByRecursion (Puts P) cs → AllByRecursion P (put_all rows cs)
all_put_all P rows [] all new = all
all_put_all P rows (c ∷ cs) all new = all_put_all P (put rows c.0 c.1) cs (all_put P rows c.0 c.1 all new.0) new.1

nothing_in_order : IsMap []
unfolding IsStrictlySortedBy
nothing_in_order = tt

-- rows that come, each of which P holds
pub all_come : (P : RowKey × Row → Type 0) (rows : Rows) → AllByRecursion P rows → AllByRecursion (Puts P) (map comes rows)
all_come P [] all = tt
all_come P (e ∷ es) all = ((λ row same. subst (λ (r : Row). P (e.0, r)) (some_is e.1 row same) all.0), all_come P es all.1)

-- ---- a row that is given its key has it

module _ (resource : ℕ) (schema : Schema) where
  -- an entry that is made of a row of a table
  entry_of : (table : List ℕ) (def : TableDef) (row : Row) (pk : List Value) → table_named schema table ≡ Some def → fits_row def row ≡ true → key_values def row ≡ Some pk → keyed_row resource schema (table, row) ≡ Some (key_in resource def pk, row)
  entry_of table def row pk found fits values =
      ap (λ (d : Option TableDef). opening_entry resource d row) found
      ∙ ap (λ b. cond b (keyed resource def row) None) fits
      ∙ ap (λ (v : Option (List Value)). option_map (with_key resource def row) v) values

  pub has_its_key : (key : RowKey) (row : Row) (def : TableDef) → key.resource ≡ resource → table_named schema key.table ≡ Some def → IsRowOf def key row → HasItsKey resource schema (key, row)
  has_its_key key row def number found is =
      entry_of key.table def row key.pk found is.fits is.values
      ∙ (λ i. Some (record { resource = sym number i; table = named schema key.table def found i; pk = key.pk }, row))

  opened_by : (o : List ℕ × Row) (e : RowKey × Row) (table : Option TableDef) → table_named schema o.0 ≡ table → opening_entry resource table o.1 ≡ Some e → HasItsKey resource schema e
  opened_by o e None found f = absurd (none-some e f)
  opened_by o e (Some def) found f =
      let has = opened_has resource def o.1 e f in
      let here : table_named schema e.0.table ≡ Some def = ap (table_named schema) (has.1.table ∙ named schema o.0 def found) ∙ found in
      has_its_key e.0 e.1 def has.1.number here (entry_fits resource def o.1 e has.0 has.1)

  -- an opening row has the key that it is given
  pub opened_key : (o : List ℕ × Row) (e : RowKey × Row) → keyed_row resource schema o ≡ Some e → HasItsKey resource schema e
  opened_key o e f = opened_by o e (table_named schema o.0) refl f

  -- what holds of each row that is given its key
  all_opened : (P : RowKey × Row → Type 0) (Q : List ℕ × Row → Type 0) → ((o : List ℕ × Row) (e : RowKey × Row) → keyed_row resource schema o ≡ Some e → Q o → P e) →
      (opening : List (List ℕ × Row)) → AllByRecursion Q opening → AllByRecursion P (opening_rows resource schema opening)
  all_opened P Q gives [] all = tt
  all_opened P Q gives (o ∷ os) all = by (keyed_row resource schema o) refl (all_opened P Q gives os all.1)
    where
      by : (found : Option (RowKey × Row)) → keyed_row resource schema o ≡ found → AllByRecursion P (opening_rows resource schema os) → AllByRecursion P (cons_option found (opening_rows resource schema os))
      by None is rest = rest
      by (Some e) is rest = (gives o e is all.0, rest)

  pub all_of_opening : (P : RowKey × Row → Type 0) (Q : List ℕ × Row → Type 0) → ((o : List ℕ × Row) (e : RowKey × Row) → keyed_row resource schema o ≡ Some e → Q o → P e) →
      (opening : List (List ℕ × Row)) → AllByRecursion Q opening → AllByRecursion P (opened resource schema opening).rows
  all_of_opening P Q gives opening all =
      all_put_all P [] (map comes (opening_rows resource schema opening)) tt (all_come P (opening_rows resource schema opening) (all_opened P Q gives opening all))

  any_rows : (opening : List (List ℕ × Row)) → AllByRecursion (λ _. Unit {0}) opening
  any_rows [] = tt
  any_rows (o ∷ os) = (tt, any_rows os)

  pub opened_rows : (opening : List (List ℕ × Row)) → AreRows (opened resource schema opening)
  opened_rows opening = record {
    in_order = map_put_all [] (map comes (opening_rows resource schema opening)) nothing_in_order;
    keyed = all_of_opening (HasItsKey resource schema) (λ _. Unit {0}) (λ o e f _. opened_key o e f) opening (any_rows opening);
  }

pub openings_fit : OpeningRowsFit
openings_fit resource schema opening = opened_rows resource schema opening

-- ---- images

side_key : (db : Database) (i : Image) → IsImageOf db i → (row : Option Row) → SideFitsKey db.schema i.key row → (r : Row) → row ≡ Some r → HasItsKey db.resource db.schema (i.key, r)
side_key db i is None has r f = absurd (none-some r f)
side_key db i is (Some row) has r f =
    subst (λ (x : Row). HasItsKey db.resource db.schema (i.key, x)) (some_is row r f)
    (has_its_key db.resource db.schema i.key row is.table.0 is.resource is.table.1 (has is.table.0 is.table.1))

image_key : (db : Database) (direction : Way) (i : Image) → IsImageOf db i → Puts (HasItsKey db.resource db.schema) (side direction i)
image_key db way.Do i is = side_key db i is i.after is.after
image_key db way.Undo i is = side_key db i is i.before is.before

images_keyed : (db : Database) (direction : Way) (images : List Image) → All (IsImageOf db) images → AllByRecursion (Puts (HasItsKey db.resource db.schema)) (map (side direction) images)
images_keyed db direction [] all = tt
images_keyed db direction (i ∷ is) all = (image_key db direction i (All-head (IsImageOf db) i is all), images_keyed db direction is (All-tail (IsImageOf db) i is all))

-- rows with images of these tables put on them
pub images_keep_rows : ImagesKeepRows
images_keep_rows direction images db all rows = record {
  in_order = map_put_all db.rows (map (side direction) images) rows.in_order;
  keyed = all_put_all (HasItsKey db.resource db.schema) db.rows (map (side direction) images) rows.keyed (images_keyed db direction images all);
}

-- ---- the rows key by key

row_fits : (resource : ℕ) (schema : Schema) (e : RowKey × Row) → HasItsKey resource schema e → FitsKey schema e.0 e.1
row_fits resource schema e h = λ def found.
    let has = opened_has resource def e.1 e (ap (λ (t : Option TableDef). opening_entry resource t e.1) (sym found) ∙ h) in
    entry_fits resource def e.1 e has.0 has.1

fits_at : (resource : ℕ) (schema : Schema) (rows : Rows) (key : RowKey) (row : Row) → AllByRecursion (HasItsKey resource schema) rows → row_at rows key ≡ Some row → FitsKey schema key row
fits_at resource schema [] key row all e = absurd (none-some row e)
fits_at resource schema (x ∷ xs) key row all e = by (is_key key x.0) refl e (fits_at resource schema xs key row all.1)
  where
    by : (b : Bool) → is_key key x.0 ≡ b → cond b (Some x.1) (row_at xs key) ≡ Some row → (row_at xs key ≡ Some row → FitsKey schema key row) → FitsKey schema key row
    by true same f rest =
        subst (λ (k : RowKey). FitsKey schema k row) (sym (same_key key x.0 same))
        (subst (λ (r : Row). FitsKey schema x.0 r) (some_is x.1 row f) (row_fits resource schema x all.0))
    by false same f rest = rest f

pub rows_sound : (db : Database) → AreRows db → IsSound db.schema db.rows
rows_sound db rows =
    record { in_order = rows.in_order; keyed = λ key row e. fits_at db.resource db.schema db.rows key row rows.keyed e }
