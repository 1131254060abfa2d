-- The tests on rows, images and reads say what they are named for.
use Rattle.std.proofs.Common.{◌≡◌, ℕ, true, eqb-true, List, [], ◌∷◌, length, slice_get, Option, Some, None, suc, nat_eq, refl, ap, subst, arith}
use Rattle.std.specs.List.{list_all, zip}
use Rattle.std.specs.Ordering.{is_eq}
use Rattle.std.proofs.lemmas.Bool.{and_parts, and_from}
use Rattle.std.proofs.lemmas.Bool.Decides.{nat_tests}
use Rattle.std.proofs.lemmas.Cmp.{tied_itself}
use Rattle.seata_types.specs.ValueOrder.{value_cmp_total}
use Rattle.seata_types.specs.declared.rows.Image.{Image}
use Rattle.seata_types.specs.declared.rows.ReadRow.{ReadRow}
use Rattle.seata_types.specs.declared.rows.Row.{Row}
use Rattle.seata_types.specs.declared.rows.RowKey.{RowKey}
use Rattle.seata_types.specs.declared.rows.Value.{Value}
use Rattle.local_tables.specs.declared.schemas.Schema.{Schema}
use Rattle.local_tables.specs.declared.schemas.TableDef.{TableDef}
use Rattle.local_tables.specs.Fitting.{is_cell, has_key, fits_key, side_fits, image_fits, is_image, read_fits, is_read}
use Rattle.local_tables.specs.Rows.{Database, SideFitsKey, IsRowOf, IsImageOf, IsReadOf, each_of, fits_row, key_values, table_named}
use Rattle.local_tables.proofs.KeyLaws.{value_exact, equal_from_is_eq}

cell_is : (part : Value) (found : Option Value) → is_cell part found ≡ true → found ≡ Some part
cell_is part None e = absurd cc
cell_is part (Some v) e = ap Some (value_exact v part (equal_from_is_eq _ e))

-- ---- the key of a row

each_found : (cells : List Value) (places : List ℕ) (pk : List Value) → length places ≡ length pk → list_all (λ e. is_cell e.1 (slice_get cells e.0)) (zip places pk) ≡ true →
    each_of (slice_get cells) places ≡ Some pk
each_found cells [] [] same all = refl
each_found cells [] (p ∷ pk) same all = absurd (omega (arith, same))
each_found cells (x ∷ xs) [] same all = absurd (omega (arith, same))
each_found cells (x ∷ xs) (p ∷ pk) same all =
    let both = and_parts _ _ all in
    let here : slice_get cells x ≡ Some p = cell_is p (slice_get cells x) both.0 in
    let rest : each_of (slice_get cells) xs ≡ Some pk = each_found cells xs pk (omega (arith, same)) both.1 in
    rw (here, rest) refl

pub has_key_is : (def : TableDef) (pk : List Value) (row : Row) → has_key def pk row ≡ true → key_values def row ≡ Some pk
has_key_is def pk row e =
    let both = and_parts _ _ e in
    each_found row.0 def.key pk (eqb-true _ _ both.0) both.1

-- how many values the key columns of a row have, and which
abbrev AreParts : List Value → List ℕ → List Value → Type 0
AreParts cells places pk = (length places ≡ length pk) × (list_all (λ e. is_cell e.1 (slice_get cells e.0)) (zip places pk) ≡ true)

cell_itself : (v : Value) → is_cell v (Some v) ≡ true
cell_itself v = ap is_eq (tied_itself value_cmp_total v)

parts_step : (cells : List Value) (x : ℕ) (xs : List ℕ) (pk : List Value) (found : Option Value) (rest : Option (List Value)) → slice_get cells x ≡ found → each_of (slice_get cells) xs ≡ rest →
    ((qs : List Value) → each_of (slice_get cells) xs ≡ Some qs → AreParts cells xs qs) → each_of (slice_get cells) (x ∷ xs) ≡ Some pk → AreParts cells (x ∷ xs) pk
parts_step cells x xs pk None rest here there others e = absurd (let k = rw here at e in cc)
parts_step cells x xs pk (Some v) None here there others e = absurd (let k = rw (here, there) at e in cc)
parts_step cells x xs pk (Some v) (Some vs) here there others e =
    let same : v ∷ vs ≡ pk = let k = rw (here, there) at e in cc in
    let more = others vs there in
    let test : list_all (λ e. is_cell e.1 (slice_get cells e.0)) (zip (x ∷ xs) (v ∷ vs)) ≡ true = rw (here, cell_itself v, more.1) refl in
    subst (AreParts cells (x ∷ xs)) same (ap suc more.0, test)

parts_of : (cells : List Value) (places : List ℕ) (pk : List Value) → each_of (slice_get cells) places ≡ Some pk → AreParts cells places pk
parts_of cells [] pk e = subst (AreParts cells []) (let same : [] ≡ pk = cc in same) (refl, refl)
parts_of cells (x ∷ xs) pk e = parts_step cells x xs pk (slice_get cells x) (each_of (slice_get cells) xs) refl refl (λ qs. parts_of cells xs qs) e

pub has_key_from : (def : TableDef) (pk : List Value) (row : Row) → key_values def row ≡ Some pk → has_key def pk row ≡ true
has_key_from def pk row e =
    let parts = parts_of row.0 def.key pk e in
    let same : nat_eq (length def.key) (length pk) ≡ true = grind (arith, nat_tests, parts.0) in
    rw (same, parts.1) refl

-- ---- a row that fits and has a key

row_is : (def : TableDef) (key : RowKey) (row : Row) → fits_key def key row ≡ true → IsRowOf def key row
row_is def key row e =
    let both = and_parts (fits_row def row) (has_key def key.pk row) e in
    record { fits = both.0; values = has_key_is def key.pk row both.1 }

row_passes : (def : TableDef) (key : RowKey) (row : Row) → IsRowOf def key row → fits_key def key row ≡ true
row_passes def key row h = and_from (fits_row def row) (has_key def key.pk row) h.fits (has_key_from def key.pk row h.values)

-- ---- images and reads

table_is : (schema : Schema) (name : List ℕ) (def other : TableDef) → table_named schema name ≡ Some def → table_named schema name ≡ Some other → def ≡ other
table_is schema name def other found again = cc

side_is : (schema : Schema) (def : TableDef) (key : RowKey) (side : Option Row) → table_named schema key.table ≡ Some def → side_fits def key side ≡ true → SideFitsKey schema key side
side_is schema def key None found e = tt
side_is schema def key (Some row) found e = λ other again.
    subst (λ (d : TableDef). IsRowOf d key row) (table_is schema key.table def other found again) (row_is def key row e)

image_by : (db : Database) (i : Image) (table : Option TableDef) → table_named db.schema i.key.table ≡ table → image_fits db.resource table i ≡ true → IsImageOf db i
image_by db i None found e = absurd cc
image_by db i (Some def) found e =
    let parts = and_parts _ _ e in
    let sides = and_parts _ _ parts.1 in
    record {
      resource = eqb-true _ _ parts.0;
      table = (def, found);
      before = side_is db.schema def i.key i.before found sides.0;
      after = side_is db.schema def i.key i.after found sides.1;
    }

-- an image that passes is of these tables
pub image_is : (db : Database) (i : Image) → is_image db.resource db.schema i ≡ true → IsImageOf db i
image_is db i e = image_by db i (table_named db.schema i.key.table) refl e

read_by : (db : Database) (r : ReadRow) (table : Option TableDef) → table_named db.schema r.key.table ≡ table → read_fits db.resource table r ≡ true → IsReadOf db r
read_by db r None found e = absurd cc
read_by db r (Some def) found e =
    let parts = and_parts _ _ e in
    record { resource = eqb-true _ _ parts.0; table = (def, found); row = side_is db.schema def r.key (Some r.row) found parts.1 }

-- a read that passes is of these tables
pub read_is : (db : Database) (r : ReadRow) → is_read db.resource db.schema r ≡ true → IsReadOf db r
read_is db r e = read_by db r (table_named db.schema r.key.table) refl e

-- ---- and what is of these tables passes

side_passes : (schema : Schema) (def : TableDef) (key : RowKey) (side : Option Row) → table_named schema key.table ≡ Some def → SideFitsKey schema key side → side_fits def key side ≡ true
side_passes schema def key None found h = refl
side_passes schema def key (Some row) found h = row_passes def key row (h def found)

same_number : (a b : ℕ) → a ≡ b → nat_eq a b ≡ true
same_number a b e = grind (arith, nat_tests)

pub image_passes : (db : Database) (i : Image) → IsImageOf db i → is_image db.resource db.schema i ≡ true
image_passes db i h =
    let def = h.table.0 in
    let before = side_passes db.schema def i.key i.before h.table.1 h.before in
    let after = side_passes db.schema def i.key i.after h.table.1 h.after in
    rw (h.table.1, same_number _ _ h.resource, before, after) refl

pub read_passes : (db : Database) (r : ReadRow) → IsReadOf db r → is_read db.resource db.schema r ≡ true
read_passes db r h =
    let row = side_passes db.schema h.table.0 r.key (Some r.row) h.table.1 h.row in
    rw (h.table.1, same_number _ _ h.resource, row) refl
