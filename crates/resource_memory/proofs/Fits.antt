-- Images and reads that fit the tables: what the tests say.
use Rattle.std.proofs.Common.{◌≡◌, ◌≤◌, ◌&&◌, ℕ, ◌+◌, Bool, true, All, List, [], ◌∷◌, length, Option, Some, None, option_map, Less, refl, ap, ◌∙◌, arith}
use Rattle.std.specs.List.{list_all, IsDistinct}
use Rattle.std.specs.List.Sorted.{IsStrictlySortedBy}
use Rattle.std.specs.Ordering.{is_lt}
use Rattle.std.proofs.lemmas.Bool.{and_parts, and_from, leb-true, le-leb}
use Rattle.std.proofs.lemmas.List.Elements.{All-nil, All-cons, All-head, All-tail}
use Rattle.std.proofs.lemmas.Map.Keys.{IsDistinct-from_sorted}
use Rattle.seata_types.specs.Orders.{key_cmp}
use Rattle.seata_types.specs.declared.limits.TheConstants.{CALL_ROWS}
use Rattle.seata_types.specs.declared.rows.Image.{Image}
use Rattle.seata_types.specs.declared.rows.ReadRow.{ReadRow}
use Rattle.seata_types.specs.declared.rows.RowKey.{RowKey}
use Rattle.byte_fields.specs.KeyOrder.{is_below}
use Rattle.byte_fields.specs.Layout.{IsInOrder, image_follows, read_follows}
use Rattle.local_tables.specs.declared.schemas.Schema.{Schema}
use Rattle.local_tables.specs.Fitting.{is_image, is_read}
use Rattle.local_tables.specs.Rows.{Database, IsImageOf, IsReadOf, AreImagesOf, is_key, key_of}
use Rattle.local_tables.proofs.FittingLaws.{image_is, image_passes, read_is, read_passes}
use Rattle.durable_records.specs.ResourceOrder.{image_keys, read_keys, only_read, FitTables}
use Rattle.resource_log.specs.Soundness.{rises_after}
use Rattle.resource_log.proofs.SoundLaws.{sorted_keys}
use Rattle.resource_memory.specs.Changes.{rise, are_few, fit}

-- ---- each of them is of these tables

pub each_image : (db : Database) (is : List Image) → list_all (is_image db.resource db.schema) is ≡ true → All (IsImageOf db) is
each_image db [] e = All-nil (IsImageOf db)
each_image db (i ∷ is) e =
    let both = and_parts _ _ e in
    All-cons (IsImageOf db) i is (image_is db i both.0) (each_image db is both.1)

pub each_image_passes : (db : Database) (is : List Image) → All (IsImageOf db) is → list_all (is_image db.resource db.schema) is ≡ true
each_image_passes db [] all = refl
each_image_passes db (i ∷ is) all =
    and_from _ _ (image_passes db i (All-head (IsImageOf db) i is all)) (each_image_passes db is (All-tail (IsImageOf db) i is all))

each_read : (db : Database) (rs : List ReadRow) → list_all (is_read db.resource db.schema) rs ≡ true → All (IsReadOf db) rs
each_read db [] e = All-nil (IsReadOf db)
each_read db (r ∷ rs) e =
    let both = and_parts _ _ e in
    All-cons (IsReadOf db) r rs (read_is db r both.0) (each_read db rs both.1)

pub each_read_passes : (db : Database) (rs : List ReadRow) → All (IsReadOf db) rs → list_all (is_read db.resource db.schema) rs ≡ true
each_read_passes db [] all = refl
each_read_passes db (r ∷ rs) all =
    and_from _ _ (read_passes db r (All-head (IsReadOf db) r rs all)) (each_read_passes db rs (All-tail (IsReadOf db) r rs all))

-- ---- the keys rise

below_is : (a b : RowKey) → key_cmp a b ≡ Less → is_below a b ≡ true
unfolding is_below
below_is a b e = ap is_lt e

rises_from : (k : RowKey) (ks : List RowKey) → IsStrictlySortedBy key_cmp (k ∷ ks) → rises_after (Some k) ks ≡ true
unfolding IsStrictlySortedBy
rises_from k [] s = refl
rises_from k (j ∷ ks) s = and_from (is_below k j) (rises_after (Some j) ks) (below_is k j s.0.0) (rises_from j ks s.1)

pub sorted_rises : (ks : List RowKey) → IsStrictlySortedBy key_cmp ks → rise ks ≡ true
sorted_rises [] s = refl
sorted_rises (k ∷ ks) s = rises_from k ks s

pub rise_distinct : (ks : List RowKey) → rise ks ≡ true → IsDistinct is_key ks
rise_distinct ks e = IsDistinct-from_sorted key_cmp ks (sorted_keys ks e)

images_rise_after : (is : List Image) (last : Option Image) → IsInOrder image_follows last is → rises_after (option_map key_of last) (image_keys is) ≡ true
images_rise_after [] last order = refl
images_rise_after (i ∷ is) None order = images_rise_after is (Some i) order.1
images_rise_after (i ∷ is) (Some j) order = and_from _ _ order.0 (images_rise_after is (Some i) order.1)

-- images in the order of a record rise
pub images_rise : (is : List Image) → IsInOrder image_follows None is → rise (image_keys is) ≡ true
images_rise is order = images_rise_after is None order

read_key : ReadRow → RowKey
read_key r = r.key

reads_rise_after : (rs : List ReadRow) (last : ReadRow) → IsInOrder read_follows (Some last) rs → rises_after (Some last.key) (read_keys rs) ≡ true
reads_rise_after [] last order = refl
reads_rise_after (r ∷ rs) last order = and_from _ _ order.0 (reads_rise_after rs r order.1)

pub reads_rise : (rs : List ReadRow) → IsInOrder read_follows None rs → rise (read_keys rs) ≡ true
reads_rise [] order = refl
reads_rise (r ∷ rs) order = reads_rise_after rs r order.1

-- ---- the whole test

pub images_fit : (db : Database) (is : List Image) → list_all (is_image db.resource db.schema) is ≡ true → rise (image_keys is) ≡ true → AreImagesOf db is
images_fit db is e f = record { each = each_image db is e; different = rise_distinct (image_keys is) f }

-- the parts of the test
pub record Fits (db : Database) (images : List Image) (reads : List ReadRow) : Type 0 where
  pub touched : list_all (is_image db.resource db.schema) images ≡ true
  pub read : list_all (is_read db.resource db.schema) reads ≡ true
  pub images_rise : rise (image_keys images) ≡ true
  pub reads_rise : rise (read_keys reads) ≡ true
  pub few : are_few images reads ≡ true

pub fits : (db : Database) (images : List Image) (reads : List ReadRow) → fit db images reads ≡ true → Fits db images reads
fits db images reads e =
    let one = and_parts _ _ e in
    let two = and_parts _ _ one.1 in
    let three = and_parts _ _ two.1 in
    let four = and_parts _ _ three.1 in
    record { touched = one.0; read = two.0; images_rise = three.0; reads_rise = four.0; few = four.1 }

pub fit_images : (db : Database) (images : List Image) (reads : List ReadRow) → fit db images reads ≡ true → AreImagesOf db images
fit_images db images reads e = let f = fits db images reads e in images_fit db images f.touched f.images_rise

pub fit_tables : (db : Database) (images : List Image) (reads : List ReadRow) → fit db images reads ≡ true → FitTables db images reads
fit_tables db images reads e =
    let f = fits db images reads e in
    record {
      touched = images_fit db images f.touched f.images_rise;
      read = each_read db reads f.read;
      different = rise_distinct (read_keys reads) f.reads_rise;
      few = leb-true (length images + length (only_read images reads)) CALL_ROWS f.few;
    }

pub tables_fit : (db : Database) (images : List Image) (reads : List ReadRow) → rise (image_keys images) ≡ true → rise (read_keys reads) ≡ true → FitTables db images reads → fit db images reads ≡ true
tables_fit db images reads p q f =
    and_from _ _ (each_image_passes db images f.touched.each)
    (and_from _ _ (each_read_passes db reads f.read)
    (and_from _ _ p (and_from _ _ q (le-leb (length images + length (only_read images reads)) CALL_ROWS f.few))))

-- the test asks the number and the schema alone
pub fit_alike : (one other : Database) (images : List Image) (reads : List ReadRow) → one.resource ≡ other.resource → one.schema ≡ other.schema → fit one images reads ≡ fit other images reads
fit_alike one other images reads p q =
    ap (λ (n : ℕ). at n one.schema) p ∙ ap (λ (s : Schema). at other.resource s) q
  where
    at : ℕ → Schema → Bool
    at n s = list_all (is_image n s) images && (list_all (is_read n s) reads && (rise (image_keys images) && (rise (read_keys reads) && are_few images reads)))

-- images that fit without their reads
pub fit_alone : (db : Database) (images : List Image) (reads : List ReadRow) → fit db images reads ≡ true → fit db images [] ≡ true
fit_alone db images reads e =
    let f = fits db images reads e in
    let all = leb-true (length images + length (only_read images reads)) CALL_ROWS f.few in
    let few : length images + 0 ≤ CALL_ROWS = omega (arith, all) in
    and_from _ _ f.touched (and_from _ _ refl (and_from _ _ f.images_rise (and_from _ _ refl (le-leb (length images + 0) CALL_ROWS few))))
