-- The rows of a sound snapshot are rows that tables open with, and the images of its undo records can be put on them.
use Rattle.std.proofs.Common.{◌≡◌, ℕ, true, All, List, [], ◌∷◌, map, Option, Some, None, IsSome, Ordering, Less, Equal, Greater, refl, sym, subst, ap, ◌∙◌}
use Rattle.std.specs.List.{AllByRecursion, IsDistinct, list_all}
use Rattle.std.specs.List.Sorted.{IsStrictlySortedBy}
use Rattle.std.specs.Map.{keys_of}
use Rattle.std.specs.Ordering.{is_lt}
use Rattle.std.proofs.lemmas.Bool.{and_parts}
use Rattle.std.proofs.lemmas.List.Elements.{All-nil, All-cons}
use Rattle.std.proofs.lemmas.Map.Keys.{IsDistinct-from_sorted}
use Rattle.seata_types.specs.Orders.{key_cmp}
use Rattle.seata_types.specs.declared.rows.Image.{Image}
use Rattle.seata_types.specs.declared.rows.Row.{Row}
use Rattle.seata_types.specs.declared.rows.RowKey.{RowKey}
use Rattle.byte_fields.specs.KeyOrder.{is_below}
use Rattle.byte_fields.specs.Layout.{IsInOrder, image_follows, FitsImages}
use Rattle.local_tables.specs.declared.schemas.Schema.{Schema}
use Rattle.local_tables.specs.Fitting.{is_image}
use Rattle.local_tables.specs.Rows.{Database, IsOpening, IsImageOf, AreImagesOf, is_key, key_of, keyed_row, opening_rows}
use Rattle.local_tables.proofs.FittingLaws.{image_is}
use Rattle.local_tables.proofs.KeyLaws.{key_cmp_total}
use Rattle.resource_log.specs.Soundness.{rises_after, are_rising, row_keys}

-- ---- keys that rise one after the other are sorted

less_is : (r : Ordering) → is_lt r ≡ true → r ≡ Less
less_is Less e = refl
less_is Equal e = cc
less_is Greater e = cc

below_less : (a b : RowKey) → is_below a b ≡ true → key_cmp a b ≡ Less
unfolding is_below
below_less a b e = less_is _ e

below_keys : (j k : RowKey) (ks : List RowKey) → key_cmp j k ≡ Less → AllByRecursion (λ y. key_cmp k y ≡ Less) ks → AllByRecursion (λ y. key_cmp j y ≡ Less) ks
below_keys j k [] l b = tt
below_keys j k (y ∷ ks) l b = (key_cmp_total.trans j k y l b.0, below_keys j k ks l b.1)

sorted_cons : (k j : RowKey) (ks : List RowKey) → is_below k j ≡ true → IsStrictlySortedBy key_cmp (j ∷ ks) → IsStrictlySortedBy key_cmp (k ∷ j ∷ ks)
unfolding IsStrictlySortedBy
sorted_cons k j ks below rest =
    let less = below_less k j below in
    ((less, below_keys k j ks less rest.0), rest)

sorted_one : (k : RowKey) → IsStrictlySortedBy key_cmp (k ∷ [])
unfolding IsStrictlySortedBy
sorted_one k = (tt, tt)

sorted_after : (k : RowKey) (ks : List RowKey) → rises_after (Some k) ks ≡ true → IsStrictlySortedBy key_cmp (k ∷ ks)
sorted_after k [] e = sorted_one k
sorted_after k (j ∷ ks) e =
    let both = and_parts _ _ e in
    sorted_cons k j ks both.0 (sorted_after j ks both.1)

sorted_none : IsStrictlySortedBy key_cmp []
unfolding IsStrictlySortedBy
sorted_none = tt

pub sorted_keys : (ks : List RowKey) → rises_after None ks ≡ true → IsStrictlySortedBy key_cmp ks
sorted_keys [] e = sorted_none
sorted_keys (k ∷ ks) e = sorted_after k ks e

-- ---- rows

record HaveKeys (resource : ℕ) (schema : Schema) (rows : List (List ℕ × Row)) (keys : List RowKey) : Type 0 where
  pub each : All (λ o. IsSome (keyed_row resource schema o)) rows
  pub all : keys_of (opening_rows resource schema rows) ≡ keys

module _ (resource : ℕ) (schema : Schema) where
  have_one : (o : List ℕ × Row) (os : List (List ℕ × Row)) (keys : List RowKey) (found : Option (RowKey × Row)) (rest : Option (List RowKey)) → keyed_row resource schema o ≡ found → row_keys resource schema os ≡ rest →
      ((ks : List RowKey) → row_keys resource schema os ≡ Some ks → HaveKeys resource schema os ks) → row_keys resource schema (o ∷ os) ≡ Some keys → HaveKeys resource schema (o ∷ os) keys
  have_one o os keys None rest here there others e = absurd (let k = rw here at e in cc)
  have_one o os keys (Some x) None here there others e = absurd (let k = rw (here, there) at e in cc)
  have_one o os keys (Some x) (Some ks) here there others e =
      let same : x.0 ∷ ks ≡ keys = let k = rw (here, there) at e in cc in
      let rest = others ks there in
      record {
        each = All-cons (λ (p : List ℕ × Row). IsSome (keyed_row resource schema p)) o os (rw here refl) rest.each;
        all = rw here (ap (λ (l : List RowKey). x.0 ∷ l) rest.all ∙ same);
      }

  have_keys : (rows : List (List ℕ × Row)) (keys : List RowKey) → row_keys resource schema rows ≡ Some keys → HaveKeys resource schema rows keys
  have_keys [] keys e = record { each = All-nil (λ (p : List ℕ × Row). IsSome (keyed_row resource schema p)); all = cc }
  have_keys (o ∷ os) keys e = have_one o os keys (keyed_row resource schema o) (row_keys resource schema os) refl refl (λ ks. have_keys os ks) e

  opening_by : (rows : List (List ℕ × Row)) (found : Option (List RowKey)) → row_keys resource schema rows ≡ found → are_rising found ≡ true → IsOpening resource schema rows
  opening_by rows None is e = absurd cc
  opening_by rows (Some keys) is e =
      let have = have_keys rows keys is in
      record { each = have.each; different = subst (IsDistinct is_key) (sym have.all) (IsDistinct-from_sorted key_cmp keys (sorted_keys keys e)) }

  -- rows that are a sound snapshot's are an opening
  pub sound_rows_open : (rows : List (List ℕ × Row)) → are_rising (row_keys resource schema rows) ≡ true → IsOpening resource schema rows
  sound_rows_open rows e = opening_by rows (row_keys resource schema rows) refl e

-- ---- images

sorted_images : (i : Image) (is : List Image) → IsInOrder image_follows (Some i) is → IsStrictlySortedBy key_cmp (i.key ∷ map key_of is)
sorted_images i [] order = sorted_one i.key
sorted_images i (j ∷ is) order = sorted_cons i.key j.key (map key_of is) order.0 (sorted_images j is order.1)

images_sorted : (is : List Image) → IsInOrder image_follows None is → IsStrictlySortedBy key_cmp (map key_of is)
images_sorted [] order = sorted_none
images_sorted (i ∷ is) order = sorted_images i is order.1

each_image : (db : Database) (is : List Image) → list_all (is_image db.resource db.schema) is ≡ true → All (IsImageOf db) is
each_image db [] e = All-nil (IsImageOf db)
each_image db (i ∷ is) e =
    let both = and_parts _ _ e in
    All-cons (IsImageOf db) i is (image_is db i both.0) (each_image db is both.1)

-- images that were read and pass can be put on the tables
pub sound_images_fit : (db : Database) (is : List Image) → FitsImages is → list_all (is_image db.resource db.schema) is ≡ true → AreImagesOf db is
sound_images_fit db is fits e = record {
  each = each_image db is e;
  different = IsDistinct-from_sorted key_cmp (map key_of is) (images_sorted is fits.order);
}
