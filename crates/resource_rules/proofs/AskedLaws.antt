-- A key put in its place among others, and that they rise.
use Rattle.std.proofs.Common.{◌≡◌, ◌∙◌, ℕ, zero, suc, true, false, not, List, [], ◌∷◌, ◌++◌, map, take, drop, Option, Some, None, refl, sym, ap, subst, Ordering, Less, Equal, Greater, true≢false}
use Rattle.std.proofs.Math.ListN.{get_or}
use Rattle.std.specs.BTreeMap.{insert_entry}
use Rattle.std.specs.Map.{keys_of}
use Rattle.std.specs.Ordering.{is_gt, is_lt, match_ordering}
use Rattle.seata_types.specs.Orders.{key_cmp}
use Rattle.seata_types.specs.declared.rows.RowKey.{RowKey}
use Rattle.local_tables.proofs.MapLaws.{rising_insert}
use Rattle.history_rules.specs.ResourceRules.{with_row, with_rows}
use Rattle.resource_rules.specs.Asked.{is_from, Rises, KeepsOrder}
use Rattle.resource_rules.proofs.Places.{IsFirst, PassesNone}

-- ---- by its place

-- a key below this one
below : (key k : RowKey) → is_from key k ≡ false → key_cmp key k ≡ Greater
below key k e = by (key_cmp key k) refl e
  where
    by : (o : Ordering) → key_cmp key k ≡ o → not (is_gt o) ≡ false → o ≡ Greater
    by Less is e = absurd (true≢false e)
    by Equal is e = absurd (true≢false e)
    by Greater is e = refl

passed : (key k : RowKey) (ks : List RowKey) → is_from key k ≡ false → with_row key (k ∷ ks) ≡ k ∷ with_row key ks
passed key k ks e = ap (λ (o : Ordering). match_ordering o (key ∷ k ∷ ks) (k ∷ ks) (k ∷ with_row key ks)) (below key k e)

-- none, where no place is found
pub no_some : {A : Type 0} (o : Option A) → ((i : A) → o ≡ Some i → ⊥) → o ≡ None
no_some None n = refl
no_some (Some i) n = absurd (n i refl)

module _ (key : RowKey) where
  -- it isn't among them: it goes before the first that isn't below it
  pub put_first : (ks : List RowKey) (i : ℕ) (d : RowKey) → IsFirst (is_from key) ks i → key_cmp key (get_or ks i d) ≡ Less → take i ks ++ key ∷ drop i ks ≡ with_row key ks
  put_first [] i d p l = absurd p
  put_first (k ∷ ks) zero d p l = sym (ap (λ (o : Ordering). match_ordering o (key ∷ k ∷ ks) (k ∷ ks) (k ∷ with_row key ks)) l)
  put_first (k ∷ ks) (suc i) d p l = ap (λ (r : List RowKey). k ∷ r) (put_first ks i d p.1 l) ∙ sym (passed key k ks p.0)

  -- it is among them
  pub put_none : (ks : List RowKey) (i : ℕ) (d : RowKey) → IsFirst (is_from key) ks i → key_cmp key (get_or ks i d) ≡ Equal → ks ≡ with_row key ks
  put_none [] i d p e = absurd p
  put_none (k ∷ ks) zero d p e = sym (ap (λ (o : Ordering). match_ordering o (key ∷ k ∷ ks) (k ∷ ks) (k ∷ with_row key ks)) e)
  put_none (k ∷ ks) (suc i) d p e = ap (λ (r : List RowKey). k ∷ r) (put_none ks i d p.1 e) ∙ sym (passed key k ks p.0)

  -- all are below it
  pub put_last : (ks : List RowKey) → PassesNone (is_from key) ks → ks ++ key ∷ [] ≡ with_row key ks
  put_last [] n = refl
  put_last (k ∷ ks) n = ap (λ (r : List RowKey). k ∷ r) (put_last ks n.1) ∙ sym (passed key k ks n.0)

  -- the first that isn't below it is above it, or it itself
  first_from_is : (ks : List RowKey) (i : ℕ) (d : RowKey) → IsFirst (is_from key) ks i → is_from key (get_or ks i d) ≡ true
  first_from_is [] i d p = absurd p
  first_from_is (k ∷ ks) zero d p = p
  first_from_is (k ∷ ks) (suc i) d p = first_from_is ks i d p.1

  pub below_it : (o : Ordering) → is_lt o ≡ true → o ≡ Less
  below_it Less e = refl
  below_it Equal e = absurd (true≢false (sym e))
  below_it Greater e = absurd (true≢false (sym e))

  -- the first that isn't below it, and isn't above it
  pub among : (ks : List RowKey) (i : ℕ) (d : RowKey) → IsFirst (is_from key) ks i → is_lt (key_cmp key (get_or ks i d)) ≡ false → key_cmp key (get_or ks i d) ≡ Equal
  among ks i d p other = by (key_cmp key (get_or ks i d)) (first_from_is ks i d p) other
    where
      by : (o : Ordering) → not (is_gt o) ≡ true → is_lt o ≡ false → o ≡ Equal
      by Less e l = absurd (true≢false l)
      by Equal e l = refl
      by Greater e l = absurd (true≢false (sym e))

-- ---- in rising order: as the keys of a map with this key put in

abbrev entries : List RowKey → List (RowKey × Unit {0})
entries ks = map (λ k. (k, tt)) ks

keys_are : (ks : List RowKey) → keys_of (entries ks) ≡ ks
keys_are [] = refl
keys_are (k ∷ ks) = ap (λ (r : List RowKey). k ∷ r) (keys_are ks)

inserted : (key : RowKey) (ks : List RowKey) → keys_of (insert_entry key_cmp (entries ks) key tt) ≡ with_row key ks
inserted key [] = refl
inserted key (k ∷ ks) = by (key_cmp key k) (inserted key ks)
  where
    by : (o : Ordering) → keys_of (insert_entry key_cmp (entries ks) key tt) ≡ with_row key ks →
        keys_of (match_ordering o ((key, tt) ∷ entries (k ∷ ks)) ((k, tt) ∷ entries ks) ((k, tt) ∷ insert_entry key_cmp (entries ks) key tt))
        ≡ match_ordering o (key ∷ k ∷ ks) (k ∷ ks) (k ∷ with_row key ks)
    by Less rest = ap (λ (r : List RowKey). key ∷ k ∷ r) (keys_are ks)
    by Equal rest = ap (λ (r : List RowKey). k ∷ r) (keys_are ks)
    by Greater rest = ap (λ (r : List RowKey). k ∷ r) rest

row_rises : (key : RowKey) (ks : List RowKey) → Rises ks → Rises (with_row key ks)
row_rises key ks s = subst Rises (inserted key ks) (rising_insert (entries ks) key tt (subst Rises (sym (keys_are ks)) s))

-- rows put among rising ones rise, in whatever order they come
pub rows_rise : (keys ks : List RowKey) → KeepsOrder keys (with_rows keys ks)
rows_rise keys [] s = s
rows_rise keys (k ∷ ks) s = row_rises k (with_rows keys ks) (rows_rise keys ks s)
