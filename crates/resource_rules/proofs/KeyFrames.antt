-- The rows that a ticket asks for can be framed: they rise, have places, and are no more than a call may have.
use Rattle.std.proofs.Common.{◌≡◌, ◌∙◌, ℕ, suc, ◌+◌, ◌≤◌, ◌||◌, not, Bool, true, false, cond, List, [], ◌∷◌, length, filter, Option, Some, None, Ordering, Less, Equal, Greater, refl, sym, ap, subst, arith, true≢false}
use Rattle.std.specs.List.{AllByRecursion}
use Rattle.std.specs.List.Sorted.{IsStrictlySortedBy}
use Rattle.std.specs.Ordering.{is_eq, is_lt, match_ordering, ordering_reverse}
use Rattle.std.proofs.lemmas.Bool.{leb-true}
use Rattle.std.proofs.lemmas.List.Elements.{All-from_recursion}
use Rattle.std.proofs.lemmas.Option.{none-some}
use Rattle.seata_types.specs.Orders.{key_cmp}
use Rattle.seata_types.specs.declared.limits.TheConstants.{CALL_ROWS, RESOURCES}
use Rattle.seata_types.specs.declared.rows.Image.{Image}
use Rattle.seata_types.specs.declared.rows.RowKey.{RowKey}
use Rattle.byte_fields.specs.KeyOrder.{is_below}
use Rattle.byte_fields.specs.Layout.{FitsKey, FitsKeys, IsInOrder}
use Rattle.frame_codec.specs.Limits as frames
use Rattle.frame_codec.specs.Limits.{AreKeysWithin, IsCounted}
use Rattle.local_tables.specs.Rows.{Database, is_key}
use Rattle.local_tables.proofs.KeyLaws.{key_cmp_total}
use Rattle.durable_records.specs.Locks.{has_key}
use Rattle.durable_records.specs.ResourceOrder.{image_keys, only_read, read_keys}
use Rattle.history_rules.specs.ResourceRules.{with_row, with_rows}
use Rattle.resource_rules.proofs.AskedLaws.{rows_rise}
use Rattle.local_txn.specs.OpenTickets.{Open}
use Rattle.record_places.specs.Within.{AreKeysOf, IsKeyOf}
use Rattle.resource_log.proofs.SoundLaws.{sorted_keys}
use Rattle.resource_memory.proofs.Fits.{fits}
use Rattle.resource_rules.specs.Ready.{HasRows}

some_is : {A : Type 0} (a b : A) → Some a ≡ Some b → a ≡ b
some_is a b e = cc

-- ---- lists of keys

abbrev IsBelowAll : RowKey → List RowKey → Type 0
IsBelowAll k keys = AllByRecursion (λ y. key_cmp k y ≡ Less) keys

abbrev Rises : List RowKey → Type 0
Rises keys = IsStrictlySortedBy key_cmp keys

first_rises : (k : RowKey) (ks : List RowKey) → Rises (k ∷ ks) → IsBelowAll k ks
unfolding IsStrictlySortedBy
first_rises k ks s = s.0

rest_rises : (k : RowKey) (ks : List RowKey) → Rises (k ∷ ks) → Rises ks
unfolding IsStrictlySortedBy
rest_rises k ks s = s.1

both_rise : (k : RowKey) (ks : List RowKey) → IsBelowAll k ks → Rises ks → Rises (k ∷ ks)
unfolding IsStrictlySortedBy
both_rise k ks b s = (b, s)

none_rise : Rises []
unfolding IsStrictlySortedBy
none_rise = tt

below_is : (a b : RowKey) → key_cmp a b ≡ Less → is_below a b ≡ true
unfolding is_below
below_is a b e = ap is_lt e

in_order : (last : Option RowKey) (ks : List RowKey) → ((l : RowKey) → last ≡ Some l → IsBelowAll l ks) → Rises ks → IsInOrder is_below last ks
in_order last [] below s = tt
in_order None (k ∷ ks) below s = (refl, in_order (Some k) ks (λ l e. subst (λ (j : RowKey). IsBelowAll j ks) (some_is k l e) (first_rises k ks s)) (rest_rises k ks s))
in_order (Some l) (k ∷ ks) below s =
    (below_is l k (below l refl).0, in_order (Some k) ks (λ j e. subst (λ (i : RowKey). IsBelowAll i ks) (some_is k j e) (first_rises k ks s)) (rest_rises k ks s))

-- what holds of each holds of those that pass a test
left_all : (P : RowKey → Type 0) (p : RowKey → Bool) (ks : List RowKey) → AllByRecursion P ks → AllByRecursion P (filter p ks)
left_all P p [] all = tt
left_all P p (k ∷ ks) all = by (p k) (left_all P p ks all.1)
  where
    by : (b : Bool) → AllByRecursion P (filter p ks) → AllByRecursion P (cond b (k ∷ filter p ks) (filter p ks))
    by true rest = (all.0, rest)
    by false rest = rest

left_rise : (p : RowKey → Bool) (ks : List RowKey) → Rises ks → Rises (filter p ks)
left_rise p [] s = none_rise
left_rise p (k ∷ ks) s = by (p k) (left_rise p ks (rest_rises k ks s))
  where
    by : (b : Bool) → Rises (filter p ks) → Rises (cond b (k ∷ filter p ks) (filter p ks))
    by true rest = both_rise k (filter p ks) (left_all (λ y. key_cmp k y ≡ Less) p ks (first_rises k ks s)) rest
    by false rest = rest

-- ---- rows put among others

row_all : (P : RowKey → Type 0) (key : RowKey) (ks : List RowKey) → P key → AllByRecursion P ks → AllByRecursion P (with_row key ks)
row_all P key [] is all = (is, tt)
row_all P key (k ∷ ks) is all = by (key_cmp key k) (row_all P key ks is all.1)
  where
    by : (o : Ordering) → AllByRecursion P (with_row key ks) → AllByRecursion P (match_ordering o (key ∷ k ∷ ks) (k ∷ ks) (k ∷ with_row key ks))
    by Less rest = (is, all)
    by Equal rest = all
    by Greater rest = (all.0, rest)

rows_all : (P : RowKey → Type 0) (keys ks : List RowKey) → AllByRecursion P keys → AllByRecursion P ks → AllByRecursion P (with_rows keys ks)
rows_all P keys [] all others = all
rows_all P keys (k ∷ ks) all others = row_all P k (with_rows keys ks) others.0 (rows_all P keys ks all others.1)

or_right : (a b : Bool) → b ≡ true → (a || b) ≡ true
or_right true b e = refl
or_right false b e = e

-- a key that is among them stays
has_still : (key q : RowKey) (ks : List RowKey) → has_key ks q ≡ true → has_key (with_row key ks) q ≡ true
has_still key q [] e = absurd (true≢false (sym e))
has_still key q (k ∷ ks) e = by (key_cmp key k) (has_still key q ks) e
  where
    or_more : (a b c : Bool) → (b ≡ true → c ≡ true) → (a || b) ≡ true → (a || c) ≡ true
    or_more true b c h f = refl
    or_more false b c h f = h f

    by : (o : Ordering) → (has_key ks q ≡ true → has_key (with_row key ks) q ≡ true) → (is_key k q || has_key ks q) ≡ true
        → has_key (match_ordering o (key ∷ k ∷ ks) (k ∷ ks) (k ∷ with_row key ks)) q ≡ true
    by Less later f = or_right (is_key key q) (is_key k q || has_key ks q) f
    by Equal later f = f
    by Greater later f = or_more (is_key k q) (has_key ks q) (has_key (with_row key ks) q) later f

has_all : (keys ks : List RowKey) (q : RowKey) → has_key keys q ≡ true → has_key (with_rows keys ks) q ≡ true
has_all keys [] q e = e
has_all keys (k ∷ ks) q e = has_still k q (with_rows keys ks) (has_all keys ks q e)

-- a key that is below all of them isn't among them
not_among : (key : RowKey) (ks : List RowKey) → IsBelowAll key ks → has_key ks key ≡ false
not_among key [] below = refl
not_among key (k ∷ ks) below = by (key_cmp k key) (key_cmp_total.antisymm k key ∙ ap ordering_reverse below.0) (not_among key ks below.1)
  where
    by : (o : Ordering) → o ≡ Greater → has_key ks key ≡ false → (is_eq o || has_key ks key) ≡ false
    by Greater e rest = rest
    by Less e rest = cc
    by Equal e rest = cc

below_more : (j k : RowKey) (ks : List RowKey) → key_cmp j k ≡ Less → IsBelowAll k ks → IsBelowAll j ks
below_more j k [] l b = tt
below_more j k (y ∷ ys) l b = (key_cmp_total.trans j k y l b.0, below_more j k ys l b.1)

one_more : (key : RowKey) (ks : List RowKey) → length (with_row key ks) ≤ suc (length ks)
one_more key [] = omega arith
one_more key (k ∷ ks) = by (key_cmp key k) (one_more key ks)
  where
    by : (o : Ordering) → length (with_row key ks) ≤ suc (length ks) → length (match_ordering o (key ∷ k ∷ ks) (k ∷ ks) (k ∷ with_row key ks)) ≤ suc (length (k ∷ ks))
    by Less rest = omega arith
    by Equal rest = omega arith
    by Greater rest = omega (arith, rest)

-- a key that is among rising ones is put nowhere
no_more : (key : RowKey) (ks : List RowKey) → Rises ks → has_key ks key ≡ true → length (with_row key ks) ≤ length ks
no_more key [] s e = absurd (true≢false (sym e))
no_more key (k ∷ ks) s e = by (key_cmp key k) refl (no_more key ks (rest_rises k ks s))
  where
    by : (o : Ordering) → key_cmp key k ≡ o → (has_key ks key ≡ true → length (with_row key ks) ≤ length ks) → length (match_ordering o (key ∷ k ∷ ks) (k ∷ ks) (k ∷ with_row key ks)) ≤ length (k ∷ ks)
    by Less is later = absurd (true≢false (sym e ∙ not_among key (k ∷ ks) (is, below_more key k ks is (first_rises k ks s))))
    by Equal is later = omega arith
    by Greater is later = let rest = later (after (key_cmp k key) (key_cmp_total.antisymm k key ∙ ap ordering_reverse is) e) in omega (arith, rest)
      where
        after : (o : Ordering) → o ≡ Less → (is_eq o || has_key ks key) ≡ true → has_key ks key ≡ true
        after Less same f = f
        after Equal same f = cc
        after Greater same f = cc

rows_few : (keys ks : List RowKey) → Rises keys → length (with_rows keys ks) ≤ length keys + length (filter (λ k. not (has_key keys k)) ks)
rows_few keys [] s = omega arith
rows_few keys (k ∷ ks) s = by (has_key keys k) refl (rows_few keys ks s)
  where
    by : (b : Bool) → has_key keys k ≡ b → length (with_rows keys ks) ≤ length keys + length (filter (λ k. not (has_key keys k)) ks)
        → length (with_row k (with_rows keys ks)) ≤ length keys + length (cond (not b) (k ∷ filter (λ k. not (has_key keys k)) ks) (filter (λ k. not (has_key keys k)) ks))
    by true is rest = let same = no_more k (with_rows keys ks) (rows_rise keys ks s) (has_all keys ks k is) in omega (arith, same, rest)
    by false is rest = let more = one_more k (with_rows keys ks) in omega (arith, more, rest)

-- ---- keys in frames

key_framed : (n : ℕ) (key : RowKey) → IsCounted RESOURCES n → IsKeyOf n key → frames.IsKeyWithin key
key_framed n key counted is = record { resource = subst (IsCounted RESOURCES) (sym is.of) counted; table = is.short }

each_fits : (n : ℕ) (keys : List RowKey) → AreKeysOf n keys → AllByRecursion FitsKey keys
each_fits n [] all = tt
each_fits n (k ∷ ks) all = (all.0.fits, each_fits n ks all.1)

each_framed : (n : ℕ) (keys : List RowKey) → IsCounted RESOURCES n → AreKeysOf n keys → AllByRecursion frames.IsKeyWithin keys
each_framed n [] counted all = tt
each_framed n (k ∷ ks) counted all = (key_framed n k counted all.0, each_framed n ks counted all.1)

-- a list of keys that can be framed
pub record AreFramed (keys : List RowKey) : Type 0 where
  pub layout : FitsKeys keys
  pub limits : AreKeysWithin keys

keys_framed : (n : ℕ) (keys : List RowKey) → IsCounted RESOURCES n → AreKeysOf n keys → Rises keys → length keys ≤ CALL_ROWS → AreFramed keys
keys_framed n keys counted all s few = record {
  layout = record { count = omega (arith, few); each = All-from_recursion FitsKey keys (each_fits n keys all); order = in_order None keys (λ l e. absurd (none-some l e)) s };
  limits = record { count = few; each = All-from_recursion frames.IsKeyWithin keys (each_framed n keys counted all) };
}

pub none_framed : AreFramed []
none_framed = record { layout = record { count = omega arith; each = All-from_recursion FitsKey [] tt; order = tt }; limits = record { count = omega arith; each = All-from_recursion frames.IsKeyWithin [] tt } }

pub one_framed : (n : ℕ) (key : RowKey) → IsCounted RESOURCES n → IsKeyOf n key → FitsKey key × frames.IsKeyWithin key
one_framed n key counted is = (is.fits, key_framed n key counted is)

-- ---- the rows of an open ticket

images_length : (images : List Image) → length (image_keys images) ≡ length images
images_length [] = refl
images_length (i ∷ is) = ap suc (images_length is)

module _ (db : Database) (o : Open) (counted : IsCounted RESOURCES db.resource) (has : HasRows db o) where
  few : length o.images + length (only_read o.images o.reads) ≤ CALL_ROWS
  few = leb-true _ CALL_ROWS (fits db o.images o.reads has.fits).few

  touched_rise : Rises (image_keys o.images)
  touched_rise = sorted_keys (image_keys o.images) (fits db o.images o.reads has.fits).images_rise

  read_rise : Rises (read_keys o.reads)
  read_rise = sorted_keys (read_keys o.reads) (fits db o.images o.reads has.fits).reads_rise

  -- those that it touched
  pub touched_framed : AreFramed (image_keys o.images)
  touched_framed = let count = images_length o.images in let most = few in keys_framed db.resource (image_keys o.images) counted has.keys.touched touched_rise (omega (arith, count, most))

  -- those that it only read
  pub read_framed : AreFramed (only_read o.images o.reads)
  read_framed =
      let most = few in
      keys_framed db.resource (only_read o.images o.reads) counted (left_all (IsKeyOf db.resource) _ (read_keys o.reads) has.keys.read) (left_rise _ (read_keys o.reads) read_rise) (omega (arith, most))

  -- all together
  pub rows_framed : AreFramed (with_rows (image_keys o.images) (read_keys o.reads))
  rows_framed =
      let count = images_length o.images in
      let most = few in
      let all = rows_few (image_keys o.images) (read_keys o.reads) touched_rise in
      keys_framed db.resource (with_rows (image_keys o.images) (read_keys o.reads)) counted (rows_all (IsKeyOf db.resource) (image_keys o.images) (read_keys o.reads) has.keys.touched has.keys.read)
      (rows_rise (image_keys o.images) (read_keys o.reads) touched_rise) (omega (arith, count, most, all))
