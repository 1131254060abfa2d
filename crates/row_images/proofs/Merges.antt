-- The merge of two lists in rising order: its order, and the image of each row in it.
use Rattle.std.proofs.Common.{◌≡◌, Bool, true, false, cond, List, [], ◌∷◌, map, Option, Some, None, Ordering, Less, Equal, Greater, sym, refl, ap, ◌∙◌, subst}
use Rattle.std.specs.List.{AllByRecursion}
use Rattle.std.specs.List.Sorted.{IsStrictlySortedBy}
use Rattle.std.specs.Ordering.{match_ordering, ordering_reverse, is_eq}
use Rattle.seata_types.specs.Orders.{key_cmp}
use Rattle.seata_types.specs.declared.rows.Image.{Image}
use Rattle.seata_types.specs.declared.rows.RowKey.{RowKey}
use Rattle.local_tables.specs.Rows.{is_key, key_of, AreRising}
use Rattle.local_tables.proofs.KeyLaws.{key_cmp_total, key_exact, same_key}
use Rattle.row_images.specs.Joining.{image_at, both, from_to, placed, merged, IsJoined}

greater_is_less : (j k : RowKey) → key_cmp k j ≡ Greater → key_cmp j k ≡ Less
greater_is_less j k e = key_cmp_total.antisymm j k ∙ ap ordering_reverse e

-- a key below those of all images
abbrev IsBelow : RowKey → List Image → Type 0
IsBelow k images = AllByRecursion (λ y. key_cmp k y ≡ Less) (map key_of images)

below_all : (j k : RowKey) (images : List Image) → key_cmp j k ≡ Less → IsBelow k images → IsBelow j images
below_all j k [] l b = tt
below_all j k (x ∷ xs) l b = (key_cmp_total.trans j k x.key l b.0, below_all j k xs l b.1)

none_below : (k : RowKey) (images : List Image) → IsBelow k images → image_at images k ≡ None
none_below k [] b = refl
none_below k (x ∷ xs) b = ap (λ o. cond (is_eq o) (Some x) (image_at xs k)) b.0 ∙ none_below k xs b.1

-- a key that is this one is not among images above it
none_at : (q k : RowKey) (images : List Image) → is_key q k ≡ true → IsBelow k images → image_at images q ≡ None
none_at q k images same b = ap (image_at images) (same_key q k same) ∙ none_below k images b

-- ---- the order

below_placed : (k : RowKey) (x : Image) (rest : List Image → List Image) → key_cmp k x.key ≡ Less → ((ys : List Image) → IsBelow k ys → IsBelow k (rest ys))
    → (ys : List Image) → IsBelow k ys → IsBelow k (placed x rest ys)
below_placed k x rest l h [] b = (l, h [] tt)
below_placed k x rest l h (y ∷ ys) b = by (key_cmp x.key y.key) (below_placed k x rest l h ys b.1)
  where
    by : (r : Ordering) → IsBelow k (placed x rest ys) → IsBelow k (match_ordering r (x ∷ rest (y ∷ ys)) (from_to x y ∷ rest ys) (y ∷ placed x rest ys))
    by Less later = (l, h (y ∷ ys) b)
    by Equal later = (l, h ys b.1)
    by Greater later = (b.0, later)

below_merged : (k : RowKey) (xs ys : List Image) → IsBelow k xs → IsBelow k ys → IsBelow k (merged xs ys)
below_merged k [] ys b c = c
below_merged k (x ∷ xs) ys b c = below_placed k x (merged xs) b.0 (λ zs d. below_merged k xs zs b.1 d) ys c

module _ (x : Image) (xs : List Image) (below : IsBelow x.key xs) (rest : (ys : List Image) → AreRising ys → IsJoined xs ys (merged xs ys)) where
  rising_placed : (ys : List Image) → AreRising ys → AreRising (placed x (merged xs) ys)
  unfolding IsStrictlySortedBy
  rising_placed [] s = (below_merged x.key xs [] below tt, (rest [] tt).rising)
  rising_placed (y ∷ ys) s = by (key_cmp x.key y.key) refl (rising_placed ys s.1)
    where
      by : (r : Ordering) → key_cmp x.key y.key ≡ r → AreRising (placed x (merged xs) ys)
          → AreRising (match_ordering r (x ∷ merged xs (y ∷ ys)) (from_to x y ∷ merged xs ys) (y ∷ placed x (merged xs) ys))
      by Less p later = (below_merged x.key xs (y ∷ ys) below (p, below_all x.key y.key ys p s.0), (rest (y ∷ ys) s).rising)
      by Equal p later =
          let above : IsBelow x.key ys = subst (λ k. IsBelow k ys) (sym (key_exact x.key y.key p)) s.0 in
          (below_merged x.key xs ys below above, (rest ys s.1).rising)
      by Greater p later =
          let l : key_cmp y.key x.key ≡ Less = greater_is_less y.key x.key p in
          (below_placed y.key x (merged xs) l (λ zs d. below_merged y.key xs zs (below_all y.key x.key xs l below) d) ys s.0, later)

  -- ---- the image of each row

  module _ (q : RowKey) where
    abbrev Agrees : List Image → List Image → Type 0
    Agrees ys joined = image_at joined q ≡ both (image_at (x ∷ xs) q) (image_at ys q)

    alone : (b : Bool) → image_at (merged xs []) q ≡ both (image_at xs q) None
        → cond b (Some x) (image_at (merged xs []) q) ≡ both (cond b (Some x) (image_at xs q)) None
    alone true h = refl
    alone false h = h

    first_ahead : (b : Bool) (ys : List Image) → is_key q x.key ≡ b → IsBelow x.key ys → image_at (merged xs ys) q ≡ both (image_at xs q) (image_at ys q)
        → cond b (Some x) (image_at (merged xs ys) q) ≡ both (cond b (Some x) (image_at xs q)) (image_at ys q)
    first_ahead true ys e above h = sym (ap (both (Some x)) (none_at q x.key ys e above))
    first_ahead false ys e above h = h

    together : (a b : Bool) (y : Image) (ys : List Image) → a ≡ b → image_at (merged xs ys) q ≡ both (image_at xs q) (image_at ys q)
        → cond a (Some (from_to x y)) (image_at (merged xs ys) q) ≡ both (cond a (Some x) (image_at xs q)) (cond b (Some y) (image_at ys q))
    together true true y ys e h = refl
    together true false y ys e h = cc
    together false true y ys e h = cc
    together false false y ys e h = h

    second_ahead : (b : Bool) (y : Image) (ys joined : List Image) → is_key q y.key ≡ b → IsBelow y.key (x ∷ xs) → Agrees ys joined
        → cond b (Some y) (image_at joined q) ≡ both (image_at (x ∷ xs) q) (cond b (Some y) (image_at ys q))
    second_ahead true y ys joined e above h = sym (ap (λ o. both o (Some y)) (none_at q y.key (x ∷ xs) e above))
    second_ahead false y ys joined e above h = h

    each_placed : (ys : List Image) → AreRising ys → Agrees ys (placed x (merged xs) ys)
    unfolding IsStrictlySortedBy
    each_placed [] s = alone (is_key q x.key) ((rest [] tt).each q)
    each_placed (y ∷ ys) s = by (key_cmp x.key y.key) refl (each_placed ys s.1)
      where
        by : (r : Ordering) → key_cmp x.key y.key ≡ r → Agrees ys (placed x (merged xs) ys)
            → Agrees (y ∷ ys) (match_ordering r (x ∷ merged xs (y ∷ ys)) (from_to x y ∷ merged xs ys) (y ∷ placed x (merged xs) ys))
        by Less p later = first_ahead (is_key q x.key) (y ∷ ys) refl (p, below_all x.key y.key ys p s.0) ((rest (y ∷ ys) s).each q)
        by Equal p later = together (is_key q x.key) (is_key q y.key) y ys (ap (is_key q) (key_exact x.key y.key p)) ((rest ys s.1).each q)
        by Greater p later =
            let l : key_cmp y.key x.key ≡ Less = greater_is_less y.key x.key p in
            second_ahead (is_key q y.key) y ys (placed x (merged xs) ys) refl (l, below_all y.key x.key xs l below) later

nothing_first : (o : Option Image) → o ≡ both None o
nothing_first None = refl
nothing_first (Some y) = refl

pub merged_joined : (xs ys : List Image) → AreRising xs → AreRising ys → IsJoined xs ys (merged xs ys)
unfolding IsStrictlySortedBy
merged_joined [] ys r s = record { rising = s; each = λ q. nothing_first (image_at ys q) }
merged_joined (x ∷ xs) ys r s =
    let rest : (zs : List Image) → AreRising zs → IsJoined xs zs (merged xs zs) = λ zs t. merged_joined xs zs r.1 t in
    record { rising = rising_placed x xs r.0 rest ys s; each = λ q. each_placed x xs r.0 rest q ys s }
