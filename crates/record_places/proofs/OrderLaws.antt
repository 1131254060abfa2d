-- Images and reads that rise by their keys stand in the order of their layout, and there are few of them.
use Rattle.std.proofs.Common.{◌≡◌, ℕ, ◌+◌, ◌≤◌, ◌||◌, not, Bool, true, false, cond, List, [], ◌∷◌, length, map, count_by, Option, Some, None, Less, refl, sym, ap, ap₂, subst, ◌∙◌, arith}
use Rattle.std.specs.List.{AllByRecursion, list_any}
use Rattle.std.specs.List.Sorted.{IsStrictlySortedBy}
use Rattle.std.specs.Ordering.{is_eq, is_lt}
use Rattle.std.proofs.lemmas.List.Sums.{sum_by-cons}
use Rattle.seata_types.specs.Orders.{key_cmp}
use Rattle.seata_types.specs.declared.limits.TheConstants.{CALL_ROWS}
use Rattle.seata_types.specs.declared.rows.Image.{Image}
use Rattle.seata_types.specs.declared.rows.ReadRow.{ReadRow}
use Rattle.seata_types.specs.declared.rows.RowKey.{RowKey}
use Rattle.byte_fields.specs.KeyOrder.{is_below}
use Rattle.byte_fields.specs.Layout.{IsInOrder, may_come}
use Rattle.local_tables.specs.EffectRows.{read_key}
use Rattle.local_tables.specs.FittingRows.{is_untouched}
use Rattle.local_tables.specs.Rows.{is_key}
use Rattle.local_tables.proofs.KeyLaws.{same_key}

some_is : {A : Type 0} (a b : A) → Some a ≡ Some b → a ≡ b
some_is a b e = cc

below_is : (a b : RowKey) → key_cmp a b ≡ Less → is_below a b ≡ true
unfolding is_below
below_is a b e = ap is_lt e

-- ---- order

-- a key is below all of these
abbrev IsBelowAll : RowKey → List RowKey → Type 0
IsBelowAll k keys = AllByRecursion (λ y. key_cmp k y ≡ Less) keys

pub ordered : {X : Type 0} (key : X → RowKey) (last : Option X) (xs : List X) → ((l : X) → last ≡ Some l → IsBelowAll (key l) (map key xs)) → IsStrictlySortedBy key_cmp (map key xs)
    → IsInOrder (λ a b. is_below (key a) (key b)) last xs
unfolding IsStrictlySortedBy
ordered key last [] below s = tt
ordered {X} key last (x ∷ xs) below s =
    (comes last (λ l e. (below l e).0), ordered key (Some x) xs (λ l e. subst (λ (y : X). IsBelowAll (key y) (map key xs)) (some_is x l e) s.0) s.1)
  where
    comes : (o : Option X) → ((l : X) → o ≡ Some l → key_cmp (key l) (key x) ≡ Less) → may_come (λ a b. is_below (key a) (key b)) o x ≡ true
    comes None h = refl
    comes (Some l) h = below_is (key l) (key x) (h l refl)

-- ---- how many

count_none : (k : RowKey) (rs : List ReadRow) → IsBelowAll k (map read_key rs) → count_by (λ r. is_key k r.key) rs ≡ 0
count_none k [] b = refl
count_none k (r ∷ rs) b = sum_by-cons (λ q. cond (is_key k q.key) 1 0) r rs ∙ ap₂ (λ t n. cond t 1 0 + n) (ap is_eq b.0) (count_none k rs b.1)

once_by : (k : RowKey) (r : ReadRow) (rs : List ReadRow) → IsBelowAll r.key (map read_key rs) → count_by (λ q. is_key k q.key) rs ≤ 1 → count_by (λ q. is_key k q.key) (r ∷ rs) ≤ 1
once_by k r rs below later = by (is_key k r.key) refl
  where
    step : count_by (λ q. is_key k q.key) (r ∷ rs) ≡ cond (is_key k r.key) 1 0 + count_by (λ q. is_key k q.key) rs
    step = sum_by-cons (λ q. cond (is_key k q.key) 1 0) r rs

    by : (b : Bool) → is_key k r.key ≡ b → count_by (λ q. is_key k q.key) (r ∷ rs) ≤ 1
    by true e =
        let none : count_by (λ q. is_key k q.key) rs ≡ 0 = count_none k rs (subst (λ (j : RowKey). IsBelowAll j (map read_key rs)) (sym (same_key k r.key e)) below) in
        let head : ◌≡◌ {A = ℕ} (cond (is_key k r.key) 1 0) 1 = ap (λ (c : Bool). cond c 1 0) e in
        omega (arith, step, none, head)
    by false e =
        let head : ◌≡◌ {A = ℕ} (cond (is_key k r.key) 1 0) 0 = ap (λ (c : Bool). cond c 1 0) e in
        omega (arith, step, later, head)

once : (k : RowKey) (rs : List ReadRow) → IsStrictlySortedBy key_cmp (map read_key rs) → count_by (λ r. is_key k r.key) rs ≤ 1
unfolding IsStrictlySortedBy
once k [] s = omega arith
once k (r ∷ rs) s = once_by k r rs s.0 (once k rs s.1)

or_count : (a b : Bool) → cond (a || b) 1 0 ≤ cond a 1 0 + cond b 1 0
or_count true true = omega arith
or_count true false = omega arith
or_count false true = omega arith
or_count false false = omega arith

count_or : (p q : ReadRow → Bool) (rs : List ReadRow) → count_by (λ r. p r || q r) rs ≤ count_by p rs + count_by q rs
count_or p q [] = omega arith
count_or p q (r ∷ rs) =
    let one = sum_by-cons (λ x. cond (p x || q x) 1 0) r rs in
    let two = sum_by-cons (λ x. cond (p x) 1 0) r rs in
    let three = sum_by-cons (λ x. cond (q x) 1 0) r rs in
    let head = or_count (p r) (q r) in
    let rest = count_or p q rs in
    omega (arith, one, two, three, head, rest)

none_counted : (rs : List ReadRow) → count_by (λ r. false) rs ≡ 0
none_counted [] = refl
none_counted (r ∷ rs) =
    let step = sum_by-cons (λ (x : ReadRow). cond {A = ℕ} false 1 0) r rs in
    let rest = none_counted rs in
    omega (arith, step, rest)

-- reads of rows that are touched are no more than the images
touched_few : (is : List Image) (rs : List ReadRow) → IsStrictlySortedBy key_cmp (map read_key rs) → count_by (λ r. list_any (λ i. is_key i.key r.key) is) rs ≤ length is
touched_few [] rs s = let none = none_counted rs in omega (arith, none)
touched_few (i ∷ is) rs s =
    let both = count_or (λ r. is_key i.key r.key) (λ r. list_any (λ j. is_key j.key r.key) is) rs in
    let first = once i.key rs s in
    let rest = touched_few is rs s in
    omega (arith, both, first, rest)

not_count : (b : Bool) → cond b 1 0 + cond (not b) 1 0 ≡ 1
not_count true = refl
not_count false = refl

both_count : (p : ReadRow → Bool) (rs : List ReadRow) → count_by p rs + count_by (λ r. not (p r)) rs ≡ length rs
both_count p [] = refl
both_count p (r ∷ rs) =
    let one = sum_by-cons (λ x. cond (p x) 1 0) r rs in
    let two = sum_by-cons (λ x. cond (not (p x)) 1 0) r rs in
    let head = not_count (p r) in
    let rest = both_count p rs in
    omega (arith, one, two, head, rest)

pub reads_few : (is : List Image) (rs : List ReadRow) → IsStrictlySortedBy key_cmp (map read_key rs) → length is + count_by (is_untouched is) rs ≤ CALL_ROWS → length rs ≤ CALL_ROWS
reads_few is rs s few =
    let both = both_count (λ r. list_any (λ i. is_key i.key r.key) is) rs in
    let touched = touched_few is rs s in
    omega (arith, both, touched, few)
