-- The order of keys is total, and keys that compare as equal are equal.
use Rattle.std.proofs.Common.{◌≡◌, ℕ, true, List, [], ◌∷◌, Ordering, Less, Equal, Greater, refl, ap, ap₂, true≢false}
use Rattle.std.specs.Cmp.{IsTotalOrder, IsEquivalence}
use Rattle.std.specs.Ordering.{ordering_then, is_eq, is_lt, is_gt, eq_by_cmp}
use Rattle.std.proofs.lemmas.Cmp.{nat_cmp_total, nat_list_cmp_total, on_total, then_total, lists_total, eq_by_cmp_equiv}
use Rattle.std.proofs.lemmas.Map.Lookups.{CmpEqualImpliesEq, exact_unsigned, exact_signed, exact_bytes}
use Rattle.std.specs.Cmp.Lexicographic.{bytes_decides, slice_cmp}
use Rattle.seata_types.specs.Orders.{value_cmp, key_cmp, same_text}
use Rattle.seata_types.specs.ValueOrder.{value_cmp_total}
use Rattle.seata_types.specs.declared.rows.Value.{Value}
use Rattle.seata_types.specs.declared.rows.Value.TheVariants as value
use Rattle.seata_types.specs.declared.rows.RowKey.{RowKey}
use Rattle.local_tables.specs.Rows.{is_key}

pub key_cmp_total : IsTotalOrder key_cmp
key_cmp_total =
    then_total (on_total (λ (k : RowKey). k.resource) nat_cmp_total) (then_total (on_total (λ (k : RowKey). k.table) nat_list_cmp_total) (on_total (λ (k : RowKey). k.pk) (lists_total value_cmp_total)))

-- ---- what compares as equal is equal

pub value_exact : CmpEqualImpliesEq value_cmp
value_exact (value.Int a) (value.Int b) e = ap value.Int (exact_signed a b e)
value_exact (value.Int a) (value.Text t) e = cc
value_exact (value.Text s) (value.Int b) e = cc
value_exact (value.Text s) (value.Text t) e = ap value.Text (exact_bytes s t e)

both_equal : (a b : Ordering) → ordering_then a b ≡ Equal → (a ≡ Equal) × (b ≡ Equal)
both_equal Less b e = absurd (true≢false (ap is_lt e))
both_equal Equal b e = (refl, e)
both_equal Greater b e = absurd (true≢false (ap is_gt e))

values_exact : (xs ys : List Value) → slice_cmp value_cmp xs ys ≡ Equal → xs ≡ ys
values_exact [] [] e = refl
values_exact [] (y ∷ ys) e = cc
values_exact (x ∷ xs) [] e = cc
values_exact (x ∷ xs) (y ∷ ys) e =
    let both = both_equal (value_cmp x y) (slice_cmp value_cmp xs ys) e in
    ap₂ (λ (z : Value) (zs : List Value). z ∷ zs) (value_exact x y both.0) (values_exact xs ys both.1)

pub key_exact : CmpEqualImpliesEq key_cmp
key_exact x y e =
    let first = both_equal _ _ e in
    let second = both_equal _ _ first.1 in
    λ i. record {
      resource = exact_unsigned x.resource y.resource first.0 i;
      table = exact_bytes x.table y.table second.0 i;
      pk = values_exact x.pk y.pk second.1 i;
    }

pub equal_from_is_eq : (r : Ordering) → is_eq r ≡ true → r ≡ Equal
equal_from_is_eq Less e = cc
equal_from_is_eq Equal e = refl
equal_from_is_eq Greater e = cc

-- the laws of the equality of keys
pub is_key_laws : IsEquivalence (eq_by_cmp key_cmp)
is_key_laws = eq_by_cmp_equiv key_cmp_total

pub same_key : (k q : RowKey) → is_key k q ≡ true → k ≡ q
same_key k q e = key_exact k q (equal_from_is_eq _ e)

pub same_text_same : (s t : List ℕ) → same_text s t ≡ true → s ≡ t
same_text_same s t e = (bytes_decides s t).0 e

pub same_text_itself : (t : List ℕ) → same_text t t ≡ true
same_text_itself t = (bytes_decides t t).1 refl
