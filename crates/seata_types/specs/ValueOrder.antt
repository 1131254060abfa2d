-- The order of values is total, and it tells apart what differs.
use Rattle.std.specs.Prelude.{◌≡◌, Some, refl}
use Rattle.std.proofs.Common.{Less, Equal}
use Rattle.std.specs.Cmp.{IsTotalOrder, IsPartialOrder, po}
use Rattle.std.specs.Cmp.Lexicographic.{texts_ties}
use Rattle.std.specs.Ordering.{ordering_reverse, eq_by_cmp}
use Rattle.std.proofs.lemmas.Cmp.{int_cmp_total, nat_list_cmp_total}
use Rattle.seata_types.specs.Orders.{value_cmp}
use Rattle.seata_types.specs.contracts.rows.ValuePartialEq as equality
use Rattle.seata_types.specs.declared.rows.Value.{Value}
use Rattle.seata_types.specs.declared.rows.Value.TheVariants as value

value_antisymm : (x y : Value) → value_cmp x y ≡ ordering_reverse (value_cmp y x)
value_antisymm (value.Int a) (value.Int b) = int_cmp_total.antisymm a b
value_antisymm (value.Int a) (value.Text t) = refl
value_antisymm (value.Text s) (value.Int b) = refl
value_antisymm (value.Text s) (value.Text t) = nat_list_cmp_total.antisymm s t

value_trans : (x y z : Value) → value_cmp x y ≡ Less → value_cmp y z ≡ Less → value_cmp x z ≡ Less
value_trans (value.Int a) (value.Int b) (value.Int c) p q = int_cmp_total.trans a b c p q
value_trans (value.Int a) (value.Int b) (value.Text u) p q = refl
value_trans (value.Int a) (value.Text t) (value.Int c) p q = cc
value_trans (value.Int a) (value.Text t) (value.Text u) p q = refl
value_trans (value.Text s) (value.Int b) z p q = cc
value_trans (value.Text s) (value.Text t) (value.Int c) p q = cc
value_trans (value.Text s) (value.Text t) (value.Text u) p q = nat_list_cmp_total.trans s t u p q

value_congr : (x y z : Value) → value_cmp x y ≡ Equal → value_cmp x z ≡ value_cmp y z
value_congr (value.Int a) (value.Int b) (value.Int c) p = int_cmp_total.congr a b c p
value_congr (value.Int a) (value.Int b) (value.Text u) p = refl
value_congr (value.Int a) (value.Text t) z p = cc
value_congr (value.Text s) (value.Int b) z p = cc
value_congr (value.Text s) (value.Text t) (value.Int c) p = refl
value_congr (value.Text s) (value.Text t) (value.Text u) p = nat_list_cmp_total.congr s t u p

pub value_cmp_total : IsTotalOrder value_cmp
value_cmp_total = record { antisymm = value_antisymm; trans = value_trans; congr = value_congr }

-- two values are equal exactly where neither comes before the other
pub value_ties : (x y : Value) → equality.TheImpl.eq-value.it x y ≡ eq_by_cmp value_cmp x y
value_ties (value.Int a) (value.Int b) = refl
value_ties (value.Int a) (value.Text t) = refl
value_ties (value.Text s) (value.Int b) = refl
value_ties (value.Text s) (value.Text t) = texts_ties s t

pub value_order : IsPartialOrder equality.TheImpl.eq-value.it (λ x y. Some (value_cmp x y))
value_order = po value_cmp_total value_ties
