use Rattle.std.proofs.Common.{◌≡◌, ℤ, ◌<ℤ◌, [], ◌∷◌, Less, Equal, sym, ap, ◌∙◌, subst}
use Rattle.std.specs.Cmp.{int_cmp_is}
use Rattle.std.specs.Ordering.{ordering_then}
use Rattle.std.specs.List.Sorted.{IsStrictlySortedBy}
use Rattle.seata_types.specs.Orders.{key_cmp}
use Rattle.seata_types.specs.declared.rows.Image.{Image}
use Rattle.local_tables.specs.Rows.{AreRising}
use Rattle.value_tests.specs.Examples.{key_of_number}
use Rattle.value_tests.proofs.images.two.Goals as goal

two_rise : (a b : Image) (m n : ℤ) → a.key ≡ key_of_number m → b.key ≡ key_of_number n → m <ℤ n → AreRising (a ∷ b ∷ [])
unfolding IsStrictlySortedBy
two_rise a b m n p q less = ((ap (λ k. key_cmp k b.key) p ∙ ap (key_cmp (key_of_number m)) q ∙ ap (λ o. ordering_then o Equal) (sym (int_cmp_is m n Less less)), tt), (tt, tt))

pub returns : goal.returns
returns c =
    subst AreRising (sym c.in_ok-from_array.ensures.items)
    (two_rise c.in_ok-first.first c.in_ok-second.second c.args.first.0 c.args.second.0 c.in_ok-first.ensures c.in_ok-second.ensures c.requires)
