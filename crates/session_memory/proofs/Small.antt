-- Small facts of tests and numbers.
use Rattle.std.proofs.Common.{◌≡◌, ◌==◌, ◌<◌, ℕ, false, Ordering, Less, Greater, sym, arith}
use Rattle.std.proofs.lemmas.Bool.Decides.{nat_tests}
use Rattle.std.specs.Ordering.{nat_cmp, MatchOrdering}
use Rattle.std.specs.Cmp.{nat_cmp_is, ranked}
pub use Rattle.durable_records.proofs.Tests.{false_true, true_false, none_some, and_left, and_right, and_both, not_true, same_nat, nat_same, nat_differs, moved, is_none_none}

pub differ : (m n : ℕ) → (m == n) ≡ false → m ≡ n → ⊥
differ m n e is = grind (arith, nat_tests)

pub cmp_less : (m n : ℕ) → m < n → nat_cmp m n ≡ Less
cmp_less m n lt = sym (nat_cmp_is m n Less lt)

pub cmp_greater : (m n : ℕ) → n < m → nat_cmp m n ≡ Greater
cmp_greater m n lt = sym (nat_cmp_is m n Greater lt)

pub cmp_is : (m n : ℕ) (o : Ordering) → nat_cmp m n ≡ o → MatchOrdering o (m < n) (m ≡ n) (n < m)
cmp_is m n o e = ranked m n o (sym e)
