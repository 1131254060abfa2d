-- Small facts of tests.
use Rattle.std.proofs.Common.{◌≡◌, ◌==◌, ◌&&◌, not, ℕ, Bool, true, false, Option, Some, None, is_some, is_none, refl, sym, subst, arith}
use Rattle.std.proofs.lemmas.Bool.Decides.{nat_tests}

false_true_bot : false ≡ true → ⊥
false_true_bot e = cc

pub false_true : {A : Type 0} → false ≡ true → A
false_true e = absurd (false_true_bot e)

pub true_false : {A : Type 0} → true ≡ false → A
true_false e = false_true (sym e)

none_some_bot : {A : Type 0} {a : A} → None ≡ Some a → ⊥
none_some_bot e = cc

pub none_some : {A B : Type 0} {a : A} → None ≡ Some a → B
none_some e = absurd (none_some_bot e)

pub and_left : (a b : Bool) → (a && b) ≡ true → a ≡ true
and_left true b e = refl
and_left false b e = e

pub and_right : (a b : Bool) → (a && b) ≡ true → b ≡ true
and_right true b e = e
and_right false b e = false_true e

pub and_both : (a b : Bool) → a ≡ true → b ≡ true → (a && b) ≡ true
and_both true b e f = f
and_both false b e f = e

pub not_true : (a : Bool) → not a ≡ true → a ≡ false
not_true true e = sym e
not_true false e = refl

pub false_not : (a : Bool) → a ≡ false → not a ≡ true
false_not true e = sym e
false_not false e = refl

pub same_nat : (m n : ℕ) → (m == n) ≡ true → m ≡ n
same_nat m n e = grind (arith, nat_tests)

pub nat_same : (m n : ℕ) → m ≡ n → (m == n) ≡ true
nat_same m n e = grind (arith, nat_tests)

pub nat_differs : (m n : ℕ) → (m ≡ n → ⊥) → (m == n) ≡ false
nat_differs m n e = grind (arith, nat_tests)

-- what is said of y is said of an equal x
pub moved : (P : ℕ → Type 0) (y x : ℕ) → P y → (y == x) ≡ true → P x
moved P y x p e = subst P (same_nat y x e) p

pub is_none_none : {A : Type 0} (o : Option A) → is_none o ≡ true → o ≡ None
is_none_none None e = refl
is_none_none (Some a) e = false_true e

pub not_some : {A : Type 0} (o : Option A) → is_some o ≡ false → o ≡ None
not_some None e = refl
not_some (Some a) e = true_false e

pub some_not_none : {A B : Type 0} (o : Option A) → is_some o ≡ true → o ≡ None → B
some_not_none None e n = false_true e
some_not_none (Some a) e n = none_some (sym n)
