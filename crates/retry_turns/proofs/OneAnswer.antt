-- Of the plans of one moment one answer is told.
use Rattle.std.proofs.Common.{◌≡◌, ℕ, ◌≤◌, Bool, true, false, ◌||◌, ◌&&◌, ◌==◌, Option, Some, None, refl, sym, true≢false, arith}
use Rattle.std.specs.Prelude.{nat_lt}
use Rattle.std.proofs.lemmas.Bool.{ltb-false, eq-eqb}
use Rattle.seata_types.specs.declared.ids.Xid.{Xid}
use Rattle.retry_turns.specs.Plans.{Plans, moment_of, IsFirstDue, TellsDue}

not_less : (m x n y : ℕ) (less : Bool) → nat_lt m n ≡ less → (less || ((m == n) && nat_lt x y)) ≡ false → n ≤ m
not_less m x n y true is before = absurd (true≢false before)
not_less m x n y false is before = ltb-false m n is

not_tied : (x y : ℕ) (less tie : Bool) → tie ≡ true → (less || (tie && nat_lt x y)) ≡ false → y ≤ x
not_tied x y true tie same before = absurd (true≢false before)
not_tied x y false true same before = ltb-false x y before
not_tied x y false false same before = absurd (true≢false (sym same))

-- no moment comes before the one that is due first
no_earlier : (ps : Plans) (now x y : ℕ) (f : IsFirstDue ps now x) (n : ℕ) → moment_of ps y ≡ Some n → f.moment ≤ n
no_earlier ps now x y f n planned = not_less n y f.moment x (nat_lt n f.moment) refl (f.least y n planned)

no_less : (ps : Plans) (now x y : ℕ) (f : IsFirstDue ps now x) (n : ℕ) → moment_of ps y ≡ Some n → n ≡ f.moment → x ≤ y
no_less ps now x y f n planned tie = not_tied y x (nat_lt n f.moment) (n == f.moment) (eq-eqb n f.moment tie) (f.least y n planned)

-- one transaction is due first
pub one_first : (ps : Plans) (now x y : ℕ) → IsFirstDue ps now x → IsFirstDue ps now y → x ≡ y
one_first ps now x y f g =
    let up : f.moment ≤ g.moment = no_earlier ps now x y f g.moment g.planned in
    let down : g.moment ≤ f.moment = no_earlier ps now y x g f.moment f.planned in
    let low : x ≤ y = no_less ps now x y f g.moment g.planned (omega (arith, up, down)) in
    let high : y ≤ x = no_less ps now y x g f.moment f.planned (omega (arith, up, down)) in
    omega (arith, low, high)

-- the answer is one
pub told_once : (ps : Plans) (now : ℕ) (a b : Option Xid) → TellsDue ps now a → TellsDue ps now b → a ≡ b
told_once ps now None None none also = refl
told_once ps now None (Some y) none first = absurd (let late = none y.0 first.moment first.planned in omega (arith, late, first.come))
told_once ps now (Some x) None first none = absurd (let late = none x.0 first.moment first.planned in omega (arith, late, first.come))
told_once ps now (Some x) (Some y) first also =
    let same : x.0 ≡ y.0 = one_first ps now x.0 y.0 first also in
    λ i. Some (record { 0 = same i })
