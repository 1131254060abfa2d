-- Small facts of tests, options and tickets.
use Rattle.std.proofs.Common.{◌≡◌, ◌==◌, ◌&&◌, ◌||◌, ℕ, Bool, true, false, cond, Some, None, refl, sym, arith, true≢false}
use Rattle.std.proofs.lemmas.Bool.Decides.{nat_tests}
use Rattle.seata_types.specs.declared.ids.Ticket.{Ticket}
use Rattle.durable_records.specs.Branches.{same_ticket}

pub false_true : {A : Type 0} → false ≡ true → A
false_true e = absurd (true≢false (sym e))

pub true_false : {A : Type 0} → true ≡ false → A
true_false e = absurd (true≢false e)

none_some_bot : {A : Type 0} {a : A} → None ≡ Some a → ⊥
none_some_bot e = cc

pub none_some : {A B : Type 0} {a : A} → None ≡ Some a → B
none_some e = absurd (none_some_bot e)

pub and_left : (a b : Bool) → (a && b) ≡ true → a ≡ true
and_left true b e = refl
and_left false b e = e

pub and_right : (a b : Bool) → (a && b) ≡ true → b ≡ true
and_right true b e = e
and_right false b e = false_true e

pub and_both : (a b : Bool) → a ≡ true → b ≡ true → (a && b) ≡ true
and_both true b e f = f
and_both false b e f = e

pub same_nat : (m n : ℕ) → (m == n) ≡ true → m ≡ n
same_nat m n e = grind (arith, nat_tests)

pub nat_same : (m n : ℕ) → m ≡ n → (m == n) ≡ true
nat_same m n e = grind (arith, nat_tests)

pub one_ticket : (t u : Ticket) → same_ticket t u ≡ true → t ≡ u
one_ticket t u e =
    let b : t.boot ≡ u.boot = same_nat t.boot u.boot (and_left (t.boot == u.boot) (t.seq == u.seq) e) in
    let q : t.seq ≡ u.seq = same_nat t.seq u.seq (and_right (t.boot == u.boot) (t.seq == u.seq) e) in
    λ i. record { boot = b i; seq = q i }

pub ticket_itself : (t : Ticket) → same_ticket t t ≡ true
ticket_itself t = and_both (t.boot == t.boot) (t.seq == t.seq) (nat_same t.boot t.boot refl) (nat_same t.seq t.seq refl)

pub cond_or : {A : Type 0} (a b : Bool) (x y : A) → cond (a || b) x y ≡ cond b x (cond a x y)
cond_or true true x y = refl
cond_or true false x y = refl
cond_or false b x y = refl

pub cond_true : {A : Type 0} (b : Bool) (x y : A) → b ≡ true → cond b x y ≡ x
cond_true true x y e = refl
cond_true false x y e = false_true e

pub cond_false : {A : Type 0} (b : Bool) (x y : A) → b ≡ false → cond b x y ≡ y
cond_false false x y e = refl
cond_false true x y e = true_false e
