-- Places and moments in order, and what a history has at a place.
use Rattle.std.proofs.Common.{◌≡◌, ◌≢◌, ◌⊎◌, ◌<◌, ◌≤◌, ℕ, true, false, List, [], ◌∷◌, ap, sym, ◌∙◌, arith}
use Rattle.std.proofs.lemmas.Bool.Decides.{nat_tests}
use Rattle.seata_types.specs.declared.ids.Place.{Place}
use Rattle.durable_records.specs.Members.{In}
use Rattle.durable_records.proofs.MemberFacts.{in_filter, of_filter}
use Rattle.history_rules.specs.Histories.{Moment, Below, Rises, rank, same_place}
use Rattle.trace_rules.specs.Traces.{at}
use Rattle.trace_rules.specs.Merged.{Sorted, kind_of, number_of}

-- ---- places

pub same_place-refl : (p : Place) → same_place p p ≡ true
same_place-refl p = grind (arith, nat_tests)

pub same_place-eq : (p q : Place) → same_place p q ≡ true → p ≡ q
same_place-eq p q e = grind (arith, nat_tests)

pub same_place-false : (p q : Place) → p ≢ q → same_place p q ≡ false
same_place-false p q apart = grind (arith, nat_tests, same_place-eq)

-- a place is known by its kind and its number
pub place-eq : (p q : Place) → kind_of p ≡ kind_of q → number_of p ≡ number_of q → p ≡ q
place-eq p q kind number = grind arith

below-trans : (p q r : ℕ × ℕ) → Below p q → Below q r → Below p r
below-trans p q r a b = grind arith

below-irrefl : (p : ℕ × ℕ) → Below p p → ⊥
below-irrefl p b = grind arith

-- ---- moments

-- one moment comes before another: by its stamp, and at one stamp by its place
abbrev pub Precedes : Moment → Moment → Type 0
Precedes a b = (a.stamp < b.stamp) ⊎ ((a.stamp ≡ b.stamp) × Below (rank a.place) (rank b.place))

pub precedes-trans : (a b c : Moment) → Precedes a b → Precedes b c → Precedes a c
precedes-trans a b c s t = grind (arith, below-trans)

-- no moment comes before one of its stamp and place
pub precedes-apart : (a b : Moment) → Precedes a b → a.stamp ≡ b.stamp → a.place ≡ b.place → ⊥
precedes-apart a b s stamp here = grind (arith, below-irrefl)

pub precedes-stamp : (a b : Moment) → Precedes a b → a.stamp ≤ b.stamp
precedes-stamp a b s = grind arith

-- all moments of a sorted history come before its newest
pub all_precede : (m : Moment) (ms : List Moment) → Sorted ms → Rises ms m → (x : Moment) → In x ms → Precedes x m
all_precede m [] sorted rises x h = absurd h
all_precede m (y ∷ ys) sorted rises x h = grind (arith, all_precede y ys, precedes-trans)

-- ---- at a place

pub in_at : (p : Place) (ms : List Moment) (x : Moment) → In x ms → x.place ≡ p → In x (at p ms)
in_at p ms x h here = in_filter (λ (m : Moment). same_place p m.place) ms x h (ap (same_place p) here ∙ same_place-refl p)

pub of_at : (p : Place) (ms : List Moment) (x : Moment) → In x (at p ms) → In x ms × (x.place ≡ p)
of_at p ms x h = let found = of_filter (λ (m : Moment). same_place p m.place) ms x h in (found.0, sym (same_place-eq p x.place found.1))
