-- A number that stops at its greatest value.
use Rattle.std.proofs.Common.{◌≡◌, ℕ, ◌+◌, ◌-◌, ◌*◌, ◌≤◌, inl, inr, min, List, [], ◌∷◌, ap, arith}
use Rattle.std.proofs.lemmas.Bool.{cases_lt}
use Rattle.scenario_reader.specs.Numbers.{number_after}

number_after-ge : (n : ℕ) (ds : List ℕ) → n ≤ number_after n ds
number_after-ge n [] = omega arith
number_after-ge n (c ∷ cs) = omega (arith, number_after-ge (n * 10 + (c - 48)) cs)

pub number_after-capped : (most n m : ℕ) (ds : List ℕ) → m ≡ min n most → min (number_after m ds) most ≡ min (number_after n ds) most
number_after-capped most n m ds e =
    elim (cases_lt most n) [
      | inl above ↦ omega (arith, number_after-ge n ds, number_after-ge m ds)
      | inr below ↦ let same : m ≡ n = omega arith in ap (λ k. min (number_after k ds) most) same
    ]
