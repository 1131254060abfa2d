-- Numbers at the front of a piece.
use Rattle.std.proofs.Common.{◌≡◌, ℕ, ◌+◌, ◌-◌, ◌*◌, ◌/◌, ◌%◌, ◌^◌, ◌≤◌, ◌<◌, inl, inr, min, true, false, List, [], ◌∷◌, ◌++◌, refl, ap, sym, ◌∙◌, append_assoc, arith}
use Rattle.std.specs.Prelude.{if◌then◌else◌}
use Rattle.std.specs.Char.{is_ascii_digit}
use Rattle.std.specs.Fmt.{decimal}
use Rattle.std.proofs.lemmas.Bool.{cases_lt}
use Rattle.std.proofs.lemmas.Bool.Decides.{nat_tests}
use Rattle.std.proofs.lemmas.Fmt.{decimal_by_steps}
use Rattle.entry_reader.specs.Parts.{number_on, behind_number}

pub number_on-ge : (n : ℕ) (ds : List ℕ) → n ≤ number_on n ds
number_on-ge n [] = omega arith
number_on-ge n (c ∷ cs) =
    elim (is_ascii_digit c) as (λ b. n ≤ (if b then number_on (n * 10 + (c - 48)) cs else n)) [
      | true ↦ omega (arith, number_on-ge (n * 10 + (c - 48)) cs)
      | false ↦ omega arith
    ]

-- a number that stops at its greatest value
pub number_on-capped : (most n m : ℕ) (ds : List ℕ) → m ≡ min n most → min (number_on m ds) most ≡ min (number_on n ds) most
number_on-capped most n m ds e =
    elim (cases_lt most n) [
      | inl above ↦ omega (arith, number_on-ge n ds, number_on-ge m ds)
      | inr below ↦ let same : m ≡ n = omega arith in ap (λ k. min (number_on k ds) most) same
    ]

-- one digit more
pub number_on-digit : (n m c : ℕ) (cs text : List ℕ) (whole : ℕ) → text ≡ c ∷ cs → is_ascii_digit c ≡ true → m ≡ min (n * 10 + (c - 48)) (2 ^ 64 - 1)
    → min (number_on n text) (2 ^ 64 - 1) ≡ whole → min (number_on m cs) (2 ^ 64 - 1) ≡ whole
number_on-digit n m c cs text whole is digit capped so_far =
    let one : number_on n (c ∷ cs) ≡ number_on (n * 10 + (c - 48)) cs = rw digit refl in
    let so_far_here : min (number_on n (c ∷ cs)) (2 ^ 64 - 1) ≡ whole = rw is at so_far in
    number_on-capped (2 ^ 64 - 1) (n * 10 + (c - 48)) m cs capped ∙ ap (λ k. min k (2 ^ 64 - 1)) (sym one) ∙ so_far_here

-- ---- a number that is written, and what follows it

digit_is : (n : ℕ) → n < 10 → is_ascii_digit (48 + n) ≡ true
digit_is n small = grind (arith, nat_tests)

pub number_on-decimal : (n : ℕ) (rest : List ℕ) → n < 2 ^ 64 → number_on 0 (decimal n ++ rest) ≡ number_on n rest
number_on-decimal n rest small = decimal_by_steps (λ k ds. (more : List ℕ) → number_on 0 (ds ++ more) ≡ number_on k more)
    (λ k low more. let value : 0 * 10 + ((48 + k) - 48) ≡ k = omega arith in rw (digit_is k low) (ap (λ m. number_on m more) value))
    (λ k ds high so_far more.
    let low : k % 10 < 10 = omega arith in
    let value : (k / 10) * 10 + ((48 + k % 10) - 48) ≡ k = omega arith in
    let front : number_on 0 (ds ++ ((48 + k % 10) ∷ more)) ≡ number_on (k / 10) ((48 + k % 10) ∷ more) = so_far ((48 + k % 10) ∷ more) in
    let last : number_on (k / 10) ((48 + k % 10) ∷ more) ≡ number_on k more = rw (digit_is (k % 10) low) (ap (λ m. number_on m more) value) in
    rw append_assoc (front ∙ last))
    n small rest

pub behind_number-decimal : (n : ℕ) (rest : List ℕ) → n < 2 ^ 64 → behind_number (decimal n ++ rest) ≡ behind_number rest
behind_number-decimal n rest small = decimal_by_steps (λ k ds. (more : List ℕ) → behind_number (ds ++ more) ≡ behind_number more)
    (λ k low more. rw (digit_is k low) refl)
    (λ k ds high so_far more.
    let low : k % 10 < 10 = omega arith in
    let last : behind_number ((48 + k % 10) ∷ more) ≡ behind_number more = rw (digit_is (k % 10) low) refl in
    rw append_assoc (so_far ((48 + k % 10) ∷ more) ∙ last))
    n small rest
