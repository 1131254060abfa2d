-- The decimal digits of a number.
use Rattle.std.proofs.Common.{◌≡◌, ◌≤◌, ◌<◌, ◌+◌, ◌%◌, ◌^◌, ◌&&◌, ℕ, Bool, true, false, nat_le, List, [], ◌∷◌, length, get_or, decimal, refl, ◌∙◌, arith, rules, le-leb}
use Rattle.std.specs.List.{list_all}
use Rattle.std.proofs.lemmas.Bool.{and_parts, and_from}
use Rattle.std.proofs.lemmas.Bool.Decides.{nat_tests}
use Rattle.std.proofs.lemmas.Fmt.{decimal_by_steps, digits_value-decimal, decimal_nonempty, decimal_injective, first_decimal, length-decimal-le}
use Rattle.std.proofs.lemmas.List.Folds.{list_all-append}
use Rattle.std.proofs.lemmas.Str.Parse.{IsNumeralModel, numerals_by_fold}
use Rattle.local_tables.proofs.KeyLaws.{same_text_same}
use Rattle.seata_types.specs.Orders.{same_text}
use Rattle.scenario_reader.specs.Numbers.{is_digit, is_plain, number_after, number_of_text}

-- what holds of each digit holds of those of a number
pub each_digit : (p : ℕ → Bool) → ((d : ℕ) → d < 10 → p (48 + d) ≡ true) → (n : ℕ) → n < 2 ^ 64 → list_all p (decimal n) ≡ true
each_digit p holds n small = decimal_by_steps (λ m ds. list_all p ds ≡ true)
    (λ m low. and_from (p (48 + m)) true (holds m low) refl)
    (λ m ds high so_far.
    let low : m % 10 < 10 = omega arith in
    let last : list_all p ((48 + m % 10) ∷ []) ≡ true = and_from (p (48 + m % 10)) true (holds (m % 10) low) refl in
    list_all-append p ds ((48 + m % 10) ∷ []) ∙ and_from (list_all p ds) (list_all p ((48 + m % 10) ∷ [])) so_far last)
    n small

digit_is : (d : ℕ) → d < 10 → is_digit (48 + d) ≡ true
digit_is d low = grind (arith, nat_tests)

-- ---- the number that they write

abbrev AreDigits : List ℕ → Type 0
AreDigits ds = list_all is_digit ds ≡ true

numeral : IsNumeralModel AreDigits (number_after 0)
numeral = numerals_by_fold AreDigits (search rules) number_after (search rules)

pub number_is : (n : ℕ) → n < 2 ^ 64 → number_of_text (decimal n) ≡ n
number_is n small = let value : number_after 0 (decimal n) ≡ n = digits_value-decimal numeral n small in rw value (omega arith)

plain_digits : (ds : List ℕ) → AreDigits ds → 0 < length ds → 48 < get_or ds 0 0 → is_plain ds ≡ true
plain_digits [] all some first = absurd (omega arith)
plain_digits (c ∷ []) all some first = (and_parts (is_digit c) true all).0
plain_digits (c ∷ d ∷ ds) all some first =
    let parts = and_parts (is_digit c) (list_all is_digit (d ∷ ds)) all in
    let low : nat_le 49 c ≡ true = le-leb 49 c first in
    let high = (and_parts (nat_le 48 c) (nat_le c 57) parts.0).1 in
    all_three (nat_le 49 c) (nat_le c 57) (list_all is_digit (d ∷ ds)) low high parts.1
  where
    all_three : (a b c : Bool) → a ≡ true → b ≡ true → c ≡ true → (a && b && c) ≡ true
    all_three a b c p q r = rw (p, q, r) refl

pub plain_is : (n : ℕ) → 1 ≤ n → n < 2 ^ 64 → is_plain (decimal n) ≡ true
plain_is n some small = plain_digits (decimal n) (each_digit is_digit digit_is n small) (decimal_nonempty n small) (first_decimal n some small)

-- ---- their count, and two numbers

pub digits_few : (n : ℕ) → n < 2 ^ 64 → length (decimal n) ≤ 20
digits_few n small = length-decimal-le 20 n (omega arith) (omega arith) small

not_same : (b : Bool) (s t : List ℕ) → same_text s t ≡ b → (s ≡ t → ⊥) → b ≡ false
not_same true s t e other = absurd (other (same_text_same s t e))
not_same false s t e other = refl

pub digits_differ : (m n : ℕ) → m < 2 ^ 64 → n < 2 ^ 64 → (m ≡ n → ⊥) → same_text (decimal m) (decimal n) ≡ false
digits_differ m n p q other = not_same (same_text (decimal m) (decimal n)) (decimal m) (decimal n) refl (λ e. other (decimal_injective m n p q e))
