-- What is parsed of the digits of a number.
use Rattle.std.proofs.Common.{◌≡◌, ℕ, ◌<◌, ◌^◌, ◌&&◌, nat_le, nat_lt, Bool, true, false, if◌then◌else◌, List, length, Some, None, Ok, Err, refl, ap, arith, rules}
use Rattle.std.proofs.lemmas.Bool.Decides.{nat_tests}
use Rattle.std.proofs.lemmas.Str.Parse.{IsNumeralModel, numerals_by_value, parse_digits}
use Rattle.std.specs.Char.{is_ascii_digit}
use Rattle.std.specs.List.{list_all}
use Rattle.std.specs.declared.num.ParseIntError.{ParseIntError}
use Rattle.std.specs.Str.Parse.{ParsesUnsigned, digits_value}
use Rattle.lab_words.specs.declared.limits.TheConstants.{NUMBER_DIGITS}
use Rattle.lab_words.specs.Grammar.{is_number, number_of}

own : IsNumeralModel (λ ds. list_all is_ascii_digit ds ≡ true) (digits_value 10)
own = numerals_by_value (λ ds. list_all is_ascii_digit ds ≡ true) (search rules)

last_of_three : (a b d : Bool) → (a && (b && d)) ≡ true → d ≡ true
last_of_three true true d e = e
last_of_three true false d e = absurd (let no : false ≡ true = e in cc)
last_of_three false b d e = absurd (let no : false ≡ true = e in cc)

first_of_two : (a b : Bool) → (a && b) ≡ true → a ≡ true
first_of_two true b e = refl
first_of_two false b e = absurd (let no : false ≡ true = e in cc)

found : (a b : Bool) (n m : ℕ) → a ≡ true → b ≡ true → n ≡ m → Some n ≡ (if a && b then Some m else None)
found true true n m p q e = ap (λ k. Some k) e
found true false n m p q e = absurd (let no : false ≡ true = q in cc)
found false b n m p q e = absurd (let no : false ≡ true = p in cc)

missed : (a b : Bool) (m : ℕ) → (b ≡ true → ⊥) → None ≡ (if a && b then Some m else None)
missed true true m never = absurd (never refl)
missed true false m never = refl
missed false b m never = refl

refused : (a b : Bool) (m : ℕ) → a ≡ false → None ≡ (if a && b then Some m else None)
refused true b m e = absurd (let no : true ≡ false = e in cc)
refused false b m e = refl

pub not_a_number : (text : List ℕ) → is_number text ≡ false → None ≡ number_of text
unfolding number_of
not_a_number text e = refused (is_number text) (nat_lt (digits_value 10 text) (2 ^ 64)) (digits_value 10 text) e

module _ (text : List ℕ) (is : is_number text ≡ true) where
  digits : list_all is_ascii_digit text ≡ true
  digits = last_of_three (nat_lt 0 (length text)) (nat_le (length text) NUMBER_DIGITS) (list_all is_ascii_digit text) is

  pub number_parsed : (n : ℕ) → ParsesUnsigned {E = ParseIntError} 64 10 text (Ok n) → Some n ≡ number_of text
  unfolding number_of
  number_parsed n h =
      let told = parse_digits own {E = ParseIntError} 64 text (Ok n) h digits in
      let small : digits_value 10 text < 2 ^ 64 = told.0.1 in
      found (is_number text) (nat_lt (digits_value 10 text) (2 ^ 64)) n (digits_value 10 text) is (grind (arith, nat_tests)) told.1

  nonempty : 0 < length text
  nonempty =
      let some : nat_lt 0 (length text) ≡ true = first_of_two (nat_lt 0 (length text)) (nat_le (length text) NUMBER_DIGITS && list_all is_ascii_digit text) is in
      grind (arith, nat_tests)

  pub number_not_parsed : (e : ParseIntError) → ParsesUnsigned {E = ParseIntError} 64 10 text (Err e) → None ≡ number_of text
  unfolding number_of
  number_not_parsed e h =
      let never = parse_digits own {E = ParseIntError} 64 text (Err e) h digits in
      missed (is_number text) (nat_lt (digits_value 10 text) (2 ^ 64)) (digits_value 10 text) (λ small. never (nonempty, grind (arith, nat_tests)))
