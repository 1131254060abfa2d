-- Words, numbers and marks are of printable ASCII.
use Rattle.std.proofs.Common.{◌≡◌, ◌<◌, ℕ, zero, suc, ◌^◌, Bool, true, List, [], ◌∷◌, refl, arith}
use Rattle.std.specs.Prelude.{◌&&◌, nat_le, nat_lt, pos, neg_ℤ}
use Rattle.std.specs.Fmt.{decimal, signed_decimal}
use Rattle.std.specs.Int.{IsInRange}
use Rattle.std.specs.List.{list_all}
use Rattle.std.specs.Str.{IsAscii, IsUtf8}
use Rattle.std.specs.Str.Parse.{AllDigits}
use Rattle.std.proofs.lemmas.Bool.{and_parts}
use Rattle.std.proofs.lemmas.Bool.Decides.{nat_tests}
use Rattle.std.proofs.lemmas.Fmt.{decimal_is_IsNumeral}
use Rattle.std.proofs.lemmas.Str.{IsUtf8-from_ascii}
use Rattle.std.proofs.lemmas.Str.Parse.{digit_from_value}
use Rattle.sql_reader.specs.declared.symbols.Symbol.{Symbol}
use Rattle.sql_reader.specs.declared.symbols.Symbol.TheVariants as symbol
use Rattle.sql_reader.specs.Canonical.{symbol_text}
use Rattle.sql_reader.specs.Lexing.{has_name_form, is_name_byte, is_printable}

-- from a space to "~"
abbrev pub is_plain_byte : ℕ → Bool
is_plain_byte b = nat_le 32 b && nat_lt b 127

abbrev pub is_plain : List ℕ → Bool
is_plain z = list_all is_plain_byte z

-- what follows of one byte follows of each
each : (p q : ℕ → Bool) → ((b : ℕ) → p b ≡ true → q b ≡ true) → (z : List ℕ) → list_all p z ≡ true → list_all q z ≡ true
each p q one [] are = refl
each p q one (b ∷ z) are =
    let parts = and_parts (p b) (list_all p z) are in
    rw (one b parts.0, each p q one z parts.1) refl

pub plain-printable : (z : List ℕ) → is_plain z ≡ true → list_all is_printable z ≡ true
plain-printable z is = each is_plain_byte is_printable (λ b one. grind (arith, nat_tests)) z is

plain_byte-ascii : (b : ℕ) → is_plain_byte b ≡ true → b < 128
plain_byte-ascii b is = grind (arith, nat_tests)

plain-ascii : (z : List ℕ) → is_plain z ≡ true → IsAscii z
plain-ascii [] is i = omega arith
plain-ascii (b ∷ z) is zero = plain_byte-ascii b (and_parts (is_plain_byte b) (is_plain z) is).0
plain-ascii (b ∷ z) is (suc i) = plain-ascii z (and_parts (is_plain_byte b) (is_plain z) is).1 i

pub plain-utf8 : (z : List ℕ) → is_plain z ≡ true → IsUtf8 z
plain-utf8 z is = IsUtf8-from_ascii z (plain-ascii z is)

pub symbol-plain : (s : Symbol) → is_plain (symbol_text s) ≡ true
symbol-plain symbol.Insert = refl
symbol-plain _ = refl

pub name-plain : (n : List ℕ) → has_name_form n ≡ true → is_plain n ≡ true
unfolding has_name_form
name-plain n is = each is_name_byte is_plain_byte (λ b one. grind (arith, nat_tests)) n (and_parts _ (list_all is_name_byte n) is).1

digit-plain : (c : ℕ) → IsInRange 48 57 c → is_plain_byte c ≡ true
digit-plain c is = grind (arith, nat_tests)

digits-plain : (ds : List ℕ) → AllDigits 10 ds → is_plain ds ≡ true
digits-plain [] are = refl
digits-plain (c ∷ cs) are = rw (digit-plain c (digit_from_value c are.0), digits-plain cs are.1) refl

pub number-plain : (n : ℕ) → n < 2 ^ 64 → is_plain (decimal n) ≡ true
number-plain n few = digits-plain (decimal n) (decimal_is_IsNumeral n few).0.1

pub negative-plain : (n : ℕ) → n < 2 ^ 64 → is_plain (signed_decimal (neg_ℤ (pos n))) ≡ true
negative-plain zero few = number-plain zero few
negative-plain (suc n) few = number-plain (suc n) few
