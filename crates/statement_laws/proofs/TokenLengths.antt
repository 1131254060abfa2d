-- No token is written with more bytes than it was read from, and no byte is read for two tokens.
use Rattle.std.proofs.Common.{◌≡◌, ◌≤◌, ◌<◌, ℕ, zero, suc, ◌+◌, ◌-◌, ◌*◌, ◌^◌, min, Bool, true, false, cond, List, [], ◌∷◌, length, map, Option, Some, None, refl, ap, sym, subst, length-append, arith}
use Rattle.std.specs.Prelude.{if◌then◌else◌, ◌==◌, ◌&&◌, slice_index, IfSome}
use Rattle.std.specs.Char.{is_ascii_alphabetic, is_ascii_digit}
use Rattle.std.specs.Fmt.{decimal}
use Rattle.std.specs.List.{AllByRecursion, prefix_len, take_while}
use Rattle.std.specs.Str.{str_eq_ignore_ascii_case, str_to_ascii_lowercase, bytes_eq, byte}
use Rattle.std.proofs.Math.Nat.{mul-le-mul_left, pow-suc}
use Rattle.std.proofs.lemmas.Bool.{and_parts}
use Rattle.std.proofs.lemmas.Bool.Decides.{nat_tests}
use Rattle.std.proofs.lemmas.Fmt.{length-decimal-le}
use Rattle.std.proofs.lemmas.List.Folds.{length-prefix_len}
use Rattle.std.proofs.lemmas.List.Sums.{prefix_len-le-length, take_while-cons}
use Rattle.sql_reader.specs.declared.symbols.Symbol.{Symbol}
use Rattle.sql_reader.specs.declared.symbols.Symbol.TheVariants as symbol
use Rattle.sql_reader.specs.declared.tokens.Token.{Token}
use Rattle.sql_reader.specs.declared.tokens.Token.TheVariants as token
use Rattle.sql_reader.specs.Canonical.{symbol_text, doubled}
use Rattle.sql_reader.specs.Lexing.{is_blank, is_word_byte, keywords, listed_as, keyword, has_name_form, word_by, word_token, number_after, quote, text_at, has_text_form, text_by, mark, marked_by, token_at, starts_from, starts, tokens}
use Rattle.statement_laws.proofs.Payments.{total}
use Rattle.statement_laws.proofs.ReadTexts.{IsReadFrom, text-read}
use Rattle.statement_laws.proofs.TokenKinds.{choice, word_in, number_in, by-kind}

-- the bytes that a token is written with
abbrev pub token_length : Token → ℕ
token_length (token.Symbol s) = length (symbol_text s)
token_length (token.Name n) = length n
token_length (token.Number n) = length (decimal n)
token_length (token.Quoted t) = length (doubled t) + 2
token_length token.BadText = 0
token_length token.Unknown = 0

-- a token and its bytes: enough to write it, at least one, and at most all that there are
record FitsIn (all : ℕ) (read : Token × ℕ) : Type 0 where
  written : token_length read.0 ≤ read.1
  some : 1 ≤ read.1
  inside : read.1 ≤ all

-- ---- words

length-lower : (a : List ℕ) → length (str_to_ascii_lowercase a) ≡ length a
length-lower [] = refl
length-lower (x ∷ xs) = ap (λ n. suc n) (length-lower xs)

same_length : (a b : List ℕ) → bytes_eq a b ≡ true → length a ≡ length b
same_length [] [] is = refl
same_length [] (y ∷ ys) is = cc
same_length (x ∷ xs) [] is = cc
same_length (x ∷ xs) (y ∷ ys) is = ap (λ n. suc n) (same_length xs ys (and_parts (x == y) (bytes_eq xs ys) is).1)

alike_length : (a b : List ℕ) → str_eq_ignore_ascii_case a b ≡ true → length a ≡ length b
alike_length a b is = omega (arith, same_length (str_to_ascii_lowercase a) (str_to_ascii_lowercase b) is, length-lower a, length-lower b)

-- a keyword is as long as the word that it was
listed-length : (ks : List (List ℕ × Symbol)) (word : List ℕ) → AllByRecursion (λ k. length (symbol_text k.1) ≡ length k.0) ks → IfSome (listed_as ks word) (λ s. length (symbol_text s) ≡ length word)
listed-length [] word are = tt
listed-length (k ∷ ks) word are = by_test (str_eq_ignore_ascii_case word k.0) refl (listed-length ks word are.1)
  where
    by_test : (same : Bool) → str_eq_ignore_ascii_case word k.0 ≡ same → IfSome (listed_as ks word) (λ s. length (symbol_text s) ≡ length word)
        → IfSome (if same then Some k.1 else listed_as ks word) (λ s. length (symbol_text s) ≡ length word)
    by_test true is later = omega (arith, are.0, alike_length word k.0 is)
    by_test false is later = later

keyword-length : (word : List ℕ) → IfSome (keyword word) (λ s. length (symbol_text s) ≡ length word)
unfolding keyword
keyword-length word = listed-length keywords word (refl, (refl, (refl, (refl, (refl, (refl, (refl, (refl, (refl, (refl, (refl, (refl, (refl, tt)))))))))))))

word_by-length : (found : Option Symbol) (is_name : Bool) (word : List ℕ) → IfSome found (λ s. length (symbol_text s) ≡ length word) → token_length (word_by found is_name word) ≤ length word
word_by-length (Some s) is_name word is = omega (arith, is)
word_by-length None true word is = omega arith
word_by-length None false word is = omega arith

word-length : (word : List ℕ) → token_length (word_token word) ≤ length word
unfolding word_token
word-length word = word_by-length (keyword word) (has_name_form word) word (keyword-length word)

-- the bytes of one kind in front of a text whose first byte is of this kind
some-prefix : (p : ℕ → Bool) (b : ℕ) (z : List ℕ) → p b ≡ true → 1 ≤ prefix_len p (b ∷ z)
some-prefix p b z is = rw is (omega arith)

letter-word_byte : (b : ℕ) → is_ascii_alphabetic b ≡ true → is_word_byte b ≡ true
letter-word_byte b is = grind (arith, nat_tests)

word-fits : (b : ℕ) (z : List ℕ) → is_ascii_alphabetic b ≡ true → FitsIn (suc (length z)) (word_in (b ∷ z))
word-fits b z letter = record {
  written = omega (arith, word-length (take_while is_word_byte (b ∷ z)), length-prefix_len is_word_byte (b ∷ z));
  some = some-prefix is_word_byte b z (letter-word_byte b letter);
  inside = prefix_len-le-length is_word_byte (b ∷ z);
}

-- ---- numbers

digit-small : (c : ℕ) → is_ascii_digit c ≡ true → c - 48 ≤ 9
digit-small c is = grind (arith, nat_tests)

-- one digit more
next-digit : (n a m p : ℕ) → m ≤ 9 → a < (n * 10 + m + 1) * p → a < (n + 1) * (p * 10)
next-digit n a m p few within = omega (arith, mul-le-mul_left p few)

ten-more : (k : ℕ) → 10 ^ (1 + k) ≡ 10 ^ k * 10
ten-more k = let e : 1 + k ≡ suc k = omega arith in rw e (pow-suc 10 k)

number_after-lt : (n : ℕ) (z : List ℕ) → number_after n (take_while is_ascii_digit z) < (n + 1) * 10 ^ prefix_len is_ascii_digit z
number_after-lt n [] = omega arith
number_after-lt n (c ∷ z) =
    subst (λ (w : List ℕ). number_after n w < (n + 1) * 10 ^ prefix_len is_ascii_digit (c ∷ z)) (sym (take_while-cons is_ascii_digit c z))
    (by_test (is_ascii_digit c) refl (number_after-lt (n * 10 + (c - 48)) z))
  where
    by_test : (is : Bool) → is_ascii_digit c ≡ is → number_after (n * 10 + (c - 48)) (take_while is_ascii_digit z) < (n * 10 + (c - 48) + 1) * 10 ^ prefix_len is_ascii_digit z
        → number_after n (cond is (c ∷ take_while is_ascii_digit z) []) < (n + 1) * 10 ^ cond is (1 + prefix_len is_ascii_digit z) 0
    by_test true is within =
        rw (ten-more (prefix_len is_ascii_digit z)) (next-digit n (number_after (n * 10 + (c - 48)) (take_while is_ascii_digit z)) (c - 48) (10 ^ prefix_len is_ascii_digit z) (digit-small c is) within)
    by_test false is within = omega arith

number-length : (z : List ℕ) → 1 ≤ prefix_len is_ascii_digit z → length (decimal (min (number_after 0 (take_while is_ascii_digit z)) (2 ^ 64 - 1))) ≤ prefix_len is_ascii_digit z
number-length z some =
    let below = number_after-lt 0 z in
    length-decimal-le (prefix_len is_ascii_digit z) (min (number_after 0 (take_while is_ascii_digit z)) (2 ^ 64 - 1)) some (omega (arith, below)) (omega arith)

number-fits : (b : ℕ) (z : List ℕ) → is_ascii_digit b ≡ true → FitsIn (suc (length z)) (number_in (b ∷ z))
number-fits b z digit =
    let some = some-prefix is_ascii_digit b z digit in
    record { written = number-length (b ∷ z) some; some = some; inside = prefix_len-le-length is_ascii_digit (b ∷ z) }

-- ---- texts

text_by-fits : (z : List ℕ) (o : Option (List ℕ × ℕ)) → IfSome o (IsReadFrom z) → FitsIn (suc (length z)) (text_by z o)
text_by-fits z None is = record { written = omega arith; some = omega arith; inside = omega arith }
text_by-fits z (Some found) is = by_test (has_text_form found.0) is.bytes within
  where
    within : found.1 ≤ length z
    within = omega (arith, is.bytes, ap length is.whole, length-append (doubled found.0) (quote ∷ is.rest))

    by_test : (b : Bool) → found.1 ≡ length (doubled found.0) + 1 → found.1 ≤ length z → FitsIn (suc (length z)) (if b then token.Quoted found.0 else token.BadText, suc found.1)
    by_test true bytes few = record { written = omega arith; some = omega arith; inside = omega arith }
    by_test false bytes few = record { written = omega arith; some = omega arith; inside = omega arith }

-- ---- marks

-- a mark of two bytes has a byte behind the first one
abbrev IsMark : ℕ → Symbol × ℕ → Type 0
IsMark next found = (length (symbol_text found.0) ≤ found.1) × (1 ≤ found.1) × (found.1 ≤ 1 + min 1 next)

one_byte : (next : ℕ) (s : Symbol) → length (symbol_text s) ≡ 1 → IsMark next (s, 1)
one_byte next s is = (omega (arith, is), omega arith, omega arith)

two_bytes : (next : ℕ) (s : Symbol) → length (symbol_text s) ≡ 2 → 1 ≤ next → IsMark next (s, 2)
two_bytes next s is some = (omega (arith, is), omega arith, omega arith)

is-some : (next b : ℕ) → 1 ≤ b → (next == b) ≡ true → 1 ≤ next
is-some next b some is = grind (arith, nat_tests)

less-mark : (next : ℕ) → IsMark next (if next == byte ">" then (symbol.NotEqual, 2) else (if next == byte "=" then (symbol.LessOrEqual, 2) else (symbol.Less, 1)))
less-mark next =
    choice (IsMark next) (next == byte ">") _ _ (λ is. two_bytes next symbol.NotEqual refl (is-some next (byte ">") (omega arith) is))
    (choice (IsMark next) (next == byte "=") _ _ (λ is. two_bytes next symbol.LessOrEqual refl (is-some next (byte "=") (omega arith) is)) (one_byte next symbol.Less refl))

greater-mark : (next : ℕ) → IsMark next (if next == byte "=" then (symbol.GreaterOrEqual, 2) else (symbol.Greater, 1))
greater-mark next = choice (IsMark next) (next == byte "=") _ _ (λ is. two_bytes next symbol.GreaterOrEqual refl (is-some next (byte "=") (omega arith) is)) (one_byte next symbol.Greater refl)

-- a mark of one byte, or what comes where it isn't this one
single : (b next c : ℕ) (s : Symbol) (o : Option (Symbol × ℕ)) → length (symbol_text s) ≡ 1 → IfSome o (IsMark next) → IfSome (if b == c then Some (s, 1) else o) (IsMark next)
single b next c s o is later = choice (λ o. IfSome o (IsMark next)) (b == c) (Some (s, 1)) o (λ _. one_byte next s is) later

mark-is : (b next : ℕ) → IfSome (mark b next) (IsMark next)
unfolding mark
mark-is b next =
    single b next (byte "(") symbol.Open _ refl (single b next (byte ")") symbol.Close _ refl (single b next (byte ",") symbol.Comma _ refl
    (single b next (byte "*") symbol.Star _ refl (single b next (byte ";") symbol.Semicolon _ refl (single b next (byte "+") symbol.Plus _ refl
    (single b next (byte "-") symbol.Minus _ refl (single b next (byte "=") symbol.Equal _ refl
    (choice (λ o. IfSome o (IsMark next)) (b == byte "<") _ _ (λ _. less-mark next)
    (choice (λ o. IfSome o (IsMark next)) (b == byte ">") _ _ (λ _. greater-mark next)
    (choice (λ o. IfSome o (IsMark next)) (b == byte "!" && next == byte "=") (Some (symbol.NotEqual, 2)) None
    (λ is. two_bytes next symbol.NotEqual refl (is-some next (byte "=") (omega arith) (and_parts (b == byte "!") (next == byte "=") is).1)) tt))))))))))

next-inside : (b : ℕ) (z : List ℕ) → 1 + min 1 (slice_index (b ∷ z) 1) ≤ suc (length z)
next-inside b [] = omega arith
next-inside b (c ∷ z) = omega arith

marked_by-fits : (b : ℕ) (z : List ℕ) (o : Option (Symbol × ℕ)) → IfSome o (IsMark (slice_index (b ∷ z) 1)) → FitsIn (suc (length z)) (marked_by o)
marked_by-fits b z None is = record { written = omega arith; some = omega arith; inside = omega arith }
marked_by-fits b z (Some found) is = record { written = is.0; some = is.1; inside = omega (arith, is.2, next-inside b z) }

-- ---- tokens

token-fits : (b : ℕ) (z : List ℕ) → FitsIn (suc (length z)) (token_at (b ∷ z))
token-fits b z =
    by-kind (FitsIn (suc (length z))) b z (word-fits b z) (number-fits b z) (λ _. text_by-fits z (text_at z) (text-read z)) (marked_by-fits b z (mark b (slice_index (b ∷ z) 1)) (mark-is b (slice_index (b ∷ z) 1)))

-- with a space before each token
abbrev pub spaced_length : Token → ℕ
spaced_length t = suc (token_length t)

starts_from-length : (left : ℕ) (z : List ℕ) → left ≤ length z → total spaced_length (map (λ y. (token_at y).0) (starts_from left z)) + 2 * left ≤ 2 * length z
starts_from-length left [] within = omega arith
starts_from-length (suc left) (b ∷ z) within = omega (arith, starts_from-length left z (omega arith))
starts_from-length zero (b ∷ z) within = by_test (is_blank b) (token-fits b z) (starts_from-length zero z (omega arith)) (starts_from-length ((token_at (b ∷ z)).1 - 1) z)
  where
    by_test : (blank : Bool) → FitsIn (suc (length z)) (token_at (b ∷ z)) → total spaced_length (map (λ y. (token_at y).0) (starts_from zero z)) + 2 * 0 ≤ 2 * length z
        → ((token_at (b ∷ z)).1 - 1 ≤ length z → total spaced_length (map (λ y. (token_at y).0) (starts_from ((token_at (b ∷ z)).1 - 1) z)) + 2 * ((token_at (b ∷ z)).1 - 1) ≤ 2 * length z)
        → total spaced_length (map (λ y. (token_at y).0) (if blank then starts_from zero z else (b ∷ z) ∷ starts_from ((token_at (b ∷ z)).1 - 1) z)) + 2 * 0 ≤ 2 * suc (length z)
    by_test true fits later behind = omega (arith, later)
    by_test false fits later behind = omega (arith, fits.written, fits.some, fits.inside, behind (omega (arith, fits.inside)))

pub length-tokens : (text : List ℕ) → total spaced_length (tokens text) ≤ 2 * length text
unfolding tokens starts
length-tokens text = omega (arith, starts_from-length zero text (omega arith))
