-- The text of pieces is cut into their tokens.
use Rattle.std.proofs.Common.{append_assoc, ◌≡◌, ◌≤◌, ◌<◌, ℕ, suc, ◌+◌, ◌-◌, ◌^◌, min, Bool, true, false, List, [], ◌∷◌, ◌++◌, length, drop, Some, refl, ap, ◌∙◌, sym, arith}
use Rattle.std.specs.Prelude.{if◌then◌else◌, ◌==◌, ◌&&◌, ◌||◌, nat_le, slice_index, pos, negsuc, FitsSigned, codes}
use Rattle.std.specs.Int.{w64}
use Rattle.std.specs.List.{AllByRecursion, list_all, prefix_len}
use Rattle.std.specs.Char.{is_ascii_alphabetic, is_ascii_digit, is_ascii_lowercase}
use Rattle.std.specs.Fmt.{decimal}
use Rattle.std.proofs.lemmas.Fmt.{digits_decimal, digits_value-decimal, decimal_nonempty}
use Rattle.std.proofs.lemmas.Str.Parse.{IsNumeralModel, numerals_by_fold}
use Rattle.std.proofs.lemmas.Int.{ints}
use Rattle.std.proofs.lemmas.Bool.Decides.{nat_tests}
use Rattle.std.proofs.Math.Seq.{take-append_seam, drop-append_seam, drop-append-add}
use Rattle.std.proofs.Common.{rules}
use Rattle.sql_reader.specs.declared.symbols.Symbol.{Symbol}
use Rattle.sql_reader.specs.declared.symbols.Symbol.TheVariants as symbol
use Rattle.sql_reader.specs.declared.tokens.Token.{Token}
use Rattle.sql_reader.specs.declared.tokens.Token.TheVariants as token
use Rattle.seata_types.specs.declared.limits.TheConstants.{NAME_BYTES}
use Rattle.sql_reader.specs.Lexing.{is_blank, is_word_byte, is_name_byte, keyword, has_name_form, has_text_form, word_token, number_after, text_at, mark, quote, token_at, starts, tokens}
use Rattle.sql_reader.specs.Canonical.{Piece, Fixed, Name, Number, Quoted, symbol_text, doubled, piece_text, opens, clings, gap, spaced}
use Rattle.sql_reader.specs.Readable.{IsName}
use Rattle.sql_reader.proofs.Words.{both_left, both_right}
use Rattle.sql_reader.proofs.QuotedTexts.{text_at-cons}
use Rattle.sql_reader.proofs.Starts.{starts-token}
use Rattle.sql_reader.proofs.Ahead.{ahead, ahead-append}

-- ---- one token

tokens-blank : (z : List ℕ) → tokens (32 ∷ z) ≡ tokens z
unfolding tokens starts
tokens-blank z = refl

tokens-first : (b : ℕ) (z : List ℕ) (t : Token) (n : ℕ) → is_blank b ≡ false → token_at (b ∷ z) ≡ (t, suc n) → tokens (b ∷ z) ≡ t ∷ tokens (drop n z)
unfolding tokens
tokens-first b z t n plain is =
    let some : 1 ≤ (token_at (b ∷ z)).1 = rw is (omega arith) in
    let step = starts-token b z plain some in
    rw step (rw is refl)

-- what may stand behind a piece: no byte that would go on with its token
record EndsPiece (z : List ℕ) : Type 0 where
  no_word : prefix_len is_word_byte z ≡ 0
  no_digit : prefix_len is_ascii_digit z ≡ 0
  no_quote : (slice_index z 0 == quote) ≡ false
  no_greater : (slice_index z 0 == 62) ≡ false
  no_equal : (slice_index z 0 == 61) ≡ false

ends_nothing : EndsPiece []
ends_nothing = record { no_word = refl; no_digit = refl; no_quote = refl; no_greater = refl; no_equal = refl }

ends_blank : (z : List ℕ) → EndsPiece (32 ∷ z)
ends_blank z = record { no_word = refl; no_digit = refl; no_quote = refl; no_greater = refl; no_equal = refl }

ends_close : (z : List ℕ) → EndsPiece (41 ∷ z)
ends_close z = record { no_word = refl; no_digit = refl; no_quote = refl; no_greater = refl; no_equal = refl }

ends_comma : (z : List ℕ) → EndsPiece (44 ∷ z)
ends_comma z = record { no_word = refl; no_digit = refl; no_quote = refl; no_greater = refl; no_equal = refl }

-- ---- words and numbers

pub prefix_len-whole : (p : ℕ → Bool) (w z : List ℕ) → list_all p w ≡ true → prefix_len p z ≡ 0 → prefix_len p (w ++ z) ≡ length w
prefix_len-whole p [] z all none = none
prefix_len-whole p (x ∷ w) z all none =
    rw (both_left (p x) (list_all p w) all) (ap (λ n. 1 + n) (prefix_len-whole p w z (both_right (p x) (list_all p w) all) none) ∙ omega arith)

pub word-first : (b : ℕ) (w z : List ℕ) → is_ascii_alphabetic b ≡ true → prefix_len is_word_byte (b ∷ (w ++ z)) ≡ suc (length w) → token_at (b ∷ (w ++ z)) ≡ (word_token (b ∷ w), suc (length w))
unfolding token_at
word-first b w z letter whole = rw (letter, whole, take-append_seam) refl

word-tokens : (b : ℕ) (w z : List ℕ) → is_ascii_alphabetic b ≡ true → list_all is_word_byte (b ∷ w) ≡ true → EndsPiece z → tokens ((b ∷ w) ++ z) ≡ word_token (b ∷ w) ∷ tokens z
word-tokens b w z letter all ends =
    let plain : is_blank b ≡ false = grind (arith, nat_tests) in
    let whole = prefix_len-whole is_word_byte (b ∷ w) z all ends.no_word in
    tokens-first b (w ++ z) (word_token (b ∷ w)) (length w) plain (word-first b w z letter whole) ∙ ap (λ y. word_token (b ∷ w) ∷ tokens y) (drop-append_seam w z)

name_byte-word : (b : ℕ) → is_name_byte b ≡ true → is_word_byte b ≡ true
name_byte-word b is = grind (arith, nat_tests)

name_bytes-word : (w : List ℕ) → list_all is_name_byte w ≡ true → list_all is_word_byte w ≡ true
name_bytes-word [] all = refl
name_bytes-word (b ∷ w) all =
    rw (name_byte-word b (both_left (is_name_byte b) (list_all is_name_byte w) all)) (name_bytes-word w (both_right (is_name_byte b) (list_all is_name_byte w) all))

name-token : (n : List ℕ) → IsName n → word_token n ≡ token.Name n
unfolding word_token
name-token n is = rw (is.no_keyword, is.form) refl

lowercase-letter : (b : ℕ) → is_ascii_lowercase b ≡ true → is_ascii_alphabetic b ≡ true
lowercase-letter b is = grind (arith, nat_tests)

name-tokens : (n z : List ℕ) → IsName n → EndsPiece z → tokens (n ++ z) ≡ token.Name n ∷ tokens z
unfolding has_name_form
name-tokens [] z is ends = absurd (cc is.form)
name-tokens (b ∷ w) z is ends =
    let front = both_left (is_ascii_lowercase b && nat_le (length (b ∷ w)) NAME_BYTES) (list_all is_name_byte (b ∷ w)) is.form in
    let letter = lowercase-letter b (both_left (is_ascii_lowercase b) (nat_le (length (b ∷ w)) NAME_BYTES) front) in
    let all = name_bytes-word (b ∷ w) (both_right (is_ascii_lowercase b && nat_le (length (b ∷ w)) NAME_BYTES) (list_all is_name_byte (b ∷ w)) is.form) in
    word-tokens b w z letter all ends ∙ ap (λ t. t ∷ tokens z) (name-token (b ∷ w) is)

abbrev AreDigits : List ℕ → Type 0
AreDigits ds = list_all is_ascii_digit ds ≡ true

numeral : IsNumeralModel AreDigits (number_after 0)
numeral = numerals_by_fold AreDigits (search rules) number_after (search rules)

digits-first : (b : ℕ) (w z : List ℕ) (n : ℕ) → is_ascii_digit b ≡ true → prefix_len is_ascii_digit (w ++ z) ≡ length w → min (number_after 0 (b ∷ w)) (2 ^ 64 - 1) ≡ n
    → token_at (b ∷ (w ++ z)) ≡ (token.Number n, suc (length w))
unfolding token_at
digits-first b w z n digit whole is =
    let no_letter : is_ascii_alphabetic b ≡ false = grind (arith, nat_tests) in
    let count : 1 + length w ≡ suc (length w) = omega arith in
    rw (no_letter, digit, whole, count, take-append_seam) (ap (λ m. (token.Number m, suc (length w))) is)

digits-tokens : (ds z : List ℕ) (n : ℕ) → AreDigits ds → 0 < length ds → number_after 0 ds ≡ n → n < 2 ^ 64 → EndsPiece z → tokens (ds ++ z) ≡ token.Number n ∷ tokens z
digits-tokens [] z n are some is fits ends = absurd (omega arith)
digits-tokens (b ∷ w) z n are some is fits ends =
    let digit = both_left (is_ascii_digit b) (list_all is_ascii_digit w) are in
    let plain : is_blank b ≡ false = grind (arith, nat_tests) in
    let whole = prefix_len-whole is_ascii_digit w z (both_right (is_ascii_digit b) (list_all is_ascii_digit w) are) ends.no_digit in
    let capped : min (number_after 0 (b ∷ w)) (2 ^ 64 - 1) ≡ n = omega (arith, is) in
    tokens-first b (w ++ z) (token.Number n) (length w) plain (digits-first b w z n digit whole capped) ∙ ap (λ y. token.Number n ∷ tokens y) (drop-append_seam w z)

decimal-tokens : (n : ℕ) (z : List ℕ) → n < 2 ^ 64 → EndsPiece z → tokens (decimal n ++ z) ≡ token.Number n ∷ tokens z
decimal-tokens n z fits ends = digits-tokens (decimal n) z n (digits_decimal numeral n fits) (decimal_nonempty n fits) (digits_value-decimal numeral n fits) fits ends

-- ---- marks and keywords

-- a mark of one byte, whatever follows
mark-tokens : (b : ℕ) (s : Symbol) (z : List ℕ) → is_blank b ≡ false → token_at (b ∷ z) ≡ (token.Symbol s, 1) → tokens (b ∷ z) ≡ token.Symbol s ∷ tokens z
mark-tokens b s z plain is = tokens-first b z (token.Symbol s) 0 plain is

open-tokens : (z : List ℕ) → tokens (40 ∷ z) ≡ token.Symbol symbol.Open ∷ tokens z
unfolding token_at mark
open-tokens z = mark-tokens 40 symbol.Open z refl refl

minus-tokens : (z : List ℕ) → tokens (45 ∷ z) ≡ token.Symbol symbol.Minus ∷ tokens z
unfolding token_at mark
minus-tokens z = mark-tokens 45 symbol.Minus z refl refl

keyword-tokens : (s : Symbol) (b : ℕ) (w z : List ℕ) → is_ascii_alphabetic b ≡ true → list_all is_word_byte (b ∷ w) ≡ true → word_token (b ∷ w) ≡ token.Symbol s → EndsPiece z
    → tokens ((b ∷ w) ++ z) ≡ token.Symbol s ∷ tokens z
keyword-tokens s b w z letter all is ends = word-tokens b w z letter all ends ∙ ap (λ t. t ∷ tokens z) is

symbol-tokens : (s : Symbol) (z : List ℕ) → EndsPiece z → tokens (symbol_text s ++ z) ≡ token.Symbol s ∷ tokens z
unfolding token_at mark word_token keyword
symbol-tokens symbol.Insert z ends = keyword-tokens symbol.Insert 73 (codes "NSERT") z refl refl refl ends
symbol-tokens symbol.Into z ends = keyword-tokens symbol.Into 73 (codes "NTO") z refl refl refl ends
symbol-tokens symbol.Values z ends = keyword-tokens symbol.Values 86 (codes "ALUES") z refl refl refl ends
symbol-tokens symbol.Update z ends = keyword-tokens symbol.Update 85 (codes "PDATE") z refl refl refl ends
symbol-tokens symbol.Set z ends = keyword-tokens symbol.Set 83 (codes "ET") z refl refl refl ends
symbol-tokens symbol.Where z ends = keyword-tokens symbol.Where 87 (codes "HERE") z refl refl refl ends
symbol-tokens symbol.Delete z ends = keyword-tokens symbol.Delete 68 (codes "ELETE") z refl refl refl ends
symbol-tokens symbol.From z ends = keyword-tokens symbol.From 70 (codes "ROM") z refl refl refl ends
symbol-tokens symbol.Select z ends = keyword-tokens symbol.Select 83 (codes "ELECT") z refl refl refl ends
symbol-tokens symbol.For z ends = keyword-tokens symbol.For 70 (codes "OR") z refl refl refl ends
symbol-tokens symbol.And z ends = keyword-tokens symbol.And 65 (codes "ND") z refl refl refl ends
symbol-tokens symbol.Or z ends = keyword-tokens symbol.Or 79 (codes "R") z refl refl refl ends
symbol-tokens symbol.Not z ends = keyword-tokens symbol.Not 78 (codes "OT") z refl refl refl ends
symbol-tokens symbol.Open z ends = open-tokens z
symbol-tokens symbol.Close z ends = mark-tokens 41 symbol.Close z refl refl
symbol-tokens symbol.Comma z ends = mark-tokens 44 symbol.Comma z refl refl
symbol-tokens symbol.Star z ends = mark-tokens 42 symbol.Star z refl refl
symbol-tokens symbol.Semicolon z ends = mark-tokens 59 symbol.Semicolon z refl refl
symbol-tokens symbol.Plus z ends = mark-tokens 43 symbol.Plus z refl refl
symbol-tokens symbol.Minus z ends = minus-tokens z
symbol-tokens symbol.Equal z ends = mark-tokens 61 symbol.Equal z refl refl
symbol-tokens symbol.NotEqual z ends = tokens-first 60 (62 ∷ z) (token.Symbol symbol.NotEqual) 1 refl refl
symbol-tokens symbol.Less z ends = mark-tokens 60 symbol.Less z refl (rw (ends.no_greater, ends.no_equal) refl)
symbol-tokens symbol.LessOrEqual z ends = tokens-first 60 (61 ∷ z) (token.Symbol symbol.LessOrEqual) 1 refl refl
symbol-tokens symbol.Greater z ends = mark-tokens 62 symbol.Greater z refl (rw ends.no_equal refl)
symbol-tokens symbol.GreaterOrEqual z ends = tokens-first 62 (61 ∷ z) (token.Symbol symbol.GreaterOrEqual) 1 refl refl

-- ---- texts

double-text : (b : ℕ) (t z : List ℕ) → b ≡ quote → text_at (doubled t ++ (quote ∷ z)) ≡ Some (t, length (doubled t) + 1)
    → text_at (quote ∷ quote ∷ (doubled t ++ (quote ∷ z))) ≡ Some (b ∷ t, suc (suc (length (doubled t))) + 1)
double-text b t z is later =
    let bytes : 2 + (length (doubled t) + 1) ≡ suc (suc (length (doubled t))) + 1 = omega arith in
    rw later (ap (λ n. Some (quote ∷ t, n)) bytes ∙ ap (λ c. Some (c ∷ t, suc (suc (length (doubled t))) + 1)) (sym is))

plain-text : (b : ℕ) (t z : List ℕ) → (b == quote) ≡ false → text_at (doubled t ++ (quote ∷ z)) ≡ Some (t, length (doubled t) + 1)
    → text_at (b ∷ (doubled t ++ (quote ∷ z))) ≡ Some (b ∷ t, suc (length (doubled t)) + 1)
plain-text b t z is later =
    let bytes : 1 + (length (doubled t) + 1) ≡ suc (length (doubled t)) + 1 = omega arith in
    rw (text_at-cons b (doubled t ++ (quote ∷ z)), is, later) (ap (λ n. Some (b ∷ t, n)) bytes)

text_at-doubled : (t z : List ℕ) → (slice_index z 0 == quote) ≡ false → text_at (doubled t ++ (quote ∷ z)) ≡ Some (t, length (doubled t) + 1)
text_at-doubled [] z none = rw (text_at-cons quote z, none) refl
text_at-doubled (b ∷ t) z none = by_test b t z (b == quote) refl (text_at-doubled t z none)
  where
    by_test : (b : ℕ) (t z : List ℕ) (is : Bool) → (b == quote) ≡ is → text_at (doubled t ++ (quote ∷ z)) ≡ Some (t, length (doubled t) + 1)
        → text_at ((if is then quote ∷ quote ∷ doubled t else b ∷ doubled t) ++ (quote ∷ z)) ≡ Some (b ∷ t, length (if is then quote ∷ quote ∷ doubled t else b ∷ doubled t) + 1)
    by_test b t z true is later = let quoted : b ≡ quote = grind (arith, nat_tests) in double-text b t z quoted later
    by_test b t z false is later = plain-text b t z is later

quoted-first : (t z : List ℕ) → has_text_form t ≡ true → (slice_index z 0 == quote) ≡ false
    → token_at (quote ∷ (doubled t ++ (quote ∷ z))) ≡ (token.Quoted t, suc (length (doubled t) + 1))
unfolding token_at
quoted-first t z is none = rw (text_at-doubled t z none, is) refl

quoted-tokens : (t z : List ℕ) → has_text_form t ≡ true → EndsPiece z → tokens (quote ∷ (doubled t ++ (quote ∷ z))) ≡ token.Quoted t ∷ tokens z
quoted-tokens t z is ends =
    let behind_it : drop (length (doubled t) + 1) (doubled t ++ (quote ∷ z)) ≡ z = drop-append-add (doubled t) (quote ∷ z) 1 in
    tokens-first quote (doubled t ++ (quote ∷ z)) (token.Quoted t) (length (doubled t) + 1) refl (quoted-first t z is ends.no_quote)
    ∙ ap (λ y. token.Quoted t ∷ tokens y) behind_it

-- ---- all pieces

-- a piece that some token list has
abbrev pub IsGood : Piece → Type 0
IsGood (Fixed s) = Unit {0}
IsGood (Name n) = IsName n
IsGood (Number z) = FitsSigned w64 z
IsGood (Quoted t) = has_text_form t ≡ true

piece-tokens : (p : Piece) (z : List ℕ) → IsGood p → EndsPiece z → tokens (piece_text p ++ z) ≡ ahead (p ∷ []) (tokens z)
unfolding piece_text
piece-tokens (Fixed s) z is ends = symbol-tokens s z ends
piece-tokens (Name n) z is ends = name-tokens n z is ends
piece-tokens (Number (pos n)) z is ends = let fits : n < 2 ^ 64 = omega (arith, ints, is) in decimal-tokens n z fits ends
piece-tokens (Number (negsuc n)) z is ends =
    let fits : suc n < 2 ^ 64 = omega (arith, ints, is) in
    minus-tokens (decimal (suc n) ++ z) ∙ ap (λ ts. token.Symbol symbol.Minus ∷ ts) (decimal-tokens (suc n) z fits ends)
piece-tokens (Quoted t) z is ends = rw append_assoc (quoted-tokens t z is ends)

spaced-ends : (ps : List Piece) → EndsPiece (spaced false ps)
unfolding spaced piece_text
spaced-ends [] = ends_nothing
spaced-ends (Fixed symbol.Comma ∷ ps) = ends_comma _
spaced-ends (Fixed symbol.Close ∷ ps) = ends_close _
spaced-ends (p ∷ ps) = ends_blank _

tokens-gap : (b : Bool) (z : List ℕ) → tokens (gap b ++ z) ≡ tokens z
tokens-gap true z = refl
tokens-gap false z = tokens-blank z

before-piece : (is_tight : Bool) (p : Piece) (ps : List Piece) → tokens (spaced is_tight (p ∷ ps)) ≡ tokens (piece_text p ++ spaced (opens p) ps)
unfolding spaced
before-piece is_tight p ps = rw append_assoc (tokens-gap (is_tight || clings p) (piece_text p ++ spaced (opens p) ps))

one-piece : (p : Piece) (ps : List Piece) → IsGood p → tokens (piece_text p ++ spaced (opens p) ps) ≡ ahead (p ∷ []) (tokens (spaced (opens p) ps))
unfolding piece_text
one-piece (Fixed symbol.Open) ps is = open-tokens (spaced true ps)
one-piece (Fixed s) ps is = piece-tokens (Fixed s) (spaced false ps) tt (spaced-ends ps)
one-piece (Name n) ps is = piece-tokens (Name n) (spaced false ps) is (spaced-ends ps)
one-piece (Number z) ps is = piece-tokens (Number z) (spaced false ps) is (spaced-ends ps)
one-piece (Quoted t) ps is = piece-tokens (Quoted t) (spaced false ps) is (spaced-ends ps)

nothing-tokens : (is_tight : Bool) → tokens (spaced is_tight []) ≡ []
unfolding spaced tokens starts
nothing-tokens is_tight = refl

pub spaced-tokens : (is_tight : Bool) (ps : List Piece) → AllByRecursion IsGood ps → tokens (spaced is_tight ps) ≡ ahead ps []
spaced-tokens is_tight [] are = nothing-tokens is_tight
spaced-tokens is_tight (p ∷ ps) are =
    before-piece is_tight p ps ∙ one-piece p ps are.0 ∙ ap (ahead (p ∷ [])) (spaced-tokens (opens p) ps are.1) ∙ sym (ahead-append (p ∷ []) ps [])
