-- How a text is cut into tokens.
use Rattle.std.specs.Prelude.{ℕ, zero, suc, ◌+◌, ◌-◌, ◌*◌, ◌^◌, min, Bool, true, false, ◌&&◌, ◌||◌, if◌then◌else◌, ◌==◌, nat_le, List, [], ◌∷◌, length, map, drop, slice_index, Option, Some, None, codes, not}
use Rattle.std.specs.List.{take_while, prefix_len, list_all}
pub use Rattle.std.specs.Char.{is_ascii_alphabetic, is_ascii_alphanumeric, is_ascii_digit, is_ascii_lowercase}
use Rattle.std.specs.Str.{str_eq_ignore_ascii_case, byte}
pub use Rattle.sql_reader.specs.Texts.{quote, behind, text_at}
use Rattle.seata_types.specs.declared.limits.TheConstants.{NAME_BYTES, TEXT_BYTES}
use Rattle.sql_reader.specs.declared.symbols.Symbol.{Symbol}
use Rattle.sql_reader.specs.declared.symbols.Symbol.TheVariants as symbol
use Rattle.sql_reader.specs.declared.tokens.Token.{Token}
use Rattle.sql_reader.specs.declared.tokens.Token.TheVariants as token

-- a space, a line feed, a carriage return or a tab
abbrev pub is_blank : ℕ → Bool
is_blank b = b == 32 || b == 10 || b == 13 || b == 9

-- ---- words

abbrev pub is_word_byte : ℕ → Bool
is_word_byte b = is_ascii_alphanumeric b || b == byte "_"

abbrev pub is_name_byte : ℕ → Bool
is_name_byte b = is_ascii_lowercase b || is_ascii_digit b || b == byte "_"

-- the keywords
abbrev pub keywords : List (List ℕ × Symbol)
keywords =
    (codes "INSERT", symbol.Insert) ∷ (codes "INTO", symbol.Into) ∷ (codes "VALUES", symbol.Values) ∷ (codes "UPDATE", symbol.Update) ∷ (codes "SET", symbol.Set)
    ∷ (codes "WHERE", symbol.Where) ∷ (codes "DELETE", symbol.Delete) ∷ (codes "FROM", symbol.From) ∷ (codes "SELECT", symbol.Select) ∷ (codes "FOR", symbol.For)
    ∷ (codes "AND", symbol.And) ∷ (codes "OR", symbol.Or) ∷ (codes "NOT", symbol.Not) ∷ []

-- the symbol of a word among these keywords, in any case
abbrev pub listed_as : List (List ℕ × Symbol) → List ℕ → Option Symbol
listed_as [] word = None
listed_as (k ∷ ks) word = if str_eq_ignore_ascii_case word k.0 then Some k.1 else listed_as ks word

-- the keyword that a word is, in any case
unfoldable pub keyword : List ℕ → Option Symbol
keyword word = listed_as keywords word

-- a lower-case letter, then lower-case letters, digits and `_`, at most 32 in all
unfoldable pub has_name_form : List ℕ → Bool
has_name_form word = is_ascii_lowercase (slice_index word 0) && nat_le (length word) NAME_BYTES && list_all is_name_byte word

-- a keyword, else a name where the word has that form, else no token of the grammar
abbrev pub word_by : Option Symbol → Bool → List ℕ → Token
word_by (Some found) is_name word = token.Symbol found
word_by None true word = token.Name word
word_by None false word = token.Unknown

-- the token that a word is
unfoldable pub word_token : List ℕ → Token
word_token word = word_by (keyword word) (has_name_form word) word

-- ---- numbers

-- the number that digits write behind those of n
abbrev pub number_after : ℕ → List ℕ → ℕ
number_after n [] = n
number_after n (c ∷ cs) = number_after (n * 10 + (c - 48)) cs

-- ---- texts

-- no control character: neither below a space nor 127
abbrev pub is_printable : ℕ → Bool
is_printable b = nat_le 32 b && not (b == 127)

-- at most 120 bytes, and no control character
unfoldable pub has_text_form : List ℕ → Bool
has_text_form value = nat_le (length value) TEXT_BYTES && list_all is_printable value

-- a text that isn't closed goes up to the end
abbrev pub text_by : List ℕ → Option (List ℕ × ℕ) → Token × ℕ
text_by z None = (token.BadText, suc (length z))
text_by z (Some found) = (if has_text_form found.0 then token.Quoted found.0 else token.BadText, suc found.1)

-- ---- marks

-- a mark and how many bytes it has, else one byte that is no token of the grammar
abbrev pub marked_by : Option (Symbol × ℕ) → Token × ℕ
marked_by None = (token.Unknown, 1)
marked_by (Some found) = (token.Symbol found.0, found.1)

-- the mark that begins with the byte b, where `next` follows, and how many bytes it has
unfoldable pub mark : ℕ → ℕ → Option (Symbol × ℕ)
mark b next =
    if b == byte "(" then Some (symbol.Open, 1) else (if b == byte ")" then Some (symbol.Close, 1)
    else (if b == byte "," then Some (symbol.Comma, 1) else (if b == byte "*" then Some (symbol.Star, 1)
    else (if b == byte ";" then Some (symbol.Semicolon, 1) else (if b == byte "+" then Some (symbol.Plus, 1)
    else (if b == byte "-" then Some (symbol.Minus, 1) else (if b == byte "=" then Some (symbol.Equal, 1)
    else (if b == byte "<" then Some (if next == byte ">" then (symbol.NotEqual, 2) else (if next == byte "=" then (symbol.LessOrEqual, 2) else (symbol.Less, 1)))
    else (if b == byte ">" then Some (if next == byte "=" then (symbol.GreaterOrEqual, 2) else (symbol.Greater, 1))
    else (if b == byte "!" && next == byte "=" then Some (symbol.NotEqual, 2) else None))))))))))

-- ---- tokens

-- the token at the front of a text that begins with neither a blank nor its end, and how many bytes it has
unfoldable pub token_at : List ℕ → Token × ℕ
token_at z =
    let b = slice_index z 0 in
    if is_ascii_alphabetic b then (word_token (take_while is_word_byte z), prefix_len is_word_byte z)
    else (if is_ascii_digit b then (token.Number (min (number_after 0 (take_while is_ascii_digit z)) (2 ^ 64 - 1)), prefix_len is_ascii_digit z)
    else (if b == quote then text_by (drop 1 z) (text_at (drop 1 z)) else marked_by (mark b (slice_index z 1))))

-- The text from each of its tokens on. The number counts the bytes that are left of the present token.
abbrev pub starts_from : ℕ → List ℕ → List (List ℕ)
starts_from left [] = []
starts_from (suc left) (b ∷ z) = starts_from left z
starts_from zero (b ∷ z) = if is_blank b then starts_from zero z else (b ∷ z) ∷ starts_from ((token_at (b ∷ z)).1 - 1) z

-- the same of a whole text
unfoldable pub starts : List ℕ → List (List ℕ)
starts text = starts_from zero text

-- the tokens of a text
unfoldable pub tokens : List ℕ → List Token
tokens text = map (λ z. (token_at z).0) (starts text)

-- the byte at which each token begins
unfoldable pub places : List ℕ → List ℕ
places text = map (λ z. length text - length z) (starts text)
