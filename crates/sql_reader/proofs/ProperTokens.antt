-- Each token that a text is cut into is proper.
use Rattle.std.proofs.Common.{◌≡◌, ℕ, Bool, true, false, cond, List, [], ◌∷◌, map, drop, Option, Some, None, refl}
use Rattle.std.specs.Prelude.{◌==◌, slice_index}
use Rattle.std.specs.Char.{is_ascii_alphabetic, is_ascii_digit}
use Rattle.std.specs.List.{take_while}
use Rattle.sql_reader.specs.declared.symbols.Symbol.{Symbol}
use Rattle.sql_reader.specs.declared.tokens.Token.{Token}
use Rattle.sql_reader.specs.declared.tokens.Token.TheVariants as token
use Rattle.sql_reader.specs.Lexing.{is_word_byte, keyword, has_name_form, has_text_form, word_by, word_token, text_at, text_by, mark, marked_by, quote, token_at, starts, tokens}
use Rattle.sql_reader.proofs.Sound.{IsProper, AreProper}

word-proper : (found : Option Symbol) (is_name : Bool) (w : List ℕ) → keyword w ≡ found → has_name_form w ≡ is_name → IsProper (word_by found is_name w)
word-proper (Some s) is_name w k n = tt
word-proper None true w k n = record { form = n; no_keyword = k }
word-proper None false w k n = tt

quoted-proper : (b : Bool) (t : List ℕ) → has_text_form t ≡ b → IsProper (cond b (token.Quoted t) token.BadText)
quoted-proper true t is = is
quoted-proper false t is = tt

text-proper : (z : List ℕ) (found : Option (List ℕ × ℕ)) → IsProper (text_by z found).0
text-proper z None = tt
text-proper z (Some found) = quoted-proper (has_text_form found.0) found.0 refl

mark-proper : (found : Option (Symbol × ℕ)) → IsProper (marked_by found).0
mark-proper None = tt
mark-proper (Some found) = tt

choice-proper : (b : Bool) (s t : Token × ℕ) → IsProper s.0 → IsProper t.0 → IsProper (cond b s t).0
choice-proper true s t first second = first
choice-proper false s t first second = second

token-proper : (z : List ℕ) → IsProper (token_at z).0
unfolding token_at word_token
token-proper z =
    choice-proper (is_ascii_alphabetic (slice_index z 0)) _ _ (word-proper _ _ (take_while is_word_byte z) refl refl)
    (choice-proper (is_ascii_digit (slice_index z 0)) _ _ tt
    (choice-proper (slice_index z 0 == quote) _ _ (text-proper (drop 1 z) (text_at (drop 1 z))) (mark-proper (mark (slice_index z 0) (slice_index z 1)))))

all-proper : (zs : List (List ℕ)) → AreProper (map (λ z. (token_at z).0) zs)
all-proper [] = tt
all-proper (z ∷ zs) = (token-proper z, all-proper zs)

pub tokens-proper : (text : List ℕ) → AreProper (tokens text)
unfolding tokens
tokens-proper text = all-proper (starts text)
