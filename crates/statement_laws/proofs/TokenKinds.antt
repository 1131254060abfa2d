-- A token is a word, a number, a text or a mark, by its first byte.
use Rattle.std.proofs.Common.{◌≡◌, ◌-◌, ◌^◌, min, ℕ, Bool, true, false, cond, List, ◌∷◌, refl}
use Rattle.std.specs.Prelude.{◌==◌, slice_index}
use Rattle.std.specs.Char.{is_ascii_alphabetic, is_ascii_digit}
use Rattle.std.specs.List.{prefix_len, take_while}
use Rattle.std.proofs.lemmas.Bool.{eqb-true}
use Rattle.sql_reader.specs.declared.tokens.Token.{Token}
use Rattle.sql_reader.specs.declared.tokens.Token.TheVariants as token
use Rattle.sql_reader.specs.Lexing.{is_word_byte, word_token, number_after, quote, text_at, text_by, mark, marked_by, token_at}

-- what holds on both sides of a test
pub choice : {A : Type 0} (P : A → Type 0) (b : Bool) (x y : A) → (b ≡ true → P x) → P y → P (cond b x y)
choice P true x y first second = first refl
choice P false x y first second = second

abbrev pub word_in : List ℕ → Token × ℕ
word_in z = (word_token (take_while is_word_byte z), prefix_len is_word_byte z)

abbrev pub number_in : List ℕ → Token × ℕ
number_in z = (token.Number (min (number_after 0 (take_while is_ascii_digit z)) (2 ^ 64 - 1)), prefix_len is_ascii_digit z)

pub by-kind : (P : Token × ℕ → Type 0) (b : ℕ) (z : List ℕ) → (is_ascii_alphabetic b ≡ true → P (word_in (b ∷ z))) → (is_ascii_digit b ≡ true → P (number_in (b ∷ z)))
    → (b ≡ quote → P (text_by z (text_at z))) → P (marked_by (mark b (slice_index (b ∷ z) 1))) → P (token_at (b ∷ z))
unfolding token_at
by-kind P b z word number text mark =
    choice P (is_ascii_alphabetic b) _ _ word (choice P (is_ascii_digit b) _ _ number (choice P (b == quote) _ _ (λ is. text (eqb-true b quote is)) mark))
