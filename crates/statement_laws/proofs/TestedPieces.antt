-- Where each token of a text passes a test of texts, so does each piece of the statement that it reads as.
use Rattle.std.proofs.Common.{◌≡◌, ◌≤◌, ◌<◌, ℕ, zero, suc, ◌+◌, ◌-◌, ◌^◌, min, Bool, true, false, List, [], ◌∷◌, map, Option, Some, None, Ok, refl, subst, arith}
use Rattle.std.specs.Prelude.{if◌then◌else◌, slice_index, IfSome, pos, neg_ℤ}
use Rattle.std.specs.Char.{is_ascii_digit}
use Rattle.std.specs.Fmt.{decimal, signed_decimal}
use Rattle.std.specs.List.{AllByRecursion, take_while}
use Rattle.seata_types.specs.declared.statements.Stmt.{Stmt}
use Rattle.sql_reader.specs.declared.symbols.Symbol.{Symbol}
use Rattle.sql_reader.specs.declared.tokens.Token.{Token}
use Rattle.sql_reader.specs.declared.tokens.Token.TheVariants as token
use Rattle.sql_reader.specs.Answer.{reading}
use Rattle.sql_reader.specs.Canonical.{Piece, Fixed, Name, Number, Quoted, symbol_text, piece_text, pieces}
use Rattle.sql_reader.specs.Lexing.{is_blank, is_word_byte, keyword, has_name_form, word_by, word_token, number_after, quote, text_at, has_text_form, text_by, mark, marked_by, token_at, starts_from, starts, tokens}
use Rattle.statement_laws.proofs.Payments.{total}
use Rattle.statement_laws.proofs.PlainTexts.{is_plain, symbol-plain, name-plain, number-plain, negative-plain}
use Rattle.statement_laws.proofs.Productions.{ArePrices, reading-pays}
use Rattle.statement_laws.proofs.ReadTexts.{IsReadFrom, text-read}
use Rattle.statement_laws.proofs.TokenKinds.{by-kind}

-- a text that fails the test is one fault
abbrev faults_of : Bool → ℕ
faults_of true = 0
faults_of false = 1

abbrev piece_faults : (List ℕ → Bool) → Piece → ℕ
piece_faults good p = faults_of (good (piece_text p))

-- a number is tested with a sign and without
abbrev token_faults : (List ℕ → Bool) → Token → ℕ
token_faults good (token.Symbol s) = piece_faults good (Fixed s)
token_faults good (token.Name n) = piece_faults good (Name n)
token_faults good (token.Number n) = piece_faults good (Number (pos n)) + piece_faults good (Number (neg_ℤ (pos n)))
token_faults good (token.Quoted t) = piece_faults good (Quoted t)
token_faults good token.BadText = 0
token_faults good token.Unknown = 0

faults : (good : List ℕ → Bool) → ArePrices (token_faults good) (piece_faults good)
faults good = record {
  of_symbol = λ s. omega arith;
  of_name = λ n. omega arith;
  of_text = λ t. omega arith;
  of_number = λ n. omega arith;
  of_negative = λ n. omega arith;
}

-- A test that all printable ASCII passes, and so does a text in quotes that is read where P holds of the rest of the text.
pub record Passes (good : List ℕ → Bool) (P : List ℕ → Type 0) : Type 0 where
  pub plain : (z : List ℕ) → is_plain z ≡ true → good z ≡ true
  pub later : (b : ℕ) (z : List ℕ) → P (b ∷ z) → P z
  pub quoted : (z : List ℕ) (found : List ℕ × ℕ) → P (quote ∷ z) → IsReadFrom z found → has_text_form found.0 ≡ true → good (piece_text (Quoted found.0)) ≡ true

module _ (good : List ℕ → Bool) (P : List ℕ → Type 0) (passes : Passes good P) where
  abbrev HasNoFault : Token → Type 0
  HasNoFault t = token_faults good t ≡ 0

  faultless : (z : List ℕ) → is_plain z ≡ true → faults_of (good z) ≡ 0
  faultless z is = rw (passes.plain z is) refl

  symbol-faultless : (s : Symbol) → HasNoFault (token.Symbol s)
  unfolding piece_text
  symbol-faultless s = faultless (symbol_text s) (symbol-plain s)

  word_by-faultless : (found : Option Symbol) (is_name : Bool) (word : List ℕ) → has_name_form word ≡ is_name → HasNoFault (word_by found is_name word)
  unfolding piece_text
  word_by-faultless (Some s) is_name word form = symbol-faultless s
  word_by-faultless None true word form = faultless word (name-plain word form)
  word_by-faultless None false word form = refl

  word-faultless : (word : List ℕ) → HasNoFault (word_token word)
  unfolding word_token
  word-faultless word = word_by-faultless (keyword word) (has_name_form word) word refl

  number-faultless : (n : ℕ) → n < 2 ^ 64 → HasNoFault (token.Number n)
  unfolding piece_text
  number-faultless n few = omega (arith, faultless (decimal n) (number-plain n few), faultless (signed_decimal (neg_ℤ (pos n))) (negative-plain n few))

  text-faultless : (z : List ℕ) (o : Option (List ℕ × ℕ)) → P (quote ∷ z) → IfSome o (IsReadFrom z) → HasNoFault (text_by z o).0
  text-faultless z None is read = refl
  text-faultless z (Some found) is read = by_test (has_text_form found.0) refl
    where
      by_test : (b : Bool) → has_text_form found.0 ≡ b → HasNoFault (if b then token.Quoted found.0 else token.BadText)
      by_test true form = rw (passes.quoted z found is read form) refl
      by_test false form = refl

  mark-faultless : (o : Option (Symbol × ℕ)) → HasNoFault (marked_by o).0
  mark-faultless None = refl
  mark-faultless (Some found) = symbol-faultless found.0

  token-faultless : (b : ℕ) (z : List ℕ) → P (b ∷ z) → HasNoFault (token_at (b ∷ z)).0
  token-faultless b z is =
      by-kind (λ read. HasNoFault read.0) b z (λ _. word-faultless (take_while is_word_byte (b ∷ z)))
      (λ _. number-faultless (min (number_after 0 (take_while is_ascii_digit (b ∷ z))) (2 ^ 64 - 1)) (omega arith))
      (λ e. text-faultless z (text_at z) (subst (λ c. P (c ∷ z)) e is) (text-read z)) (mark-faultless (mark b (slice_index (b ∷ z) 1)))

  tokens-faultless : (left : ℕ) (z : List ℕ) → P z → total (token_faults good) (map (λ y. (token_at y).0) (starts_from left z)) ≡ 0
  tokens-faultless left [] is = refl
  tokens-faultless (suc left) (b ∷ z) is = tokens-faultless left z (passes.later b z is)
  tokens-faultless zero (b ∷ z) is =
      by_test (is_blank b) (tokens-faultless zero z (passes.later b z is)) (tokens-faultless ((token_at (b ∷ z)).1 - 1) z (passes.later b z is))
    where
      by_test : (blank : Bool) → total (token_faults good) (map (λ y. (token_at y).0) (starts_from zero z)) ≡ 0
          → total (token_faults good) (map (λ y. (token_at y).0) (starts_from ((token_at (b ∷ z)).1 - 1) z)) ≡ 0
          → total (token_faults good) (map (λ y. (token_at y).0) (if blank then starts_from zero z else (b ∷ z) ∷ starts_from ((token_at (b ∷ z)).1 - 1) z)) ≡ 0
      by_test true here later = here
      by_test false here later = omega (arith, later, token-faultless b z is)

  good-from_faults : (b : Bool) → faults_of b ≤ 0 → b ≡ true
  good-from_faults true few = refl
  good-from_faults false few = absurd (omega arith)

  all-pass : (ps : List Piece) → total (piece_faults good) ps ≤ 0 → AllByRecursion (λ p. good (piece_text p) ≡ true) ps
  all-pass [] few = tt
  all-pass (p ∷ ps) few = (good-from_faults (good (piece_text p)) (omega arith), all-pass ps (omega arith))

  pub pieces-pass : (text : List ℕ) (s : Stmt) → P text → reading text ≡ Ok s → AllByRecursion (λ p. good (piece_text p) ≡ true) (pieces s)
  unfolding tokens starts
  pieces-pass text s of_text is = all-pass (pieces s) (omega (arith, reading-pays (token_faults good) (piece_faults good) (faults good) text s is, tokens-faultless zero text of_text))
