-- Texts that are read alike.
use Rattle.std.specs.Prelude.{◌≡◌, ℕ, false, List, ◌∷◌, ◌++◌, length, IsSome, Contains}
use Rattle.std.specs.List.{prefix_len}
use Rattle.sql_reader.specs.declared.symbols.Symbol.TheVariants as symbol
use Rattle.sql_reader.specs.declared.tokens.Token.{Token}
use Rattle.sql_reader.specs.declared.tokens.Token.TheVariants as token
use Rattle.sql_reader.specs.Lexing.{is_word_byte, keyword, tokens, places}
use Rattle.sql_reader.specs.Parsing.{sees}
use Rattle.sql_reader.specs.Spelling.{Spelling, meaning, spelled, IsSpelling}

-- in the text of these three parts, one after another, the word is a token, and a keyword
pub record HasKeyword (before word behind : List ℕ) : Type 0 where
  pub is_keyword : IsSome (keyword word)
  pub begins : Contains (places (before ++ (word ++ behind))) (length before)
  pub ends : prefix_len is_word_byte behind ≡ 0

-- Two texts whose tokens are the same but for the condition behind one WHERE. It means the same in both, so that
-- parentheses may stand in one that the other hasn't. No AND or OR goes on with it.
pub record DifferInParentheses (a b : List ℕ) : Type 0 where
  pub front : List Token
  pub in_a : Spelling
  pub in_b : Spelling
  pub back : List Token
  pub a_tokens : tokens a ≡ front ++ token.Symbol symbol.Where ∷ spelled in_a back
  pub b_tokens : tokens b ≡ front ++ token.Symbol symbol.Where ∷ spelled in_b back
  pub a_fits : IsSpelling in_a
  pub b_fits : IsSpelling in_b
  pub same : meaning in_a ≡ meaning in_b
  pub no_and : sees symbol.And back ≡ false
  pub no_or : sees symbol.Or back ≡ false
