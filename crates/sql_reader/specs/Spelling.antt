-- Conditions as texts spell them, with their parentheses.
use Rattle.std.specs.Prelude.{◌≡◌, ◌≤◌, ℕ, zero, suc, max, Bool, true, false, List, [], ◌∷◌, ◌++◌, Ok}
use Rattle.seata_types.specs.declared.limits.TheConstants.{NESTING}
use Rattle.seata_types.specs.Condition.{Condition}
use Rattle.seata_types.specs.Condition as tree
use Rattle.sql_reader.specs.declared.symbols.Symbol.TheVariants as symbol
use Rattle.sql_reader.specs.declared.tokens.Token.{Token}
use Rattle.sql_reader.specs.declared.tokens.Token.TheVariants as token
use Rattle.sql_reader.specs.Grammar.{comparison}

-- a comparison by its tokens; conditions joined, denied, or in parentheses
pub data Spelling : Type 0 where
  Compared : List Token → Condition → Spelling
  And : Spelling → Spelling → Spelling
  Or : Spelling → Spelling → Spelling
  Not : Spelling → Spelling
  Grouped : Spelling → Spelling

-- the condition that it means; parentheses leave no trace in it
abbrev pub meaning : Spelling → Condition
meaning (Compared ts c) = c
meaning (And left right) = tree.And (meaning left) (meaning right)
meaning (Or left right) = tree.Or (meaning left) (meaning right)
meaning (Not inner) = tree.Not (meaning inner)
meaning (Grouped inner) = meaning inner

-- its tokens, before the rest
abbrev pub spelled : Spelling → List Token → List Token
spelled (Compared ts c) rest = ts ++ rest
spelled (And left right) rest = spelled left (token.Symbol symbol.And ∷ spelled right rest)
spelled (Or left right) rest = spelled left (token.Symbol symbol.Or ∷ spelled right rest)
spelled (Not inner) rest = token.Symbol symbol.Not ∷ spelled inner rest
spelled (Grouped inner) rest = token.Symbol symbol.Open ∷ spelled inner (token.Symbol symbol.Close ∷ rest)

-- an OR without parentheses round it
abbrev pub is_bare_or : Spelling → Bool
is_bare_or (Or left right) = true
is_bare_or _ = false

-- an AND or an OR without parentheses round it
abbrev pub is_bare_joint : Spelling → Bool
is_bare_joint (And left right) = true
is_bare_joint (Or left right) = true
is_bare_joint _ = false

-- Parentheses stand where they are needed: round an OR that is a part of an AND, round what is joined under NOT or on
-- the right of an AND, and round an OR on the right of an OR.
abbrev pub HasNeededParentheses : Spelling → Type 0
HasNeededParentheses (Compared ts c) = comparison ts ≡ Ok (c, [])
HasNeededParentheses (And left right) =
    (is_bare_or left ≡ false) × (is_bare_joint right ≡ false) × HasNeededParentheses left × HasNeededParentheses right
HasNeededParentheses (Or left right) = (is_bare_or right ≡ false) × HasNeededParentheses left × HasNeededParentheses right
HasNeededParentheses (Not inner) = (is_bare_joint inner ≡ false) × HasNeededParentheses inner
HasNeededParentheses (Grouped inner) = HasNeededParentheses inner

-- how many NOT and parentheses are open at once
abbrev pub depth : Spelling → ℕ
depth (Compared ts c) = zero
depth (And left right) = max (depth left) (depth right)
depth (Or left right) = max (depth left) (depth right)
depth (Not inner) = suc (depth inner)
depth (Grouped inner) = suc (depth inner)

-- it has the parentheses that it needs, and at most 16 NOT and parentheses are open at once
abbrev pub IsSpelling : Spelling → Type 0
IsSpelling s = HasNeededParentheses s × (depth s ≤ NESTING)

-- the tokens up to the rest spell this condition
pub record SpelledSo (ts : List Token) (c : Condition) (rest : List Token) : Type 0 where
  pub spelling : Spelling
  pub as_tokens : ts ≡ spelled spelling rest
  pub means : meaning spelling ≡ c
  pub fits : IsSpelling spelling
