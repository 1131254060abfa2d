-- What the productions are made of: a parser gives a value and the tokens behind it, or the first refusal.
use Rattle.std.specs.Prelude.{◌≡◌, ℕ, zero, suc, Bool, false, if◌then◌else◌, List, [], ◌∷◌, length, Result, Ok, Err}
use denote.Enum.Bare.{sameb}
use Rattle.sql_reader.specs.contracts.symbols.Symbol.{the_type}
use Rattle.sql_reader.specs.declared.symbols.Symbol.{Symbol}
use Rattle.sql_reader.specs.declared.tokens.Token.{Token}
use Rattle.sql_reader.specs.declared.tokens.Token.TheVariants as token
use Rattle.sql_reader.specs.declared.errors.SqlKind.{SqlKind}
use Rattle.sql_reader.specs.declared.errors.SqlKind.TheVariants as kind
use Rattle.sql_reader.specs.declared.errors.Refusal.{Refusal}
use Rattle.sql_reader.specs.declared.errors.Stop.{Stop}
use Rattle.sql_reader.specs.declared.errors.Stop.TheVariants as stop

abbrev pub Outcome : Type 0 → Type 0
Outcome A = Result (A × List Token) Refusal

abbrev pub Parser : Type 0 → Type 0
Parser A = List Token → Outcome A

-- the next parser, with what was found and on the tokens behind it; a refusal ends the parsing
abbrev pub and_then : {A B : Type 0} → Outcome A → (A → Parser B) → Outcome B
and_then (Ok found) f = f found.0 found.1
and_then (Err refusal) f = Err refusal

-- two parsers, one after the other; `>>` has no use for what the first one gives
infixl 10 ◌>>=◌
abbrev pub ◌>>=◌ : {A B : Type 0} → Parser A → (A → Parser B) → Parser B
p >>= f = λ ts. and_then (p ts) f

infixl 10 ◌>>◌
abbrev pub ◌>>◌ : {A B : Type 0} → Parser A → Parser B → Parser B
p >> q = p >>= (λ _. q)

-- a value for which no token is taken
abbrev pub pure : {A : Type 0} → A → Parser A
pure a = λ ts. Ok (a, ts)

-- ---- refusals, at the first of these tokens

-- a refusal tells why, and how many tokens are left from there on
abbrev pub refused : {A : Type 0} → SqlKind → Parser A
refused why ts = Err (record { kind = why; left = length ts })

-- no statement has such a token here, or the text has ended
abbrev pub missing : List Token → SqlKind
missing [] = kind.End
missing (t ∷ ts) = kind.Token

-- whatever stands next is refused
abbrev pub unexpected : {A : Type 0} → Parser A
unexpected ts = refused (missing ts) ts

-- ---- symbols

-- `==` on symbols
unfoldable pub same_symbol : Symbol → Symbol → Bool
same_symbol = sameb the_type

abbrev pub is_symbol : Symbol → Token → Bool
is_symbol wanted (token.Symbol found) = same_symbol found wanted
is_symbol wanted _ = false

-- whether this symbol stands next
unfoldable pub sees : Symbol → List Token → Bool
sees wanted [] = false
sees wanted (t ∷ ts) = is_symbol wanted t

abbrev pub behind_first : List Token → List Token
behind_first [] = []
behind_first (t ∷ ts) = ts

-- the tokens behind this symbol where it stands next, and else all of them
unfoldable pub past : Symbol → List Token → List Token
past wanted ts = if sees wanted ts then behind_first ts else ts

-- takes this symbol, if it stands next
abbrev pub eat : Symbol → Parser Bool
eat wanted = λ ts. Ok (sees wanted ts, past wanted ts)

-- this symbol has to stand next
unfoldable pub expect : Symbol → Parser (Unit {0})
expect wanted ts = if sees wanted ts then Ok (tt, past wanted ts) else unexpected ts

-- nothing more
unfoldable pub end : Parser (Unit {0})
end [] = Ok (tt, [])
end (t ∷ ts) = unexpected (t ∷ ts)

-- ---- repetitions

-- `{separator item}` behind what is found already. Each turn takes a token, so that the tokens left are turns enough.
unfoldable pub more : {A B : Type 0} → Symbol → Parser A → (B → A → B) → ℕ → B → Parser B
more separator item join zero found = pure found
more separator item join (suc turns) found = do
  goes_on ← eat separator
  if goes_on then (do
    x ← item
    more separator item join turns (join found x)) else pure found

-- `item {separator item}`
abbrev pub repeated : {A B : Type 0} → Symbol → Parser A → (A → B) → (B → A → B) → Parser B
repeated separator item first join = do
  x ← item
  (λ ts. more separator item join (length ts) (first x) ts)

-- ---- what a function that reads ensures

-- why a function that reads stopped: with the parser's refusal, or for want of memory, which is free
abbrev pub Stops : {A : Type 0} → Stop → Outcome A → Type 0
Stops stop.NoMemory outcome = Unit {0}
Stops (stop.Refused refusal) outcome = outcome ≡ Err refusal

-- the parser's outcome, unless memory was refused
abbrev pub Reads : {A : Type 0} → Outcome A → Result A Stop → List Token → Type 0
Reads outcome (Ok found) rest = outcome ≡ Ok (found, rest)
Reads outcome (Err why) rest = Stops why outcome

-- the same of a value that is seen through `view`
abbrev pub ReadsAs : {A B : Type 0} → (A → B) → Outcome B → Result A Stop → List Token → Type 0
ReadsAs view outcome (Ok found) rest = outcome ≡ Ok (view found, rest)
ReadsAs view outcome (Err why) rest = Stops why outcome
