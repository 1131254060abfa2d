-- The productions of statements, in their order:
--
--   stmt   = (insert | update | delete | select) [";"]
--   insert = INSERT INTO name "(" name {"," name} ")" VALUES tuple {"," tuple}
--   tuple  = "(" lit {"," lit} ")"
--   update = UPDATE name SET name "=" expr {"," name "=" expr} [WHERE cond]
--   delete = DELETE FROM name [WHERE cond]
--   select = SELECT "*" FROM name [WHERE cond] FOR UPDATE
--   expr   = term {("+" | "-") term}
--   term   = lit | name
--   cond   = conj {OR conj}
--   conj   = fact {AND fact}
--   fact   = NOT fact | "(" cond ")" | name op lit
--   op     = "=" | "<>" | "!=" | "<" | "<=" | ">" | ">="
--   lit    = ["-"] digits | text
use Rattle.std.specs.Prelude.{ℕ, zero, suc, ◌^◌, Bool, true, false, ◌||◌, if◌then◌else◌, nat_lt, nat_le, ℤ, pos, neg_ℤ, List, [], ◌∷◌, ◌++◌, length, Option, Some, None, Ok}
use Rattle.seata_types.specs.declared.limits.TheConstants.{NESTING}
use Rattle.seata_types.specs.declared.conditions.Op.{Op}
use Rattle.seata_types.specs.declared.conditions.Op.TheVariants as op
use Rattle.seata_types.specs.declared.rows.Value.{Value}
use Rattle.seata_types.specs.declared.rows.Value.TheVariants as value
use Rattle.seata_types.specs.declared.statements.Term.{Term}
use Rattle.seata_types.specs.declared.statements.Term.TheVariants as part
use Rattle.seata_types.specs.declared.statements.Sign.{Sign}
use Rattle.seata_types.specs.declared.statements.Sign.TheVariants as sign
use Rattle.seata_types.specs.declared.statements.Expr.{Expr}
use Rattle.seata_types.specs.declared.statements.Stmt.{Stmt}
use Rattle.seata_types.specs.declared.statements.Stmt.TheVariants as stmt
use Rattle.seata_types.specs.Condition.{Condition}
use Rattle.seata_types.specs.Condition as tree
use Rattle.sql_reader.specs.declared.symbols.Symbol.{Symbol}
use Rattle.sql_reader.specs.declared.symbols.Symbol.TheVariants as symbol
use Rattle.sql_reader.specs.declared.tokens.Token.{Token}
use Rattle.sql_reader.specs.declared.tokens.Token.TheVariants as token
use Rattle.sql_reader.specs.declared.errors.SqlKind.TheVariants as kind
use Rattle.sql_reader.specs.Parsing.{Parser, ◌>>=◌, ◌>>◌, pure, refused, unexpected, sees, eat, expect, end, repeated}

-- a name, which no keyword is
unfoldable pub name : Parser (List ℕ)
name (token.Name found ∷ ts) = Ok (found, ts)
name ts = unexpected ts

-- ---- lit

-- a number that has to be a signed number of 64 bits, and the tokens that it began with
abbrev pub in_range : Bool → ℤ → List Token → Parser Value
in_range true number begun ts = Ok (value.Int number, ts)
in_range false number begun ts = refused kind.Number begun

-- behind the sign
abbrev pub negative : List Token → Parser Value
negative begun (token.Number n ∷ ts) = in_range (nat_le n (2 ^ 63)) (neg_ℤ (pos n)) begun ts
negative begun ts = unexpected ts

-- a number of 64 bits, with "-" before it or without, or a text
unfoldable pub literal : Parser Value
literal (token.Number n ∷ ts) = in_range (nat_lt n (2 ^ 63)) (pos n) (token.Number n ∷ ts) ts
literal (token.Symbol symbol.Minus ∷ ts) = negative (token.Symbol symbol.Minus ∷ ts) ts
literal (token.Quoted found ∷ ts) = Ok (value.Text found, ts)
literal (token.BadText ∷ ts) = refused kind.Text (token.BadText ∷ ts)
literal ts = unexpected ts

-- ---- term and expr

-- a column, or a literal
unfoldable pub term : Parser Term
term (token.Name found ∷ ts) = Ok (part.Column found, ts)
term ts = (do
  found ← literal
  pure (part.Lit found)) ts

-- "+" or "-", if one stands next
unfoldable pub plus_or_minus : Parser (Option Sign)
plus_or_minus (token.Symbol symbol.Plus ∷ ts) = Ok (Some sign.Plus, ts)
plus_or_minus (token.Symbol symbol.Minus ∷ ts) = Ok (Some sign.Minus, ts)
plus_or_minus ts = Ok (None, ts)

-- behind a sign one more term, and then what `go_on` reads; without a sign nothing more
abbrev pub more_behind : (List (Sign × Term) → Parser (List (Sign × Term))) → List (Sign × Term) → Option Sign → Parser (List (Sign × Term))
more_behind go_on found None = pure found
more_behind go_on found (Some sign) = do
  next ← term
  go_on (found ++ (sign, next) ∷ [])

-- `{("+" | "-") term}` behind the terms that are found already. Each turn takes a token.
unfoldable pub more_terms : ℕ → List (Sign × Term) → Parser (List (Sign × Term))
more_terms zero found = pure found
more_terms (suc turns) found = plus_or_minus >>= more_behind (more_terms turns) found

unfoldable pub expr : Parser Expr
expr = do
  first ← term
  rest ← (λ ts. more_terms (length ts) [] ts)
  pure (record { first = first; rest = rest })

-- ---- cond

-- the comparison that a mark stands for
abbrev pub op_of : Symbol → Option Op
op_of symbol.Equal = Some op.Eq
op_of symbol.NotEqual = Some op.Ne
op_of symbol.Less = Some op.Lt
op_of symbol.LessOrEqual = Some op.Le
op_of symbol.Greater = Some op.Gt
op_of symbol.GreaterOrEqual = Some op.Ge
op_of _ = None

-- the comparison that was found; any other symbol is refused where it stands
abbrev pub operator_by : Option Op → List Token → Parser Op
operator_by (Some found) begun ts = Ok (found, ts)
operator_by None begun ts = unexpected begun

unfoldable pub operator : Parser Op
operator (token.Symbol found ∷ ts) = operator_by (op_of found) (token.Symbol found ∷ ts) ts
operator ts = unexpected ts

-- `name op lit`
unfoldable pub comparison : Parser Condition
comparison = do
  column ← name
  test ← operator
  compared ← literal
  pure (tree.Cmp column test compared)

-- conj and cond over the facts that they are made of; both group to the left
unfoldable pub conjunction : Parser Condition → Parser Condition
conjunction fact = repeated symbol.And fact (λ c. c) tree.And

unfoldable pub disjunction : Parser Condition → Parser Condition
disjunction fact = repeated symbol.Or (conjunction fact) (λ c. c) tree.Or

-- a fact where no further NOT or parenthesis may be open
unfoldable pub innermost : Parser Condition
innermost ts = if sees symbol.Not ts || sees symbol.Open ts then refused kind.Depth ts else comparison ts

-- a fact where so many further NOT and parentheses may be open
unfoldable pub fact : ℕ → Parser Condition
fact zero = innermost
fact (suc room) = do
  is_not ← eat symbol.Not
  if is_not then (do
    inner ← fact room
    pure (tree.Not inner)) else (do
      is_open ← eat symbol.Open
      if is_open then (do
        inner ← disjunction (fact room)
        expect symbol.Close
        pure inner) else comparison)

-- a condition with as many NOT and parentheses open at once as the limit lets it have
unfoldable pub cond : Parser Condition
cond = disjunction (fact NESTING)

-- `[WHERE cond]`
unfoldable pub filter : Parser (Option Condition)
filter = do
  is_there ← eat symbol.Where
  if is_there then (do
    found ← cond
    pure (Some found)) else pure None

-- ---- the statements

-- `item {"," item}`
abbrev pub listed : {A : Type 0} → Parser A → Parser (List A)
listed item = repeated symbol.Comma item (λ x. x ∷ []) (λ xs x. xs ++ x ∷ [])

-- lists with commas between, and what they are of
unfoldable pub names : Parser (List (List ℕ))
names = listed name

unfoldable pub literals : Parser (List Value)
literals = listed literal

unfoldable pub tuple : Parser (List Value)
tuple = do
  expect symbol.Open
  found ← literals
  expect symbol.Close
  pure found

unfoldable pub tuples : Parser (List (List Value))
tuples = listed tuple

unfoldable pub assignment : Parser (List ℕ × Expr)
assignment = do
  column ← name
  expect symbol.Equal
  found ← expr
  pure (column, found)

unfoldable pub assignments : Parser (List (List ℕ × Expr))
assignments = listed assignment

-- behind INSERT
unfoldable pub insert : Parser Stmt
insert = do
  expect symbol.Into
  table ← name
  expect symbol.Open
  columns ← names
  expect symbol.Close
  expect symbol.Values
  rows ← tuples
  pure (stmt.Insert table columns rows)

-- behind UPDATE
unfoldable pub update : Parser Stmt
update = do
  table ← name
  expect symbol.Set
  sets ← assignments
  cond ← filter
  pure (stmt.Update table sets cond)

-- behind DELETE
unfoldable pub delete : Parser Stmt
delete = do
  expect symbol.From
  table ← name
  cond ← filter
  pure (stmt.Delete table cond)

-- behind SELECT
unfoldable pub select : Parser Stmt
select = do
  expect symbol.Star
  expect symbol.From
  table ← name
  cond ← filter
  expect symbol.For
  expect symbol.Update
  pure (stmt.Select table cond)

-- a statement without its semicolon, by its first word
unfoldable pub body : Parser Stmt
body (token.Symbol symbol.Insert ∷ ts) = insert ts
body (token.Symbol symbol.Update ∷ ts) = update ts
body (token.Symbol symbol.Delete ∷ ts) = delete ts
body (token.Symbol symbol.Select ∷ ts) = select ts
body ts = unexpected ts

-- a whole text
unfoldable pub statement : Parser Stmt
statement = do
  found ← body
  is_closed ← eat symbol.Semicolon
  end
  pure found
