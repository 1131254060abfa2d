-- The one canonical text of a statement: its pieces, with one space between them, but none before "," or ")" and none
-- behind "(". A sign and its digits are one piece. Parentheses stand exactly where the tree would read otherwise.
use Rattle.std.specs.Prelude.{ℕ, ℤ, Bool, true, false, ◌||◌, if◌then◌else◌, ◌==◌, List, [], ◌∷◌, ◌++◌, Option, Some, None, codes, refl}
use Rattle.std.specs.List.{flat_map}
use Rattle.std.specs.Fmt.{signed_decimal}
use Rattle.std.specs.Coded.{Coded, code_by, coded×, coded_ℕ, coded_list, coded_bool}
use Rattle.seata_types.specs.declared.conditions.Op.{Op}
use Rattle.seata_types.specs.declared.conditions.Op.TheVariants as op
use Rattle.seata_types.specs.declared.rows.Value.{Value}
use Rattle.seata_types.specs.declared.rows.Value.TheVariants as value
use Rattle.seata_types.specs.declared.statements.Term.{Term}
use Rattle.seata_types.specs.declared.statements.Term.TheVariants as part
use Rattle.seata_types.specs.declared.statements.Sign.{Sign}
use Rattle.seata_types.specs.declared.statements.Sign.TheVariants as sign
use Rattle.seata_types.specs.declared.statements.Expr.{Expr}
use Rattle.seata_types.specs.declared.statements.Stmt.{Stmt}
use Rattle.seata_types.specs.declared.statements.Stmt.TheVariants as stmt
use Rattle.seata_types.specs.Condition.{Condition}
use Rattle.seata_types.specs.Condition as tree
use Rattle.sql_reader.specs.declared.symbols.Symbol.{Symbol}
use Rattle.sql_reader.specs.declared.symbols.Symbol.TheVariants as symbol
use Rattle.sql_reader.specs.Lexing.{quote}

-- a keyword or a mark, a name, a number with its sign, or a text without its quotes
pub data Piece : Type 0 where
  Fixed : Symbol → Piece
  Name : List ℕ → Piece
  Number : ℤ → Piece
  Quoted : List ℕ → Piece

-- ---- the pieces of a statement

-- the one piece of a literal and of a term, and the marks of signs and comparisons
abbrev pub value_piece : Value → Piece
value_piece (value.Int number) = Number number
value_piece (value.Text text) = Quoted text

abbrev pub term_piece : Term → Piece
term_piece (part.Lit found) = value_piece found
term_piece (part.Column name) = Name name

abbrev pub sign_of : Sign → Symbol
sign_of sign.Plus = symbol.Plus
sign_of sign.Minus = symbol.Minus

abbrev pub op_symbol : Op → Symbol
op_symbol op.Eq = symbol.Equal
op_symbol op.Ne = symbol.NotEqual
op_symbol op.Lt = symbol.Less
op_symbol op.Le = symbol.LessOrEqual
op_symbol op.Gt = symbol.Greater
op_symbol op.Ge = symbol.GreaterOrEqual

-- the pieces of each item, with commas between
abbrev pub comma_separated : {A : Type 0} → (A → List Piece) → List A → List Piece
comma_separated item [] = []
comma_separated item (x ∷ xs) = item x ++ flat_map (λ y. Fixed symbol.Comma ∷ item y) xs

-- terms with their signs between; a column, "=" and its expression; values in parentheses
unfoldable pub expr_pieces : Expr → List Piece
expr_pieces e = term_piece e.first ∷ flat_map (λ t. Fixed (sign_of t.0) ∷ term_piece t.1 ∷ []) e.rest

unfoldable pub assignment_pieces : List ℕ × Expr → List Piece
assignment_pieces s = Name s.0 ∷ Fixed symbol.Equal ∷ expr_pieces s.1

unfoldable pub tuple_pieces : List Value → List Piece
tuple_pieces values = Fixed symbol.Open ∷ comma_separated (λ v. value_piece v ∷ []) values ++ Fixed symbol.Close ∷ []

-- whether a condition is joined by OR, and below it whether by AND
abbrev pub is_or : Condition → Bool
is_or (tree.Or left right) = true
is_or _ = false

abbrev pub is_and : Condition → Bool
is_and (tree.And left right) = true
is_and _ = false

-- a part of a condition, in parentheses where it has to be
abbrev pub grouped : Bool → List Piece → List Piece
grouped true pieces = Fixed symbol.Open ∷ pieces ++ Fixed symbol.Close ∷ []
grouped false pieces = pieces

-- NOT binds before AND, and AND before OR; both of these group to the left
unfoldable pub condition_pieces : Condition → List Piece
condition_pieces (tree.Cmp column test compared) = Name column ∷ Fixed (op_symbol test) ∷ value_piece compared ∷ []
condition_pieces (tree.And left right) =
    grouped (is_or left) (condition_pieces left) ++ Fixed symbol.And ∷ grouped (is_or right || is_and right) (condition_pieces right)
condition_pieces (tree.Or left right) = condition_pieces left ++ Fixed symbol.Or ∷ grouped (is_or right) (condition_pieces right)
condition_pieces (tree.Not inner) = Fixed symbol.Not ∷ grouped (is_or inner || is_and inner) (condition_pieces inner)

-- WHERE and the condition, if there is one
unfoldable pub filter_pieces : Option Condition → List Piece
filter_pieces None = []
filter_pieces (Some c) = Fixed symbol.Where ∷ condition_pieces c

-- a whole statement, without a semicolon
unfoldable pub pieces : Stmt → List Piece
pieces (stmt.Insert table columns rows) =
    Fixed symbol.Insert ∷ Fixed symbol.Into ∷ Name table ∷ Fixed symbol.Open ∷ comma_separated (λ c. Name c ∷ []) columns
    ++ Fixed symbol.Close ∷ Fixed symbol.Values ∷ comma_separated tuple_pieces rows
pieces (stmt.Update table sets cond) =
    Fixed symbol.Update ∷ Name table ∷ Fixed symbol.Set ∷ comma_separated assignment_pieces sets ++ filter_pieces cond
pieces (stmt.Delete table cond) = Fixed symbol.Delete ∷ Fixed symbol.From ∷ Name table ∷ filter_pieces cond
pieces (stmt.Select table cond) =
    Fixed symbol.Select ∷ Fixed symbol.Star ∷ Fixed symbol.From ∷ Name table ∷ filter_pieces cond ++ Fixed symbol.For ∷ Fixed symbol.Update ∷ []

-- ---- their text

-- keywords in upper case, and marks
abbrev pub symbol_text : Symbol → List ℕ
symbol_text symbol.Insert = codes "INSERT"
symbol_text symbol.Into = codes "INTO"
symbol_text symbol.Values = codes "VALUES"
symbol_text symbol.Update = codes "UPDATE"
symbol_text symbol.Set = codes "SET"
symbol_text symbol.Where = codes "WHERE"
symbol_text symbol.Delete = codes "DELETE"
symbol_text symbol.From = codes "FROM"
symbol_text symbol.Select = codes "SELECT"
symbol_text symbol.For = codes "FOR"
symbol_text symbol.And = codes "AND"
symbol_text symbol.Or = codes "OR"
symbol_text symbol.Not = codes "NOT"
symbol_text symbol.Open = codes "("
symbol_text symbol.Close = codes ")"
symbol_text symbol.Comma = codes ","
symbol_text symbol.Star = codes "*"
symbol_text symbol.Semicolon = codes ";"
symbol_text symbol.Plus = codes "+"
symbol_text symbol.Minus = codes "-"
symbol_text symbol.Equal = codes "="
symbol_text symbol.NotEqual = codes "<>"
symbol_text symbol.Less = codes "<"
symbol_text symbol.LessOrEqual = codes "<="
symbol_text symbol.Greater = codes ">"
symbol_text symbol.GreaterOrEqual = codes ">="

-- two quotes for each one
abbrev pub doubled : List ℕ → List ℕ
doubled [] = []
doubled (b ∷ z) = if b == quote then quote ∷ quote ∷ doubled z else b ∷ doubled z

-- a text stands in quotes, and each quote in it twice
unfoldable pub piece_text : Piece → List ℕ
piece_text (Fixed found) = symbol_text found
piece_text (Name name) = name
piece_text (Number number) = signed_decimal number
piece_text (Quoted text) = quote ∷ doubled text ++ quote ∷ []

-- "(", behind which no space stands
abbrev pub opens : Piece → Bool
opens (Fixed symbol.Open) = true
opens _ = false

-- "," or ")", before which no space stands
abbrev pub clings : Piece → Bool
clings (Fixed symbol.Comma) = true
clings (Fixed symbol.Close) = true
clings _ = false

-- what stands before a piece: nothing where it is tight, else one space
abbrev pub gap : Bool → List ℕ
gap true = []
gap false = codes " "

-- the text of pieces that stand at the beginning or behind "(", or else behind another piece
unfoldable pub spaced : Bool → List Piece → List ℕ
spaced is_tight [] = []
spaced is_tight (p ∷ ps) = gap (is_tight || clings p) ++ piece_text p ++ spaced (opens p) ps

-- the canonical text of a statement
unfoldable pub canonical_text : Stmt → List ℕ
canonical_text s = spaced true (pieces s)

-- ---- writing piece by piece

-- what is written, and whether no space may stand behind it
pub record Written : Type 0 where
  pub text : List ℕ
  pub is_tight : Bool

-- it is stored as the pair of its fields
abbrev pub written_code : Coded Written
written_code = code_by (List ℕ × Bool) (coded× (coded_list coded_ℕ) coded_bool) (λ w. (w.text, w.is_tight)) (λ p. record { text = p.0; is_tight = p.1 }) (λ _. refl)

-- with one piece more
unfoldable pub put : Written → Piece → Written
put w p = record { text = w.text ++ (gap (w.is_tight || clings p) ++ piece_text p); is_tight = opens p }

-- with these pieces more
abbrev pub written : Written → List Piece → Written
written w [] = w
written w (p ∷ ps) = written (put w p) ps
