-- The statements that some text reads as.
use Rattle.std.specs.Prelude.{◌≡◌, ◌≤◌, ℕ, zero, suc, max, Bool, true, false, ◌||◌, List, [], ◌∷◌, Option, Some, None, FitsSigned}
use Rattle.std.specs.Int.{w64}
use Rattle.std.specs.List.{AllByRecursion}
use Rattle.seata_types.specs.declared.limits.TheConstants.{NESTING}
use Rattle.seata_types.specs.declared.rows.Value.{Value}
use Rattle.seata_types.specs.declared.rows.Value.TheVariants as value
use Rattle.seata_types.specs.declared.statements.Term.{Term}
use Rattle.seata_types.specs.declared.statements.Term.TheVariants as part
use Rattle.seata_types.specs.declared.statements.Expr.{Expr}
use Rattle.seata_types.specs.declared.statements.Stmt.{Stmt}
use Rattle.seata_types.specs.declared.statements.Stmt.TheVariants as stmt
use Rattle.seata_types.specs.Condition.{Condition}
use Rattle.seata_types.specs.Condition as tree
use Rattle.sql_reader.specs.Lexing.{has_name_form, has_text_form, keyword}
use Rattle.sql_reader.specs.Canonical.{is_or, is_and}

-- a name: its form, and that it is no keyword
pub record IsName (name : List ℕ) : Type 0 where
  pub form : has_name_form name ≡ true
  pub no_keyword : keyword name ≡ None

-- literals, terms, expressions and assignments that can be read: numbers have 64 bits, texts and names their form
abbrev pub IsLiteral : Value → Type 0
IsLiteral (value.Int number) = FitsSigned w64 number
IsLiteral (value.Text text) = has_text_form text ≡ true

abbrev pub IsTerm : Term → Type 0
IsTerm (part.Lit found) = IsLiteral found
IsTerm (part.Column name) = IsName name

abbrev pub IsExpr : Expr → Type 0
IsExpr e = IsTerm e.first × AllByRecursion (λ t. IsTerm t.1) e.rest

abbrev pub IsAssignment : List ℕ × Expr → Type 0
IsAssignment s = IsName s.0 × IsExpr s.1

-- at least one, and each
abbrev pub OneOrMore : {A : Type 0} → (A → Type 0) → List A → Type 0
OneOrMore Each [] = ⊥
OneOrMore Each (x ∷ xs) = Each x × AllByRecursion Each xs

-- each column of a condition is a name, and each literal can be read
abbrev pub HasReadableParts : Condition → Type 0
HasReadableParts (tree.Cmp column test compared) = IsName column × IsLiteral compared
HasReadableParts (tree.And left right) = HasReadableParts left × HasReadableParts right
HasReadableParts (tree.Or left right) = HasReadableParts left × HasReadableParts right
HasReadableParts (tree.Not inner) = HasReadableParts inner

-- one more, where a part stands in parentheses
abbrev pub grouped_nesting : Bool → ℕ → ℕ
grouped_nesting true n = suc n
grouped_nesting false n = n

-- how many NOT and parentheses are open at once in the canonical text
abbrev pub nesting : Condition → ℕ
nesting (tree.Cmp column test compared) = zero
nesting (tree.And left right) = max (grouped_nesting (is_or left) (nesting left)) (grouped_nesting (is_or right || is_and right) (nesting right))
nesting (tree.Or left right) = max (nesting left) (grouped_nesting (is_or right) (nesting right))
nesting (tree.Not inner) = suc (grouped_nesting (is_or inner || is_and inner) (nesting inner))

-- a condition of such parts, with no more NOT and parentheses open at once than the limit lets it have
abbrev pub IsCondition : Condition → Type 0
IsCondition c = HasReadableParts c × (nesting c ≤ NESTING)

-- the condition behind WHERE, if there is one
abbrev pub IsFilter : Option Condition → Type 0
IsFilter None = Unit {0}
IsFilter (Some c) = IsCondition c

-- a statement that some text reads as; none of its lists is empty
unfoldable pub IsReadable : Stmt → Type 0
IsReadable (stmt.Insert table columns rows) = IsName table × OneOrMore IsName columns × OneOrMore (OneOrMore IsLiteral) rows
IsReadable (stmt.Update table sets cond) = IsName table × OneOrMore IsAssignment sets × IsFilter cond
IsReadable (stmt.Delete table cond) = IsName table × IsFilter cond
IsReadable (stmt.Select table cond) = IsName table × IsFilter cond
