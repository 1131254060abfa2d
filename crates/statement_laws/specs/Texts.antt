-- For the proofs alone: what the types of a statement's values say of their texts: each is UTF-8.
use Rattle.std.specs.Prelude.{All, IsUtf8, List, Option, Some, None}
use Rattle.seata_types.specs.declared.rows.Value.{Value}
use Rattle.seata_types.specs.declared.rows.Value.TheVariants as value
use Rattle.seata_types.specs.declared.statements.Expr.{Expr}
use Rattle.seata_types.specs.declared.statements.Stmt.{Stmt}
use Rattle.seata_types.specs.declared.statements.Stmt.TheVariants as stmt
use Rattle.seata_types.specs.declared.statements.Term.{Term}
use Rattle.seata_types.specs.declared.statements.Term.TheVariants as part
use Rattle.seata_types.specs.Condition.{Condition}
use Rattle.seata_types.specs.Condition as tree

-- each text is UTF-8: of a value, a term, an expression, a condition, and a condition that may be absent
abbrev pub HasText : Value → Type 0
HasText (value.Int number) = Unit {0}
HasText (value.Text text) = IsUtf8 text

abbrev pub HasTextOf : Term → Type 0
HasTextOf (part.Lit found) = HasText found
HasTextOf (part.Column name) = Unit {0}

abbrev pub HasTexts : Expr → Type 0
HasTexts e = HasTextOf e.first × All (λ t. HasTextOf t.1) e.rest

abbrev pub HasTextsIn : Condition → Type 0
HasTextsIn (tree.Cmp column test compared) = HasText compared
HasTextsIn (tree.And left right) = HasTextsIn left × HasTextsIn right
HasTextsIn (tree.Or left right) = HasTextsIn left × HasTextsIn right
HasTextsIn (tree.Not inner) = HasTextsIn inner

abbrev pub HasTextsOf : Option Condition → Type 0
HasTextsOf None = Unit {0}
HasTextsOf (Some c) = HasTextsIn c

-- the texts of the values of a statement
abbrev pub AreTexts : Stmt → Type 0
AreTexts (stmt.Insert table columns rows) = All (λ r. All HasText r) rows
AreTexts (stmt.Update table sets cond) = All (λ s. HasTexts s.1) sets × HasTextsOf cond
AreTexts (stmt.Delete table cond) = HasTextsOf cond
AreTexts (stmt.Select table cond) = HasTextsOf cond
