-- What an expression is in a row, and the row that an UPDATE makes of it.
use Rattle.std.specs.Prelude.{ℕ, ◌^◌, ◌-◌, ℤ, pos, negsuc, ◌+ℤ◌, ◌-ℤ◌, int_le, int_lt, ◌&&◌, if◌then◌else◌, List, [], ◌∷◌, Option, Some, None, option_map, option_and_then, slice_set}
use Rattle.seata_types.specs.declared.rows.Row.{Row}
use Rattle.seata_types.specs.declared.rows.Value.{Value}
use Rattle.seata_types.specs.declared.rows.Value.TheVariants as value
use Rattle.seata_types.specs.declared.statements.Expr.{Expr}
use Rattle.seata_types.specs.declared.statements.Sign.{Sign}
use Rattle.seata_types.specs.declared.statements.Sign.TheVariants as sign
use Rattle.seata_types.specs.declared.statements.Term.{Term}
use Rattle.seata_types.specs.declared.statements.Term.TheVariants as term
use Rattle.local_tables.specs.Cells.{place_of, cell}
use Rattle.local_tables.specs.declared.schemas.TableDef.{TableDef}

-- a sum, where it stays within 64 bits
abbrev pub within : ℤ → Option ℤ
within sum = if int_le (negsuc (2 ^ 63 - 1)) sum && int_lt sum (pos (2 ^ 63)) then Some sum else None

-- a sum with one more number, where it stays within 64 bits
abbrev pub joined : Sign → ℤ → ℤ → Option ℤ
joined sign.Plus total n = within (total +ℤ n)
joined sign.Minus total n = within (total -ℤ n)

-- what a term is in a row
abbrev pub term_value : TableDef → Row → Term → Option Value
term_value def row (term.Lit literal) = Some literal
term_value def row (term.Column name) = cell def row name

-- the number that a value is, and below it the number that a term is in a row
abbrev pub number : Value → Option ℤ
number (value.Int n) = Some n
number (value.Text text) = None

abbrev pub term_number : TableDef → Row → Term → Option ℤ
term_number def row part = option_and_then number (term_value def row part)

-- the sum from the left; none where a partial sum leaves 64 bits
abbrev pub sum_from : TableDef → Row → ℤ → List (Sign × Term) → Option ℤ
sum_from def row total [] = Some total
sum_from def row total (s ∷ ss) =
    option_and_then (λ next. sum_from def row next ss) (option_and_then (joined s.0 total) (term_number def row s.1))

-- a lone term is its own value; more than one are the sum of their numbers
abbrev pub sum_value : TableDef → Row → Term → List (Sign × Term) → Option Value
sum_value def row first [] = term_value def row first
sum_value def row first (s ∷ ss) =
    option_map (λ n. value.Int n) (option_and_then (λ n. sum_from def row n (s ∷ ss)) (term_number def row first))

-- what an expression is in a row; none where a partial sum leaves 64 bits
abbrev pub expr_value : TableDef → Row → Expr → Option Value
expr_value def row e = sum_value def row e.first e.rest

-- the cells with this value at the place of a column, if that has one
abbrev pub set_at : Option ℕ → Value → List Value → List Value
set_at (Some place) new cells = slice_set cells place new
set_at None new cells = cells

-- the cells with each column set to what its expression is in the old row
abbrev pub set_cells : TableDef → Row → List (List ℕ × Expr) → List Value → Option (List Value)
set_cells def old [] cells = Some cells
set_cells def old (s ∷ ss) cells =
    option_and_then (λ new. set_cells def old ss (set_at (place_of def s.0) new cells)) (expr_value def old s.1)

abbrev pub row_of : List Value → Row
row_of cells = record { 0 = cells }

-- the row that an UPDATE makes of an old one; none where a partial sum leaves 64 bits
abbrev pub updated : TableDef → List (List ℕ × Expr) → Row → Option Row
updated def sets row = option_map row_of (set_cells def row sets row.0)
