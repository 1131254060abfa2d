-- What is asked of a statement by its table's definition alone, whatever the rows are.
use Rattle.std.specs.Prelude.{ℕ, ◌==◌, Bool, true, false, not, ◌&&◌, List, [], ◌∷◌, length, map, count_by, zip, find, Option, Some, None, is_some, option_map}
use Rattle.std.specs.List.{list_all, list_any}
use Rattle.seata_types.specs.Condition.{Condition}
use Rattle.seata_types.specs.Condition as condition
use Rattle.seata_types.specs.Orders.{same_text}
use Rattle.seata_types.specs.declared.rows.Value.{Value}
use Rattle.seata_types.specs.declared.rows.Value.TheVariants as value
use Rattle.seata_types.specs.declared.statements.Expr.{Expr}
use Rattle.seata_types.specs.declared.statements.Sign.{Sign}
use Rattle.seata_types.specs.declared.statements.Stmt.{Stmt}
use Rattle.seata_types.specs.declared.statements.Stmt.TheVariants as stmt
use Rattle.seata_types.specs.declared.statements.Term.{Term}
use Rattle.seata_types.specs.declared.statements.Term.TheVariants as term
use Rattle.local_tables.specs.Cells.{Column, has_name, place_of}
use Rattle.local_tables.specs.declared.schemas.ColType.{ColType}
use Rattle.local_tables.specs.declared.schemas.ColType.TheVariants as type
use Rattle.local_tables.specs.declared.schemas.TableDef.{TableDef}

-- what an UPDATE sets: a column, and the expression that it is set to
abbrev pub Set : Type 0
Set = List ℕ × Expr

-- whether a test passes where there is a condition
abbrev pub passes : (Condition → Bool) → Option Condition → Bool
passes test None = true
passes test (Some asked) = test asked

-- the table that a statement names
abbrev pub table_of : Stmt → List ℕ
table_of (stmt.Insert table columns tuples) = table
table_of (stmt.Update table sets asked) = table
table_of (stmt.Delete table asked) = table
table_of (stmt.Select table asked) = table

-- ---- each named column is the table's

abbrev pub is_column : TableDef → List ℕ → Bool
is_column def name = is_some (place_of def name)

abbrev pub knows_term : TableDef → Term → Bool
knows_term def (term.Lit literal) = true
knows_term def (term.Column name) = is_column def name

abbrev pub knows_part : TableDef → Sign × Term → Bool
knows_part def part = knows_term def part.1

abbrev pub knows_set : TableDef → Set → Bool
knows_set def s = is_column def s.0 && (knows_term def s.1.first && list_all (knows_part def) s.1.rest)

abbrev pub knows_condition : TableDef → Condition → Bool
knows_condition def (condition.Cmp column test literal) = is_column def column
knows_condition def (condition.And left right) = knows_condition def left && knows_condition def right
knows_condition def (condition.Or left right) = knows_condition def left && knows_condition def right
knows_condition def (condition.Not inner) = knows_condition def inner

abbrev pub knows_columns : TableDef → Stmt → Bool
knows_columns def (stmt.Insert table columns tuples) = list_all (is_column def) columns
knows_columns def (stmt.Update table sets asked) = list_all (knows_set def) sets && passes (knows_condition def) asked
knows_columns def (stmt.Delete table asked) = passes (knows_condition def) asked
knows_columns def (stmt.Select table asked) = passes (knows_condition def) asked

-- ---- an INSERT names each column once and its tuples have as many values; an UPDATE sets no column twice

-- how often a name stands among others
abbrev pub times : List (List ℕ) → List ℕ → ℕ
times names name = count_by (same_text name) names

abbrev pub is_once : List (List ℕ) → List ℕ → Bool
is_once names name = times names name == 1

abbrev pub name_of : Column → List ℕ
name_of column = column.0

abbrev pub has_length : ℕ → List Value → Bool
has_length count tuple = length tuple == count

abbrev pub set_name : Set → List ℕ
set_name s = s.0

abbrev pub fills_columns : TableDef → Stmt → Bool
fills_columns def (stmt.Insert table columns tuples) =
    list_all (is_once columns) (map name_of def.columns) && list_all (has_length (length columns)) tuples
fills_columns def (stmt.Update table sets asked) = list_all (is_once (map set_name sets)) (map set_name sets)
fills_columns def _ = true

-- ---- an UPDATE leaves the key columns

-- whether a column is there and has this place
abbrev pub is_place : ℕ → Option ℕ → Bool
is_place key None = false
is_place key (Some place) = place == key

-- whether it is one of these places
abbrev pub is_among : List ℕ → Option ℕ → Bool
is_among keys None = false
is_among keys (Some place) = list_any (λ key. place == key) keys

abbrev pub is_key_column : TableDef → List ℕ → Bool
is_key_column def name = is_among def.key (place_of def name)

abbrev pub sets_key : TableDef → Set → Bool
sets_key def s = is_key_column def s.0

abbrev pub leaves_key : TableDef → Stmt → Bool
leaves_key def (stmt.Update table sets asked) = not (list_any (sets_key def) sets)
leaves_key def _ = true

-- ---- literals, inserted values and set expressions have their column's type

abbrev pub type_of : Value → ColType
type_of (value.Int n) = type.Int
type_of (value.Text text) = type.Text

abbrev pub type_name : Column → ColType
type_name column = column.1

-- the type that the table gives to a column of this name, if it has one
abbrev pub column_type : TableDef → List ℕ → Option ColType
column_type def name = option_map type_name (find (has_name name) def.columns)

-- whether both are there and one
abbrev pub same_type : Option ColType → Option ColType → Bool
same_type (Some type.Int) (Some type.Int) = true
same_type (Some type.Text) (Some type.Text) = true
same_type _ _ = false

-- whether a value has the type of a column, which has to be the table's
abbrev pub fits_column : TableDef → List ℕ → Value → Bool
fits_column def name found = same_type (column_type def name) (Some (type_of found))

-- the type of a literal, or of a column, if the table has that
abbrev pub term_type : TableDef → Term → Option ColType
term_type def (term.Lit literal) = Some (type_of literal)
term_type def (term.Column name) = column_type def name

abbrev pub is_number : TableDef → Term → Bool
is_number def part = same_type (term_type def part) (Some type.Int)

abbrev pub is_number_part : TableDef → Sign × Term → Bool
is_number_part def part = is_number def part.1

-- an expression with a sign is of numbers alone; a lone term has its own type
abbrev pub sum_fits : TableDef → Option ColType → Term → List (Sign × Term) → Bool
sum_fits def wanted first [] = same_type wanted (term_type def first)
sum_fits def wanted first (s ∷ ss) =
    same_type wanted (Some type.Int) && (is_number def first && list_all (is_number_part def) (s ∷ ss))

-- whether an expression has the type of the column that is set to it
abbrev pub fits_set : TableDef → Set → Bool
fits_set def s = sum_fits def (column_type def s.0) s.1.first s.1.rest

abbrev pub fits_condition : TableDef → Condition → Bool
fits_condition def (condition.Cmp column test literal) = fits_column def column literal
fits_condition def (condition.And left right) = fits_condition def left && fits_condition def right
fits_condition def (condition.Or left right) = fits_condition def left && fits_condition def right
fits_condition def (condition.Not inner) = fits_condition def inner

abbrev pub fits_named : TableDef → List ℕ × Value → Bool
fits_named def pair = fits_column def pair.0 pair.1

-- whether each value of a tuple is of the type of the column for which it stands
abbrev pub fits_tuple : TableDef → List (List ℕ) → List Value → Bool
fits_tuple def columns tuple = list_all (fits_named def) (zip columns tuple)

abbrev pub has_types : TableDef → Stmt → Bool
has_types def (stmt.Insert table columns tuples) = list_all (fits_tuple def columns) tuples
has_types def (stmt.Update table sets asked) = list_all (fits_set def) sets && passes (fits_condition def) asked
has_types def (stmt.Delete table asked) = passes (fits_condition def) asked
has_types def (stmt.Select table asked) = passes (fits_condition def) asked
