-- The pieces of a readable statement are good.
use Rattle.std.proofs.Common.{ℕ, Bool, true, false, List, [], ◌∷◌, ◌++◌, Option, Some, None}
use Rattle.std.specs.Prelude.{◌||◌}
use Rattle.std.specs.List.{AllByRecursion, flat_map}
use Rattle.seata_types.specs.declared.rows.Value.{Value}
use Rattle.seata_types.specs.declared.rows.Value.TheVariants as value
use Rattle.seata_types.specs.declared.statements.Term.{Term}
use Rattle.seata_types.specs.declared.statements.Term.TheVariants as part
use Rattle.seata_types.specs.declared.statements.Sign.{Sign}
use Rattle.seata_types.specs.declared.statements.Expr.{Expr}
use Rattle.seata_types.specs.declared.statements.Stmt.{Stmt}
use Rattle.seata_types.specs.declared.statements.Stmt.TheVariants as stmt
use Rattle.seata_types.specs.Condition.{Condition}
use Rattle.seata_types.specs.Condition as tree
use Rattle.sql_reader.specs.declared.symbols.Symbol.TheVariants as symbol
use Rattle.sql_reader.specs.Canonical.{Piece, Fixed, Name, value_piece, term_piece, sign_of, comma_separated, expr_pieces, assignment_pieces, tuple_pieces, is_or, is_and, grouped, condition_pieces, filter_pieces, pieces}
use Rattle.sql_reader.specs.Readable.{IsName, IsLiteral, IsTerm, IsExpr, IsAssignment, OneOrMore, HasReadableParts, IsFilter, IsReadable}
use Rattle.sql_reader.proofs.PieceTokens.{IsGood}

abbrev AreGood : List Piece → Type 0
AreGood = AllByRecursion IsGood

good-append : (ps qs : List Piece) → AreGood ps → AreGood qs → AreGood (ps ++ qs)
good-append [] qs first second = second
good-append (p ∷ ps) qs first second = (first.0, good-append ps qs first.1 second)

literal-good : (v : Value) → IsLiteral v → IsGood (value_piece v)
literal-good (value.Int z) is = is
literal-good (value.Text t) is = is

term-good : (t : Term) → IsTerm t → IsGood (term_piece t)
term-good (part.Lit v) is = literal-good v is
term-good (part.Column n) is = is

terms-good : (ts : List (Sign × Term)) → AllByRecursion (λ t. IsTerm t.1) ts → AreGood (flat_map (λ t. Fixed (sign_of t.0) ∷ term_piece t.1 ∷ []) ts)
terms-good [] are = tt
terms-good (t ∷ ts) are = (tt, (term-good t.1 are.0, terms-good ts are.1))

expr-good : (e : Expr) → IsExpr e → AreGood (expr_pieces e)
unfolding expr_pieces
expr-good e is = (term-good e.first is.0, terms-good e.rest is.1)

behind-good : {A : Type 0} (Good : A → Type 0) (item : A → List Piece) → ((x : A) → Good x → AreGood (item x)) → (xs : List A) → AllByRecursion Good xs
    → AreGood (flat_map (λ y. Fixed symbol.Comma ∷ item y) xs)
behind-good Good item each [] are = tt
behind-good Good item each (x ∷ xs) are = (tt, good-append (item x) (flat_map (λ y. Fixed symbol.Comma ∷ item y) xs) (each x are.0) (behind-good Good item each xs are.1))

listed-good : {A : Type 0} (Good : A → Type 0) (item : A → List Piece) → ((x : A) → Good x → AreGood (item x)) → (xs : List A) → OneOrMore Good xs → AreGood (comma_separated item xs)
listed-good Good item each [] some = tt
listed-good Good item each (x ∷ xs) some = good-append (item x) (flat_map (λ y. Fixed symbol.Comma ∷ item y) xs) (each x some.0) (behind-good Good item each xs some.1)

tuple-good : (vs : List Value) → OneOrMore IsLiteral vs → AreGood (tuple_pieces vs)
unfolding tuple_pieces
tuple-good vs are = (tt, good-append (comma_separated (λ v. value_piece v ∷ []) vs) (Fixed symbol.Close ∷ []) (listed-good IsLiteral (λ v. value_piece v ∷ []) (λ v is. (literal-good v is, tt)) vs are) (tt, tt))

assignment-good : (s : List ℕ × Expr) → (IsName s.0 × IsExpr s.1) → AreGood (assignment_pieces s)
unfolding assignment_pieces
assignment-good s is = (is.0, (tt, expr-good s.1 is.1))

grouped-good : (b : Bool) (ps : List Piece) → AreGood ps → AreGood (grouped b ps)
grouped-good true ps are = (tt, good-append ps (Fixed symbol.Close ∷ []) are (tt, tt))
grouped-good false ps are = are

condition-good : (c : Condition) → HasReadableParts c → AreGood (condition_pieces c)
unfolding condition_pieces
condition-good (tree.Cmp column test compared) is = (is.0, (tt, (literal-good compared is.1, tt)))
condition-good (tree.And left right) is =
    good-append (grouped (is_or left) (condition_pieces left)) (Fixed symbol.And ∷ grouped (is_or right || is_and right) (condition_pieces right))
    (grouped-good (is_or left) (condition_pieces left) (condition-good left is.0)) (tt, grouped-good (is_or right || is_and right) (condition_pieces right) (condition-good right is.1))
condition-good (tree.Or left right) is =
    good-append (condition_pieces left) (Fixed symbol.Or ∷ grouped (is_or right) (condition_pieces right))
    (condition-good left is.0) (tt, grouped-good (is_or right) (condition_pieces right) (condition-good right is.1))
condition-good (tree.Not inner) is = (tt, grouped-good (is_or inner || is_and inner) (condition_pieces inner) (condition-good inner is))

filter-good : (c : Option Condition) → IsFilter c → AreGood (filter_pieces c)
unfolding filter_pieces
filter-good None is = tt
filter-good (Some c) is = (tt, condition-good c is.0)

pub pieces-good : (s : Stmt) → IsReadable s → AllByRecursion IsGood (pieces s)
unfolding pieces IsReadable
pieces-good (stmt.Insert table columns rows) is =
    let values = listed-good (OneOrMore IsLiteral) tuple_pieces tuple-good rows is.2 in
    let names = listed-good IsName (λ c. Name c ∷ []) (λ n named. (named, tt)) columns is.1 in
    let lists = good-append (comma_separated (λ c. Name c ∷ []) columns) (Fixed symbol.Close ∷ Fixed symbol.Values ∷ comma_separated tuple_pieces rows) names (tt, (tt, values)) in
    (tt, (tt, (is.0, (tt, lists))))
pieces-good (stmt.Update table sets c) is =
    let sets_good = listed-good IsAssignment assignment_pieces assignment-good sets is.1 in
    (tt, (is.0, (tt, good-append (comma_separated assignment_pieces sets) (filter_pieces c) sets_good (filter-good c is.2))))
pieces-good (stmt.Delete table c) is = (tt, (tt, (is.0, filter-good c is.1)))
pieces-good (stmt.Select table c) is =
    (tt, (tt, (tt, (is.0, good-append (filter_pieces c) (Fixed symbol.For ∷ Fixed symbol.Update ∷ []) (filter-good c is.1) (tt, (tt, tt))))))
