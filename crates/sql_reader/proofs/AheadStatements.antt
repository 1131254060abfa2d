-- Statements are read from their pieces.
use Rattle.std.proofs.Common.{◌≡◌, ℕ, Bool, false, List, [], ◌∷◌, ◌++◌, Option, Some, None, Ok, refl, ap, ◌∙◌}
use Rattle.std.specs.Prelude.{if◌then◌else◌}
use Rattle.seata_types.specs.declared.rows.Value.{Value}
use Rattle.seata_types.specs.declared.statements.Expr.{Expr}
use Rattle.seata_types.specs.declared.statements.Stmt.{Stmt}
use Rattle.seata_types.specs.declared.statements.Stmt.TheVariants as stmt
use Rattle.seata_types.specs.Condition.{Condition}
use Rattle.sql_reader.specs.declared.symbols.Symbol.TheVariants as symbol
use Rattle.sql_reader.specs.declared.tokens.Token.{Token}
use Rattle.sql_reader.specs.declared.tokens.Token.TheVariants as token
use Rattle.sql_reader.specs.Parsing.{Parser, and_then, ◌>>=◌, pure, same_symbol, sees, past, expect, end}
use Rattle.sql_reader.specs.Grammar as g
use Rattle.sql_reader.specs.Canonical.{Fixed, Name, value_piece, comma_separated, expr_pieces, assignment_pieces, tuple_pieces, condition_pieces, filter_pieces, pieces}
use Rattle.sql_reader.specs.Readable.{IsName, IsLiteral, IsAssignment, OneOrMore, IsFilter, IsReadable}
use Rattle.sql_reader.proofs.Ahead.{ahead, ahead-append, literal-ahead, expr-ahead, NoSign, ReadsBack, listed-ahead, expect-ahead, eat-ahead, eat-other}
use Rattle.sql_reader.proofs.AheadConditions.{cond-ahead}

-- what may stand behind a statement's filter: nothing, or FOR
record Ends (rest : List Token) : Type 0 where
  no_where : sees symbol.Where rest ≡ false
  no_and : sees symbol.And rest ≡ false
  no_or : sees symbol.Or rest ≡ false
  no_comma : sees symbol.Comma rest ≡ false
  no_sign : NoSign rest

nothing-ends : Ends []
unfolding sees g.plus_or_minus
nothing-ends = record { no_where = refl; no_and = refl; no_or = refl; no_comma = refl; no_sign = refl }

for-ends : (rest : List Token) → Ends (token.Symbol symbol.For ∷ rest)
unfolding sees same_symbol g.plus_or_minus
for-ends rest = record { no_where = refl; no_and = refl; no_or = refl; no_comma = refl; no_sign = refl }

-- what stands behind the question whether WHERE stands next
abbrev if_where : Bool → Parser (Option Condition)
if_where is_there = if is_there then (g.cond >>= (λ found. pure (Some found))) else pure None

filter-ahead : (c : Option Condition) (rest : List Token) → IsFilter c → Ends rest → g.filter (ahead (filter_pieces c) rest) ≡ Ok (c, rest)
unfolding g.filter filter_pieces
filter-ahead None rest is ends = eat-other symbol.Where if_where rest ends.no_where
filter-ahead (Some c) rest is ends =
    eat-ahead symbol.Where if_where (ahead (condition_pieces c) rest) ∙ ap (λ o. and_then o (λ found. pure (Some found))) (cond-ahead c rest is ends.no_and ends.no_or)

-- what stands behind the assignments of a statement
filter-begins : (c : Option Condition) → (sees symbol.Comma (ahead (filter_pieces c) []) ≡ false) × NoSign (ahead (filter_pieces c) [])
unfolding filter_pieces sees same_symbol g.plus_or_minus
filter-begins None = (refl, refl)
filter-begins (Some c) = (refl, refl)

-- ---- items

abbrev Always : List Token → Type 0
Always rest = Unit {0}

names-back : ReadsBack IsName Always g.name (λ n. Name n ∷ [])
unfolding g.name
names-back = record { reads = λ n rest is _. refl; comma = λ rest. tt }

literals-back : ReadsBack IsLiteral Always g.literal (λ v. value_piece v ∷ [])
literals-back = record { reads = λ v rest is _. literal-ahead v rest is; comma = λ rest. tt }

close-is_no_comma : (rest : List Token) → sees symbol.Comma (token.Symbol symbol.Close ∷ rest) ≡ false
unfolding sees same_symbol
close-is_no_comma rest = refl

tuple-ahead : (vs : List Value) (rest : List Token) → OneOrMore IsLiteral vs → g.tuple (ahead (tuple_pieces vs) rest) ≡ Ok (vs, rest)
unfolding g.tuple g.literals tuple_pieces
tuple-ahead vs rest are =
    let close = token.Symbol symbol.Close ∷ rest in
    let values = listed-ahead IsLiteral Always g.literal (λ v. value_piece v ∷ []) literals-back vs close are tt (close-is_no_comma rest) in
    expect-ahead symbol.Open _ (ahead (comma_separated (λ v. value_piece v ∷ []) vs ++ Fixed symbol.Close ∷ []) rest)
    ∙ rw (ahead-append (comma_separated (λ v. value_piece v ∷ []) vs) (Fixed symbol.Close ∷ []) rest, values) (expect-ahead symbol.Close (pure vs) rest)

tuples-back : ReadsBack (OneOrMore IsLiteral) Always g.tuple tuple_pieces
tuples-back = record { reads = λ vs rest are _. tuple-ahead vs rest are; comma = λ rest. tt }

comma-is_no_sign : (rest : List Token) → NoSign (token.Symbol symbol.Comma ∷ rest)
unfolding g.plus_or_minus
comma-is_no_sign rest = refl

assignment-ahead : (s : List ℕ × Expr) (rest : List Token) → IsAssignment s → NoSign rest → g.assignment (ahead (assignment_pieces s) rest) ≡ Ok (s, rest)
unfolding g.assignment g.name assignment_pieces
assignment-ahead s rest is none =
    expect-ahead symbol.Equal _ (ahead (expr_pieces s.1) rest) ∙ ap (λ o. and_then o (λ found. pure (s.0, found))) (expr-ahead s.1 rest is.1 none)

assignments-back : ReadsBack IsAssignment NoSign g.assignment assignment_pieces
assignments-back = record { reads = assignment-ahead; comma = comma-is_no_sign }

-- ---- statements

insert-ahead : (table : List ℕ) (columns : List (List ℕ)) (rows : List (List Value)) → OneOrMore IsName columns → OneOrMore (OneOrMore IsLiteral) rows
    → g.body (ahead (pieces (stmt.Insert table columns rows)) []) ≡ Ok (stmt.Insert table columns rows, [])
unfolding g.body g.insert g.name g.names g.tuples pieces sees same_symbol past expect
insert-ahead table columns rows named are =
    let values = ahead (Fixed symbol.Values ∷ comma_separated tuple_pieces rows) [] in
    let split = ahead-append (comma_separated (λ c. Name c ∷ []) columns) (Fixed symbol.Close ∷ Fixed symbol.Values ∷ comma_separated tuple_pieces rows) [] in
    let first = listed-ahead IsName Always g.name (λ c. Name c ∷ []) names-back columns (token.Symbol symbol.Close ∷ values) named tt (close-is_no_comma values) in
    let second = listed-ahead (OneOrMore IsLiteral) Always g.tuple tuple_pieces tuples-back rows [] are tt nothing-ends.no_comma in
    rw (split, first, second) refl

update-ahead : (table : List ℕ) (sets : List (List ℕ × Expr)) (c : Option Condition) → OneOrMore IsAssignment sets → IsFilter c
    → g.body (ahead (pieces (stmt.Update table sets c)) []) ≡ Ok (stmt.Update table sets c, [])
unfolding g.body g.update g.name g.assignments pieces sees same_symbol past expect
update-ahead table sets c are is =
    let last = ahead (filter_pieces c) [] in
    let split = ahead-append (comma_separated assignment_pieces sets) (filter_pieces c) [] in
    let begins = filter-begins c in
    let first = listed-ahead IsAssignment NoSign g.assignment assignment_pieces assignments-back sets last are begins.1 begins.0 in
    let second = filter-ahead c [] is nothing-ends in
    rw (split, first, second) refl

delete-ahead : (table : List ℕ) (c : Option Condition) → IsFilter c → g.body (ahead (pieces (stmt.Delete table c)) []) ≡ Ok (stmt.Delete table c, [])
unfolding g.body g.delete g.name pieces sees same_symbol past expect
delete-ahead table c is = rw (filter-ahead c [] is nothing-ends) refl

select-ahead : (table : List ℕ) (c : Option Condition) → IsFilter c → g.body (ahead (pieces (stmt.Select table c)) []) ≡ Ok (stmt.Select table c, [])
unfolding g.body g.select g.name pieces sees same_symbol past expect
select-ahead table c is =
    let last = token.Symbol symbol.For ∷ token.Symbol symbol.Update ∷ [] in
    rw (ahead-append (filter_pieces c) (Fixed symbol.For ∷ Fixed symbol.Update ∷ []) [], filter-ahead c last is (for-ends (token.Symbol symbol.Update ∷ []))) refl

body-ahead : (s : Stmt) → IsReadable s → g.body (ahead (pieces s) []) ≡ Ok (s, [])
unfolding IsReadable
body-ahead (stmt.Insert table columns rows) is = insert-ahead table columns rows is.1 is.2
body-ahead (stmt.Update table sets c) is = update-ahead table sets c is.1 is.2
body-ahead (stmt.Delete table c) is = delete-ahead table c is.1
body-ahead (stmt.Select table c) is = select-ahead table c is.1

pub statement-ahead : (s : Stmt) → IsReadable s → g.statement (ahead (pieces s) []) ≡ Ok (s, [])
unfolding g.statement sees past end
statement-ahead s is = rw (body-ahead s is) refl
