-- What a statement is written with costs no more than what it was read from, at any prices.
use Rattle.std.proofs.Common.{◌≡◌, ◌≤◌, ℕ, zero, suc, ◌+◌, ◌^◌, Bool, true, false, cond, List, [], ◌∷◌, ◌++◌, length, Option, Some, None, Ok, Err, refl, arith}
use Rattle.std.specs.Prelude.{◌||◌, nat_le, nat_lt, ℤ, pos, neg_ℤ}
use Rattle.std.specs.List.{flat_map}
use Rattle.seata_types.specs.declared.limits.TheConstants.{NESTING}
use Rattle.seata_types.specs.declared.statements.Sign.{Sign}
use Rattle.seata_types.specs.declared.statements.Stmt.{Stmt}
use Rattle.seata_types.specs.declared.statements.Stmt.TheVariants as stmt
use Rattle.seata_types.specs.declared.statements.Term.{Term}
use Rattle.seata_types.specs.declared.statements.Term.TheVariants as part
use Rattle.seata_types.specs.Condition.{Condition}
use Rattle.seata_types.specs.Condition as tree
use Rattle.sql_reader.specs.declared.errors.SqlKind.TheVariants as kind
use Rattle.sql_reader.specs.declared.symbols.Symbol.{Symbol}
use Rattle.sql_reader.specs.declared.symbols.Symbol.TheVariants as symbol
use Rattle.sql_reader.specs.declared.tokens.Token.{Token}
use Rattle.sql_reader.specs.declared.tokens.Token.TheVariants as token
use Rattle.sql_reader.specs.Answer.{answer, reading}
use Rattle.sql_reader.specs.Canonical.{Piece, Fixed, Name, Number, Quoted, value_piece, term_piece, sign_of, op_symbol, comma_separated, expr_pieces, assignment_pieces, tuple_pieces, is_or, is_and, grouped, condition_pieces, filter_pieces, pieces}
use Rattle.sql_reader.specs.Grammar as g
use Rattle.sql_reader.specs.Lexing.{tokens}
use Rattle.sql_reader.specs.Parsing.{Outcome, Parser, ◌>>=◌, pure, sees, end, refused}
use Rattle.statement_laws.proofs.Payments.{total, Within, within-more, Pays, bind, done, eat-pays, choice, weaken, behind_symbol, repeated-pays}

-- each piece costs at most what is paid for the tokens that it is read from
pub record ArePrices (paid : Token → ℕ) (cost : Piece → ℕ) : Type 0 where
  pub of_symbol : (s : Symbol) → cost (Fixed s) ≤ paid (token.Symbol s)
  pub of_name : (n : List ℕ) → cost (Name n) ≤ paid (token.Name n)
  pub of_text : (t : List ℕ) → cost (Quoted t) ≤ paid (token.Quoted t)
  pub of_number : (n : ℕ) → cost (Number (pos n)) ≤ paid (token.Number n)
  pub of_negative : (n : ℕ) → cost (Number (neg_ℤ (pos n))) ≤ paid (token.Symbol symbol.Minus) + paid (token.Number n)

-- ---- what lists cost

total-append : {A : Type 0} (price : A → ℕ) (xs ys : List A) → total price (xs ++ ys) ≡ total price xs + total price ys
total-append price [] ys = omega arith
total-append price (x ∷ xs) ys = omega (arith, total-append price xs ys)

total-flat_map : {A B : Type 0} (price : B → ℕ) (item : A → List B) (xs : List A) → total price (flat_map item xs) ≡ total (λ x. total price (item x)) xs
total-flat_map price item [] = refl
total-flat_map price item (x ∷ xs) = omega (arith, total-append price (item x) (flat_map item xs), total-flat_map price item xs)

module _ (paid : Token → ℕ) (cost : Piece → ℕ) (prices : ArePrices paid cost) where
  -- ---- names, literals and terms

  name-pays : Pays paid 0 (λ n. cost (Name n)) g.name
  unfolding g.name
  name-pays = record { pays = by_token }
    where
      by_token : (ts : List Token) → Within paid (λ x. cost (Name x)) (0 + total paid ts) (g.name ts)
      by_token (token.Name n ∷ ts) = omega (arith, prices.of_name n)
      by_token _ = tt

  in_range-within : (b : Bool) (z : ℤ) (begun ts : List Token) (most : ℕ) → cost (Number z) + total paid ts ≤ most → Within paid (λ v. cost (value_piece v)) most (g.in_range b z begun ts)
  in_range-within true z begun ts most few = few
  in_range-within false z begun ts most few = tt

  negative-within : (begun ts : List Token) → Within paid (λ v. cost (value_piece v)) (0 + total paid (token.Symbol symbol.Minus ∷ ts)) (g.negative begun ts)
  negative-within begun (token.Number n ∷ ts) = in_range-within (nat_le n (2 ^ 63)) (neg_ℤ (pos n)) begun ts _ (omega (arith, prices.of_negative n))
  negative-within begun _ = tt

  literal-pays : Pays paid 0 (λ v. cost (value_piece v)) g.literal
  unfolding g.literal
  literal-pays = record { pays = by_token }
    where
      by_token : (ts : List Token) → Within paid (λ x. cost (value_piece x)) (0 + total paid ts) (g.literal ts)
      by_token (token.Number n ∷ ts) = in_range-within (nat_lt n (2 ^ 63)) (pos n) (token.Number n ∷ ts) ts _ (omega (arith, prices.of_number n))
      by_token (token.Symbol symbol.Minus ∷ ts) = negative-within (token.Symbol symbol.Minus ∷ ts) ts
      by_token (token.Quoted t ∷ ts) = omega (arith, prices.of_text t)
      by_token _ = tt

  lit-pays : Pays paid 0 (λ t. cost (term_piece t)) (g.literal >>= (λ found. pure (part.Lit found)))
  lit-pays = bind literal-pays (λ found. done (part.Lit found) (omega arith))

  term-pays : Pays paid 0 (λ t. cost (term_piece t)) g.term
  unfolding g.term
  term-pays = record { pays = by_token }
    where
      by_token : (ts : List Token) → Within paid (λ x. cost (term_piece x)) (0 + total paid ts) (g.term ts)
      by_token (token.Name n ∷ ts) = omega (arith, prices.of_name n)
      by_token ts = lit-pays.pays ts

  -- ---- sums

  -- a sign, if one stands next
  abbrev sign_price : Option Sign → ℕ
  sign_price None = 0
  sign_price (Some sign) = cost (Fixed (sign_of sign))

  -- a sign and its term
  abbrev signed_price : Sign × Term → ℕ
  signed_price t = total cost (Fixed (sign_of t.0) ∷ term_piece t.1 ∷ [])

  sign-pays : Pays paid 0 sign_price g.plus_or_minus
  unfolding g.plus_or_minus
  sign-pays = record { pays = by_token }
    where
      by_token : (ts : List Token) → Within paid (λ x. sign_price x) (0 + total paid ts) (g.plus_or_minus ts)
      by_token (token.Symbol symbol.Plus ∷ ts) = omega (arith, prices.of_symbol symbol.Plus)
      by_token (token.Symbol symbol.Minus ∷ ts) = omega (arith, prices.of_symbol symbol.Minus)
      by_token ts = omega arith

  behind-pays : (go_on : List (Sign × Term) → Parser (List (Sign × Term))) (found : List (Sign × Term))
      → ((more : List (Sign × Term)) → Pays paid (total signed_price more) (total signed_price) (go_on more))
      → (next : Option Sign) → Pays paid (total signed_price found + sign_price next) (total signed_price) (g.more_behind go_on found next)
  behind-pays go_on found later None = done found (omega arith)
  behind-pays go_on found later (Some sign) =
      bind term-pays (λ next. weaken (omega (arith, total-append signed_price found ((sign, next) ∷ []))) (later (found ++ (sign, next) ∷ [])))

  terms-pay : (n : ℕ) (found : List (Sign × Term)) → Pays paid (total signed_price found) (total signed_price) (g.more_terms n found)
  unfolding g.more_terms
  terms-pay zero found = done found (omega arith)
  terms-pay (suc n) found = bind sign-pays (behind-pays (g.more_terms n) found (terms-pay n))

  expr-pays : Pays paid 0 (λ e. total cost (expr_pieces e)) g.expr
  unfolding g.expr expr_pieces
  expr-pays =
      bind term-pays (λ first.
      bind {w = total signed_price} (record { pays = λ ts. (terms-pay (length ts) []).pays ts }) (λ rest.
      done (record { first = first; rest = rest }) (omega (arith, total-flat_map cost (λ (t : Sign × Term). Fixed (sign_of t.0) ∷ term_piece t.1 ∷ []) rest))))

  -- ---- comparisons

  operator-pays : Pays paid 0 (λ o. cost (Fixed (op_symbol o))) g.operator
  unfolding g.operator
  operator-pays = record { pays = by_token }
    where
      by_symbol : (s : Symbol) (ts : List Token)
          → Within paid (λ o. cost (Fixed (op_symbol o))) (0 + total paid (token.Symbol s ∷ ts)) (g.operator_by (g.op_of s) (token.Symbol s ∷ ts) ts)
      by_symbol symbol.Equal ts = omega (arith, prices.of_symbol symbol.Equal)
      by_symbol symbol.NotEqual ts = omega (arith, prices.of_symbol symbol.NotEqual)
      by_symbol symbol.Less ts = omega (arith, prices.of_symbol symbol.Less)
      by_symbol symbol.LessOrEqual ts = omega (arith, prices.of_symbol symbol.LessOrEqual)
      by_symbol symbol.Greater ts = omega (arith, prices.of_symbol symbol.Greater)
      by_symbol symbol.GreaterOrEqual ts = omega (arith, prices.of_symbol symbol.GreaterOrEqual)
      by_symbol _ ts = tt

      by_token : (ts : List Token) → Within paid (λ x. cost (Fixed (op_symbol x))) (0 + total paid ts) (g.operator ts)
      by_token (token.Symbol s ∷ ts) = by_symbol s ts
      by_token _ = tt

  -- ---- conditions

  -- as a fact, as a conjunction, and whole
  abbrev fact_price : Condition → ℕ
  fact_price c = total cost (grouped (is_or c || is_and c) (condition_pieces c))

  abbrev conjunction_price : Condition → ℕ
  conjunction_price c = total cost (grouped (is_or c) (condition_pieces c))

  abbrev whole_price : Condition → ℕ
  whole_price c = total cost (condition_pieces c)

  total-grouped : (ps : List Piece) → total cost (grouped true ps) ≡ cost (Fixed symbol.Open) + total cost ps + cost (Fixed symbol.Close)
  total-grouped ps = omega (arith, total-append cost ps (Fixed symbol.Close ∷ []))

  -- with parentheses round them pieces cost no less, and at most two tokens more
  grouped-least : (b : Bool) (ps : List Piece) → total cost ps ≤ total cost (grouped b ps)
  grouped-least true ps = omega (arith, total-grouped ps)
  grouped-least false ps = omega arith

  grouped-most : (b : Bool) (ps : List Piece) → total cost (grouped b ps) ≤ paid (token.Symbol symbol.Open) + total cost ps + paid (token.Symbol symbol.Close)
  grouped-most true ps = omega (arith, total-grouped ps, prices.of_symbol symbol.Open, prices.of_symbol symbol.Close)
  grouped-most false ps = omega arith

  or-least : (a b : Bool) (ps : List Piece) → total cost (grouped a ps) ≤ total cost (grouped (a || b) ps)
  or-least true b ps = omega arith
  or-least false b ps = grouped-least b ps

  comparison-pays : Pays paid 0 fact_price g.comparison
  unfolding g.comparison condition_pieces
  comparison-pays =
      bind name-pays (λ column. bind operator-pays (λ test. bind literal-pays (λ compared. done (tree.Cmp column test compared) (omega arith))))

  conjunction-pays : (fact : Parser Condition) → Pays paid 0 fact_price fact → Pays paid 0 conjunction_price (g.conjunction fact)
  unfolding g.conjunction condition_pieces
  conjunction-pays fact is = repeated-pays (λ c. c) tree.And symbol.And is (λ c. or-least (is_or c) (is_and c) (condition_pieces c)) (λ left right. omega (
    arith,
    total-append cost (grouped (is_or left) (condition_pieces left)) (Fixed symbol.And ∷ grouped (is_or right || is_and right) (condition_pieces right)),
    prices.of_symbol symbol.And,
  ))

  disjunction-pays : (fact : Parser Condition) → Pays paid 0 fact_price fact → Pays paid 0 whole_price (g.disjunction fact)
  unfolding g.disjunction condition_pieces
  disjunction-pays fact is = repeated-pays (λ c. c) tree.Or symbol.Or (conjunction-pays fact is) (λ c. grouped-least (is_or c) (condition_pieces c)) (λ left right. omega (
    arith,
    total-append cost (condition_pieces left) (Fixed symbol.Or ∷ grouped (is_or right) (condition_pieces right)),
    prices.of_symbol symbol.Or,
  ))

  innermost-pays : Pays paid 0 fact_price g.innermost
  unfolding g.innermost
  innermost-pays = record {
    pays = λ ts.
        elim (sees symbol.Not ts || sees symbol.Open ts) as (λ b. Within paid fact_price (0 + total paid ts) (cond b (refused kind.Depth ts) (g.comparison ts))) [
          | true ↦ tt
          | false ↦ comparison-pays.pays ts
        ];
  }

  fact-pays : (room : ℕ) → Pays paid 0 fact_price (g.fact room)
  unfolding g.fact condition_pieces
  fact-pays zero = innermost-pays
  fact-pays (suc room) =
      bind (eat-pays symbol.Not) (λ is_not.
      choice symbol.Not is_not (bind (fact-pays room) (λ c. done (tree.Not c) (omega (arith, prices.of_symbol symbol.Not))))
      (bind (eat-pays symbol.Open) (λ is_open.
      choice symbol.Open is_open (bind (disjunction-pays (g.fact room) (fact-pays room)) (λ c. behind_symbol symbol.Close (done c (omega (arith, grouped-most (is_or c || is_and c) (condition_pieces c)))))) comparison-pays)))

  filter-pays : Pays paid 0 (λ c. total cost (filter_pieces c)) g.filter
  unfolding g.filter g.cond filter_pieces
  filter-pays =
      bind (eat-pays symbol.Where) (λ is_there.
      choice symbol.Where is_there (bind (disjunction-pays (g.fact NESTING) (fact-pays NESTING)) (λ c. done (Some c) (omega (arith, prices.of_symbol symbol.Where)))) (done None (omega arith)))

  -- ---- lists

  comma-append : {A : Type 0} (item : A → List Piece) (xs : List A) (x : A)
      → total cost (comma_separated item (xs ++ x ∷ [])) ≤ total cost (comma_separated item xs) + paid (token.Symbol symbol.Comma) + total cost (item x)
  comma-append item [] x = omega (arith, total-append cost (item x) [])
  comma-append item (y ∷ ys) x = omega (
    arith,
    prices.of_symbol symbol.Comma,
    total-append cost (item y) (flat_map (λ z. Fixed symbol.Comma ∷ item z) (ys ++ x ∷ [])),
    total-append cost (item y) (flat_map (λ z. Fixed symbol.Comma ∷ item z) ys),
    total-flat_map cost (λ z. Fixed symbol.Comma ∷ item z) (ys ++ x ∷ []),
    total-flat_map cost (λ z. Fixed symbol.Comma ∷ item z) ys,
    total-append (λ z. cost (Fixed symbol.Comma) + total cost (item z)) ys (x ∷ []),
  )

  listed-pays : {A : Type 0} {w : A → ℕ} {p : Parser A} (item : A → List Piece) → ((x : A) → total cost (item x) ≤ w x) → Pays paid 0 w p
      → Pays paid 0 (λ xs. total cost (comma_separated item xs)) (g.listed p)
  listed-pays item each is =
      repeated-pays (λ x. x ∷ []) (λ xs x. xs ++ x ∷ []) symbol.Comma is (λ x. omega (arith, each x, total-append cost (item x) [])) (λ xs x. omega (arith, each x, comma-append item xs x))

  names-pay : Pays paid 0 (λ ns. total cost (comma_separated (λ n. Name n ∷ []) ns)) g.names
  unfolding g.names
  names-pay = listed-pays (λ n. Name n ∷ []) (λ n. omega arith) name-pays

  literals-pay : Pays paid 0 (λ vs. total cost (comma_separated (λ v. value_piece v ∷ []) vs)) g.literals
  unfolding g.literals
  literals-pay = listed-pays (λ v. value_piece v ∷ []) (λ v. omega arith) literal-pays

  tuple-pays : Pays paid 0 (λ vs. total cost (tuple_pieces vs)) g.tuple
  unfolding g.tuple tuple_pieces
  tuple-pays = behind_symbol symbol.Open (bind literals-pay (λ values. behind_symbol symbol.Close (done values (omega (
    arith,
    prices.of_symbol symbol.Open,
    prices.of_symbol symbol.Close,
    total-append cost (comma_separated (λ v. value_piece v ∷ []) values) (Fixed symbol.Close ∷ []),
  )))))

  tuples-pay : Pays paid 0 (λ rows. total cost (comma_separated tuple_pieces rows)) g.tuples
  unfolding g.tuples
  tuples-pay = listed-pays tuple_pieces (λ values. omega arith) tuple-pays

  assignment-pays : Pays paid 0 (λ s. total cost (assignment_pieces s)) g.assignment
  unfolding g.assignment assignment_pieces
  assignment-pays = bind name-pays (λ column. behind_symbol symbol.Equal (bind expr-pays (λ found. done (column, found) (omega (arith, prices.of_symbol symbol.Equal)))))

  -- ---- statements

  insert-pays : Pays paid (paid (token.Symbol symbol.Insert)) (λ s. total cost (pieces s)) g.insert
  unfolding g.insert pieces
  insert-pays =
      behind_symbol symbol.Into (bind name-pays (λ table.
      behind_symbol symbol.Open (bind names-pay (λ columns.
      behind_symbol symbol.Close (behind_symbol symbol.Values (bind tuples-pay (λ rows.
      done (stmt.Insert table columns rows) (omega (
        arith,
        prices.of_symbol symbol.Insert,
        prices.of_symbol symbol.Into,
        prices.of_symbol symbol.Open,
        prices.of_symbol symbol.Close,
        prices.of_symbol symbol.Values,
        total-append cost (comma_separated (λ c. Name c ∷ []) columns) (Fixed symbol.Close ∷ Fixed symbol.Values ∷ comma_separated tuple_pieces rows),
      )))))))))

  update-pays : Pays paid (paid (token.Symbol symbol.Update)) (λ s. total cost (pieces s)) g.update
  unfolding g.update g.assignments pieces
  update-pays =
      bind name-pays (λ table.
      behind_symbol symbol.Set (bind (listed-pays assignment_pieces (λ s. omega arith) assignment-pays) (λ sets.
      bind filter-pays (λ c.
      done (stmt.Update table sets c) (omega (
        arith,
        prices.of_symbol symbol.Update,
        prices.of_symbol symbol.Set,
        total-append cost (comma_separated assignment_pieces sets) (filter_pieces c),
      ))))))

  delete-pays : Pays paid (paid (token.Symbol symbol.Delete)) (λ s. total cost (pieces s)) g.delete
  unfolding g.delete pieces
  delete-pays =
      behind_symbol symbol.From (bind name-pays (λ table.
      bind filter-pays (λ c. done (stmt.Delete table c) (omega (arith, prices.of_symbol symbol.Delete, prices.of_symbol symbol.From)))))

  select-pays : Pays paid (paid (token.Symbol symbol.Select)) (λ s. total cost (pieces s)) g.select
  unfolding g.select pieces
  select-pays =
      behind_symbol symbol.Star (behind_symbol symbol.From (bind name-pays (λ table.
      bind filter-pays (λ c.
      behind_symbol symbol.For (behind_symbol symbol.Update (done (stmt.Select table c) (omega (
        arith,
        prices.of_symbol symbol.Select,
        prices.of_symbol symbol.Star,
        prices.of_symbol symbol.From,
        prices.of_symbol symbol.For,
        prices.of_symbol symbol.Update,
        total-append cost (filter_pieces c) (Fixed symbol.For ∷ Fixed symbol.Update ∷ []),
      ))))))))

  body-pays : Pays paid 0 (λ s. total cost (pieces s)) g.body
  unfolding g.body
  body-pays = record { pays = by_token }
    where
      by_token : (ts : List Token) → Within paid (λ x. total cost (pieces x)) (0 + total paid ts) (g.body ts)
      by_token (token.Symbol symbol.Insert ∷ ts) = within-more paid (λ s. total cost (pieces s)) _ _ (g.insert ts) (omega arith) (insert-pays.pays ts)
      by_token (token.Symbol symbol.Update ∷ ts) = within-more paid (λ s. total cost (pieces s)) _ _ (g.update ts) (omega arith) (update-pays.pays ts)
      by_token (token.Symbol symbol.Delete ∷ ts) = within-more paid (λ s. total cost (pieces s)) _ _ (g.delete ts) (omega arith) (delete-pays.pays ts)
      by_token (token.Symbol symbol.Select ∷ ts) = within-more paid (λ s. total cost (pieces s)) _ _ (g.select ts) (omega arith) (select-pays.pays ts)
      by_token _ = tt

  end-pays : Pays paid 0 (λ _. 0) end
  unfolding end
  end-pays = record { pays = by_token }
    where
      by_token : (ts : List Token) → Within paid (λ x. 0) (0 + total paid ts) (end ts)
      by_token [] = omega arith
      by_token (t ∷ ts) = tt

  statement-pays : Pays paid 0 (λ s. total cost (pieces s)) g.statement
  unfolding g.statement
  statement-pays = bind body-pays (λ s. bind (eat-pays symbol.Semicolon) (λ _. bind end-pays (λ _. done s (omega arith))))

  -- an answer that is a statement was read from all the tokens
  by-outcome : (text : List ℕ) (s : Stmt) (most : ℕ) (o : Outcome Stmt) → Within paid (λ t. total cost (pieces t)) (0 + most) o → answer text o ≡ Ok s → total cost (pieces s) ≤ most
  by-outcome text s most (Ok found) few is = let same : found.0 ≡ s = cc in rw (← same) (omega (arith, few))
  by-outcome text s most (Err refusal) few is = cc

  -- a statement costs no more than the text that reads as it
  pub reading-pays : (text : List ℕ) (s : Stmt) → reading text ≡ Ok s → total cost (pieces s) ≤ total paid (tokens text)
  unfolding reading
  reading-pays text s is = by-outcome text s (total paid (tokens text)) (g.statement (tokens text)) (statement-pays.pays (tokens text)) is
