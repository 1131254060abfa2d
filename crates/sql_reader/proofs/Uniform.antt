-- A production that takes no WHERE does the same before one, whatever follows it.
use Rattle.std.proofs.Common.{◌≡◌, ◌≤◌, ℕ, zero, suc, Bool, true, false, cond, List, [], ◌∷◌, ◌++◌, length, length-append, Option, Some, None, Ok, Err, refl, ◌∙◌, sym, arith}
use Rattle.std.specs.Prelude.{IfOk, ◌||◌, ◌^◌, nat_le, nat_lt, ℤ, pos, neg_ℤ}
use Rattle.seata_types.specs.declared.limits.TheConstants.{NESTING}
use Rattle.seata_types.specs.declared.rows.Value.TheVariants as value
use Rattle.seata_types.specs.declared.statements.Term.{Term}
use Rattle.seata_types.specs.declared.statements.Term.TheVariants as part
use Rattle.seata_types.specs.declared.statements.Sign.{Sign}
use Rattle.seata_types.specs.declared.statements.Sign.TheVariants as sign
use Rattle.seata_types.specs.declared.conditions.Op.{Op}
use Rattle.seata_types.specs.Condition as tree
use Rattle.sql_reader.specs.declared.symbols.Symbol.{Symbol}
use Rattle.sql_reader.specs.declared.symbols.Symbol.TheVariants as symbol
use Rattle.sql_reader.specs.declared.tokens.Token.{Token}
use Rattle.sql_reader.specs.declared.tokens.Token.TheVariants as token
use Rattle.sql_reader.specs.declared.errors.SqlKind.TheVariants as kind
use Rattle.sql_reader.specs.Parsing.{Outcome, Parser, and_then, ◌>>=◌, ◌>>◌, pure, is_symbol, same_symbol, sees, past, eat, expect, end, unexpected, refused, more, repeated}
use Rattle.sql_reader.specs.Grammar as g
use Rattle.sql_reader.proofs.Ahead.{more-stops}

abbrev pub from_where : List Token → List Token
from_where rest = token.Symbol symbol.Where ∷ rest

-- What was found before the WHERE leaves a front of it. With another rest behind the WHERE the outcome is the same.
pub record Goes {A : Type 0} (one two front : List Token) (other : Outcome A) (found : A × List Token) : Type 0 where
  pub left : List Token
  pub shorter : length left ≤ length front
  pub here : found.1 ≡ left ++ from_where one
  pub there : other ≡ Ok (found.0, left ++ from_where two)

abbrev pub Passes : {A : Type 0} → List Token → List Token → List Token → Outcome A → Outcome A → Type 0
Passes one two front o other = IfOk o (Goes one two front other)

pub record Uniform {A : Type 0} (p : Parser A) : Type 0 where
  pub passes : (front one two : List Token) → Passes one two front (p (front ++ from_where one)) (p (front ++ from_where two))

pub longer : {A : Type 0} (one two short long : List Token) (o other : Outcome A) → length short ≤ length long → Passes one two short o other → Passes one two long o other
longer one two short long (Ok found) other most goes = record { left = goes.left; shorter = omega (arith, goes.shorter, most); here = goes.here; there = goes.there }
longer one two short long (Err refusal) other most goes = tt

pub leaves : {A : Type 0} (x : A) (one two left front : List Token) → length left ≤ length front → Passes one two front (Ok (x, left ++ from_where one)) (Ok (x, left ++ from_where two))
leaves x one two left front shorter = record { left = left; shorter = shorter; here = refl; there = refl }

-- one step after another, also where the second isn't the same on both sides
both : {A B : Type 0} (one two front : List Token) (o other : Outcome A) (f h : A → Parser B) → Passes one two front o other
    → ((x : A) (left : List Token) → length left ≤ length front → Passes one two left (f x (left ++ from_where one)) (h x (left ++ from_where two)))
    → Passes one two front (and_then o f) (and_then other h)
both one two front (Err refusal) other f h goes later = tt
both one two front (Ok found) other f h goes later =
    rw (goes.here, goes.there)
    (longer one two goes.left front (f found.0 (goes.left ++ from_where one)) (h found.0 (goes.left ++ from_where two)) goes.shorter (later found.0 goes.left goes.shorter))

pub bind : {A B : Type 0} (p : Parser A) (f : A → Parser B) → Uniform p → ((x : A) → Uniform (f x)) → Uniform (p >>= f)
bind p f first later = record {
  passes = λ front one two.
      both one two front (p (front ++ from_where one)) (p (front ++ from_where two)) f f (first.passes front one two)
      (λ x left _. (later x).passes left one two);
}

pub done : {A : Type 0} (x : A) → Uniform (pure x)
done x = record { passes = λ front one two. leaves x one two front front (omega arith) }

pub choice : {A : Type 0} (b : Bool) (p q : Parser A) → Uniform p → Uniform q → Uniform (cond b p q)
choice true p q first second = first
choice false p q first second = second

-- ---- symbols

abbrev pub is_where : Symbol → Bool
is_where symbol.Where = true
is_where _ = false

pub where-other : (s : Symbol) (rest : List Token) → is_where s ≡ false → sees s (from_where rest) ≡ false
unfolding sees same_symbol
where-other symbol.Where rest other = cc
where-other symbol.Insert rest other = refl
where-other s rest other = refl

pub eat-uniform : (s : Symbol) → is_where s ≡ false → Uniform (eat s)
unfolding past sees
eat-uniform s other = record { passes = by_token }
  where
    by_test : (b : Bool) (t : Token) (front one two : List Token)
        → Passes one two (t ∷ front) (Ok (b, cond b (front ++ from_where one) (t ∷ (front ++ from_where one)))) (Ok (b, cond b (front ++ from_where two) (t ∷ (front ++ from_where two))))
    by_test true t front one two = leaves true one two front (t ∷ front) (omega arith)
    by_test false t front one two = leaves false one two (t ∷ front) (t ∷ front) (omega arith)

    by_token : (front one two : List Token) → Passes one two front (eat s (front ++ from_where one)) (eat s (front ++ from_where two))
    by_token [] one two = rw (where-other s one other) (leaves false one two [] [] (omega arith))
    by_token (t ∷ front) one two = by_test (is_symbol s t) t front one two

pub expect-uniform : (s : Symbol) → is_where s ≡ false → Uniform (expect s)
unfolding expect past sees
expect-uniform s other = record { passes = by_token }
  where
    by_test : (b : Bool) (t : Token) (front one two : List Token)
        → Passes {A = Unit {0}} one two (t ∷ front) (cond b (Ok (tt, cond b (front ++ from_where one) (t ∷ (front ++ from_where one)))) (unexpected (t ∷ (front ++ from_where one))))
        (cond b (Ok (tt, cond b (front ++ from_where two) (t ∷ (front ++ from_where two)))) (unexpected (t ∷ (front ++ from_where two))))
    by_test true t front one two = leaves {A = Unit {0}} tt one two front (t ∷ front) (omega arith)
    by_test false t front one two = tt

    by_token : (front one two : List Token) → Passes one two front (expect s (front ++ from_where one)) (expect s (front ++ from_where two))
    by_token [] one two = rw (where-other s one other) tt
    by_token (t ∷ front) one two = by_test (is_symbol s t) t front one two

pub end-uniform : Uniform end
unfolding end
end-uniform = record { passes = by_token }
  where
    by_token : (front one two : List Token) → Passes one two front (end (front ++ from_where one)) (end (front ++ from_where two))
    by_token [] one two = tt
    by_token (t ∷ front) one two = tt

-- ---- repetitions

-- each side has turns enough of its own
more-passes : {A B : Type 0} (s : Symbol) (item : Parser A) (join : B → A → B) → is_where s ≡ false → Uniform item
    → (n m : ℕ) (b : B) (front one two : List Token) → length front ≤ n → length front ≤ m
    → Passes one two front (more s item join n b (front ++ from_where one)) (more s item join m b (front ++ from_where two))
unfolding more past sees
more-passes s item join other is n m b [] one two few few' =
    rw (more-stops s item join n b (from_where one) (where-other s one other), more-stops s item join m b (from_where two) (where-other s two other)) (leaves b one two [] [] (omega arith))
more-passes s item join other is zero m b (t ∷ front) one two few few' = absurd (omega arith)
more-passes s item join other is (suc n) zero b (t ∷ front) one two few few' = absurd (omega arith)
more-passes {A = A} s item join other is (suc n) (suc m) b (t ∷ front) one two few few' =
    by_test (is_symbol s t) (λ x left shorter. more-passes s item join other is n m (join b x) left one two (omega arith) (omega arith))
  where
    by_test : (goes_on : Bool) → ((x : A) (left : List Token) → length left ≤ length front → Passes one two left (more s item join n (join b x) (left ++ from_where one)) (more s item join m (join b x) (left ++ from_where two)))
        → Passes one two (t ∷ front)
        (cond goes_on (item >>= (λ x. more s item join n (join b x))) (pure b) (cond goes_on (front ++ from_where one) (t ∷ (front ++ from_where one))))
        (cond goes_on (item >>= (λ x. more s item join m (join b x))) (pure b) (cond goes_on (front ++ from_where two) (t ∷ (front ++ from_where two))))
    by_test true later =
        longer one two front (t ∷ front) _ _ (omega arith)
        (both one two front (item (front ++ from_where one)) (item (front ++ from_where two)) (λ x. more s item join n (join b x)) (λ x. more s item join m (join b x)) (is.passes front one two) later)
    by_test false later = leaves b one two (t ∷ front) (t ∷ front) (omega arith)

turns-enough : (front rest : List Token) → length front ≤ length (front ++ rest)
turns-enough front rest = omega (arith, length-append front rest)

repeated-uniform : {A B : Type 0} (s : Symbol) (item : Parser A) (first : A → B) (join : B → A → B) → is_where s ≡ false → Uniform item → Uniform (repeated s item first join)
repeated-uniform s item first join other is =
    bind item (λ x. λ ts. more s item join (length ts) (first x) ts) is (λ x. record {
      passes = λ front one two.
          more-passes s item join other is (length (front ++ from_where one)) (length (front ++ from_where two)) (first x) front one two
          (turns-enough front (from_where one)) (turns-enough front (from_where two));
    })

pub listed-uniform : {A : Type 0} (item : Parser A) → Uniform item → Uniform (g.listed item)
listed-uniform item is = repeated-uniform symbol.Comma item (λ x. x ∷ []) (λ xs x. xs ++ x ∷ []) refl is

pub behind_symbol : {A : Type 0} (s : Symbol) (p : Parser A) → is_where s ≡ false → Uniform p → Uniform (expect s >> p)
behind_symbol s p other is = bind (expect s) (λ _. p) (expect-uniform s other) (λ _. is)

-- ---- parts

pub name-uniform : Uniform g.name
unfolding g.name
name-uniform = record { passes = by_token }
  where
    by_token : (front one two : List Token) → Passes one two front (g.name (front ++ from_where one)) (g.name (front ++ from_where two))
    by_token (token.Name n ∷ front) one two = leaves n one two front (token.Name n ∷ front) (omega arith)
    by_token [] one two = tt
    by_token (t ∷ front) one two = tt

in_range-passes : (b : Bool) (z : ℤ) (begun also front long one two : List Token) → length front ≤ length long
    → Passes one two long (g.in_range b z begun (front ++ from_where one)) (g.in_range b z also (front ++ from_where two))
in_range-passes true z begun also front long one two shorter = leaves (value.Int z) one two front long shorter
in_range-passes false z begun also front long one two shorter = tt

negative-passes : (begun also front long one two : List Token) → length front ≤ length long → Passes one two long (g.negative begun (front ++ from_where one)) (g.negative also (front ++ from_where two))
negative-passes begun also (token.Number n ∷ front) long one two shorter = in_range-passes (nat_le n (2 ^ 63)) (neg_ℤ (pos n)) begun also front long one two (omega arith)
negative-passes begun also [] long one two shorter = tt
negative-passes begun also (t ∷ front) long one two shorter = tt

literal-uniform : Uniform g.literal
unfolding g.literal
literal-uniform = record { passes = by_token }
  where
    by_token : (front one two : List Token) → Passes one two front (g.literal (front ++ from_where one)) (g.literal (front ++ from_where two))
    by_token (token.Number n ∷ front) one two =
        in_range-passes (nat_lt n (2 ^ 63)) (pos n) (token.Number n ∷ (front ++ from_where one)) (token.Number n ∷ (front ++ from_where two)) front (token.Number n ∷ front) one two (omega arith)
    by_token (token.Symbol symbol.Minus ∷ front) one two =
        negative-passes (token.Symbol symbol.Minus ∷ (front ++ from_where one)) (token.Symbol symbol.Minus ∷ (front ++ from_where two)) front (token.Symbol symbol.Minus ∷ front) one two (omega arith)
    by_token (token.Quoted t ∷ front) one two = leaves (value.Text t) one two front (token.Quoted t ∷ front) (omega arith)
    by_token [] one two = tt
    by_token (t ∷ front) one two = tt

-- ---- sums

lit-uniform : Uniform (g.literal >>= (λ found. pure (part.Lit found)))
lit-uniform = bind g.literal (λ found. pure (part.Lit found)) literal-uniform (λ found. done (part.Lit found))

term-uniform : Uniform g.term
unfolding g.term
term-uniform = record { passes = by_token }
  where
    by_token : (front one two : List Token) → Passes one two front (g.term (front ++ from_where one)) (g.term (front ++ from_where two))
    by_token (token.Name n ∷ front) one two = leaves (part.Column n) one two front (token.Name n ∷ front) (omega arith)
    by_token [] one two = lit-uniform.passes [] one two
    by_token (t ∷ front) one two = lit-uniform.passes (t ∷ front) one two

signed-passes : (found : List (Sign × Term)) (s : Sign) (t : Token) (f h : List (Sign × Term) → Parser (List (Sign × Term))) (front one two : List Token)
    → ((more : List (Sign × Term)) (left : List Token) → length left ≤ length front → Passes one two left (f more (left ++ from_where one)) (h more (left ++ from_where two)))
    → Passes one two (t ∷ front) (g.more_behind f found (Some s) (front ++ from_where one)) (g.more_behind h found (Some s) (front ++ from_where two))
signed-passes found s t f h front one two later =
    longer one two front (t ∷ front) _ _ (omega arith)
    (both one two front (g.term (front ++ from_where one)) (g.term (front ++ from_where two)) (λ next. f (found ++ (s, next) ∷ [])) (λ next. h (found ++ (s, next) ∷ [])) (term-uniform.passes front one two)
    (λ next left shorter. later (found ++ (s, next) ∷ []) left shorter))

terms-passes : (n m : ℕ) (found : List (Sign × Term)) (front one two : List Token) → length front ≤ n → length front ≤ m
    → Passes one two front (g.more_terms n found (front ++ from_where one)) (g.more_terms m found (front ++ from_where two))
unfolding g.more_terms g.plus_or_minus
terms-passes zero zero found [] one two few few' = leaves found one two [] [] (omega arith)
terms-passes zero (suc m) found [] one two few few' = leaves found one two [] [] (omega arith)
terms-passes (suc n) zero found [] one two few few' = leaves found one two [] [] (omega arith)
terms-passes (suc n) (suc m) found [] one two few few' = leaves found one two [] [] (omega arith)
terms-passes zero m found (t ∷ front) one two few few' = absurd (omega arith)
terms-passes (suc n) zero found (t ∷ front) one two few few' = absurd (omega arith)
terms-passes (suc n) (suc m) found (token.Symbol symbol.Plus ∷ front) one two few few' =
    signed-passes found sign.Plus (token.Symbol symbol.Plus) (g.more_terms n) (g.more_terms m) front one two
    (λ more left shorter. terms-passes n m more left one two (omega arith) (omega arith))
terms-passes (suc n) (suc m) found (token.Symbol symbol.Minus ∷ front) one two few few' =
    signed-passes found sign.Minus (token.Symbol symbol.Minus) (g.more_terms n) (g.more_terms m) front one two
    (λ more left shorter. terms-passes n m more left one two (omega arith) (omega arith))
terms-passes (suc n) (suc m) found (t ∷ front) one two few few' = leaves found one two (t ∷ front) (t ∷ front) (omega arith)

expr-uniform : Uniform g.expr
unfolding g.expr
expr-uniform =
    bind g.term _ term-uniform (λ first.
    bind (λ ts. g.more_terms (length ts) [] ts) _
    (record { passes = λ front one two. terms-passes (length (front ++ from_where one)) (length (front ++ from_where two)) [] front one two (turns-enough front (from_where one)) (turns-enough front (from_where two)) })
    (λ rest. done (record { first = first; rest = rest })))

-- ---- conditions

operator-uniform : Uniform g.operator
unfolding g.operator
operator-uniform = record { passes = by_token }
  where
    by_op : (o : Option Op) (t : Token) (begun also front one two : List Token) → Passes one two (t ∷ front) (g.operator_by o begun (front ++ from_where one)) (g.operator_by o also (front ++ from_where two))
    by_op (Some found) t begun also front one two = leaves found one two front (t ∷ front) (omega arith)
    by_op None t begun also front one two = tt

    by_token : (front one two : List Token) → Passes one two front (g.operator (front ++ from_where one)) (g.operator (front ++ from_where two))
    by_token (token.Symbol s ∷ front) one two =
        by_op (g.op_of s) (token.Symbol s) (token.Symbol s ∷ (front ++ from_where one)) (token.Symbol s ∷ (front ++ from_where two)) front one two
    by_token [] one two = tt
    by_token (t ∷ front) one two = tt

comparison-uniform : Uniform g.comparison
unfolding g.comparison
comparison-uniform =
    bind g.name _ name-uniform (λ column.
    bind g.operator _ operator-uniform (λ test.
    bind g.literal _ literal-uniform (λ compared. done (tree.Cmp column test compared))))

conjunction-uniform : (fact : Parser tree.Condition) → Uniform fact → Uniform (g.conjunction fact)
unfolding g.conjunction
conjunction-uniform fact is = repeated-uniform symbol.And fact (λ c. c) tree.And refl is

disjunction-uniform : (fact : Parser tree.Condition) → Uniform fact → Uniform (g.disjunction fact)
unfolding g.disjunction
disjunction-uniform fact is = repeated-uniform symbol.Or (g.conjunction fact) (λ c. c) tree.Or refl (conjunction-uniform fact is)

sees-alike : (s : Symbol) (front one two : List Token) → is_where s ≡ false → sees s (front ++ from_where one) ≡ sees s (front ++ from_where two)
unfolding sees
sees-alike s [] one two other = where-other s one other ∙ sym (where-other s two other)
sees-alike s (t ∷ front) one two other = refl

innermost-uniform : Uniform g.innermost
unfolding g.innermost
innermost-uniform = record {
  passes = λ front one two.
      rw (sees-alike symbol.Not front one two refl, sees-alike symbol.Open front one two refl)
      (by_test (sees symbol.Not (front ++ from_where two) || sees symbol.Open (front ++ from_where two)) front one two);
}
  where
    by_test : (b : Bool) (front one two : List Token)
        → Passes one two front (cond b (refused kind.Depth (front ++ from_where one)) (g.comparison (front ++ from_where one))) (cond b (refused kind.Depth (front ++ from_where two)) (g.comparison (front ++ from_where two)))
    by_test true front one two = tt
    by_test false front one two = comparison-uniform.passes front one two

fact-uniform : (room : ℕ) → Uniform (g.fact room)
unfolding g.fact
fact-uniform zero = innermost-uniform
fact-uniform (suc room) =
    bind (eat symbol.Not) _ (eat-uniform symbol.Not refl) (λ is_not.
    choice is_not _ _
    (bind (g.fact room) _ (fact-uniform room) (λ c. done (tree.Not c)))
    (bind (eat symbol.Open) _ (eat-uniform symbol.Open refl) (λ is_open.
    choice is_open _ _
    (bind (g.disjunction (g.fact room)) _ (disjunction-uniform (g.fact room) (fact-uniform room)) (λ c. behind_symbol symbol.Close (pure c) refl (done c)))
    comparison-uniform)))

pub cond-uniform : Uniform g.cond
unfolding g.cond
cond-uniform = disjunction-uniform (g.fact NESTING) (fact-uniform NESTING)

-- ---- lists

pub tuple-uniform : Uniform g.tuple
unfolding g.tuple g.literals
tuple-uniform =
    behind_symbol symbol.Open _ refl
    (bind (g.listed g.literal) _ (listed-uniform g.literal literal-uniform) (λ found. behind_symbol symbol.Close (pure found) refl (done found)))

pub assignment-uniform : Uniform g.assignment
unfolding g.assignment
assignment-uniform =
    bind g.name _ name-uniform (λ column.
    behind_symbol symbol.Equal _ refl (bind g.expr _ expr-uniform (λ found. done (column, found))))
