-- Texts that differ in how a condition is spelled.
use Rattle.std.proofs.Common.{◌≡◌, ◌⊎◌, inl, inr, ℕ, Bool, true, false, cond, List, [], ◌∷◌, ◌++◌, Option, Some, None, Ok, Err, refl, ap, ◌∙◌, sym, arith}
use Rattle.std.specs.Prelude.{IfOk}
use Rattle.seata_types.specs.declared.statements.Stmt.{Stmt}
use Rattle.seata_types.specs.declared.statements.Stmt.TheVariants as stmt
use Rattle.seata_types.specs.Condition.{Condition}
use Rattle.sql_reader.specs.declared.symbols.Symbol.TheVariants as symbol
use Rattle.sql_reader.specs.declared.tokens.Token.{Token}
use Rattle.sql_reader.specs.declared.tokens.Token.TheVariants as token
use Rattle.sql_reader.specs.Lexing.{tokens}
use Rattle.sql_reader.specs.Parsing.{Outcome, Parser, and_then, ◌>>=◌, pure, is_symbol, sees, past, eat, expect, end}
use Rattle.sql_reader.specs.Grammar as g
use Rattle.sql_reader.specs.Answer.{reading, answer}
use Rattle.sql_reader.specs.Alike.{DifferInParentheses}
use Rattle.sql_reader.specs.Spelling.{meaning, spelled}
use Rattle.sql_reader.proofs.Ahead.{eat-ahead}
use Rattle.sql_reader.proofs.Spelled.{spelled-reads}
use Rattle.sql_reader.proofs.Uniform as u
use Rattle.sql_reader.proofs.Uniform.{from_where, Passes, Uniform, leaves}

-- The same tokens, or the same up to a WHERE, behind which one and two stand.
record UpToWhere (one two ts us : List Token) : Type 0 where
  front : List Token
  here : ts ≡ front ++ from_where one
  there : us ≡ front ++ from_where two

abbrev Alike : List Token → List Token → List Token → List Token → Type 0
Alike one two ts us = (ts ≡ us) ⊎ UpToWhere one two ts us

-- the same value, and tokens that are left and alike
record Reached {A : Type 0} (one two : List Token) (other : Outcome A) (found : A × List Token) : Type 0 where
  rest : List Token
  is : other ≡ Ok (found.0, rest)
  alike : Alike one two found.1 rest

-- where it reads the first of two lists that are alike, it reads the second so too
record Steady {A : Type 0} (one two : List Token) (p : Parser A) : Type 0 where
  reads : (ts us : List Token) → Alike one two ts us → IfOk (p ts) (Reached one two (p us))

same-reached : {A : Type 0} (one two : List Token) (o other : Outcome A) → o ≡ other → IfOk o (Reached one two other)
same-reached one two (Ok found) other is = record { rest = found.1; is = sym is; alike = inl refl }
same-reached one two (Err refusal) other is = tt

passes-reached : {A : Type 0} (one two front : List Token) (o other : Outcome A) → Passes one two front o other → IfOk o (Reached one two other)
passes-reached one two front (Ok found) other goes =
    record { rest = goes.left ++ from_where two; is = goes.there; alike = inr (record { front = goes.left; here = goes.here; there = refl }) }
passes-reached one two front (Err refusal) other goes = tt

-- by what it does up to a WHERE
by_front : {A : Type 0} (one two : List Token) (p : Parser A) → ((front : List Token) → IfOk (p (front ++ from_where one)) (Reached one two (p (front ++ from_where two)))) → Steady one two p
by_front {A = A} one two p is = record { reads = by_likeness }
  where
    by_likeness : (ts us : List Token) → Alike one two ts us → IfOk (p ts) (Reached one two (p us))
    by_likeness ts us (inl same) = same-reached one two (p ts) (p us) (ap p same)
    by_likeness ts us (inr up) = rw (up.here, up.there) (is up.front)

steady : {A : Type 0} (one two : List Token) (p : Parser A) → Uniform p → Steady one two p
steady one two p is = by_front one two p (λ front. passes-reached one two front (p (front ++ from_where one)) (p (front ++ from_where two)) (is.passes front one two))

then-steady : {A B : Type 0} (one two : List Token) (o other : Outcome A) (f : A → Parser B) → IfOk o (Reached one two other) → ((x : A) → Steady one two (f x)) → IfOk (and_then o f) (Reached one two (and_then other f))
then-steady one two (Err refusal) other f first later = tt
then-steady one two (Ok found) other f first later = rw first.is ((later found.0).reads found.1 first.rest first.alike)

bind : {A B : Type 0} (one two : List Token) (p : Parser A) (f : A → Parser B) → Steady one two p → ((x : A) → Steady one two (f x)) → Steady one two (p >>= f)
bind one two p f first later = record { reads = λ ts us alike. then-steady one two (p ts) (p us) f (first.reads ts us alike) later }

-- a uniform step first
step : {A B : Type 0} (one two : List Token) (p : Parser A) (f : A → Parser B) → Uniform p → ((x : A) → Steady one two (f x)) → Steady one two (p >>= f)
step one two p f first later = bind one two p f (steady one two p first) later

done : {A : Type 0} (one two : List Token) (x : A) → Steady one two (pure x)
done one two x = steady one two (pure x) (u.done x)

-- ---- the filter

abbrev found_filter : Parser (Option Condition)
found_filter = g.cond >>= (λ found. pure (Some found))

found-uniform : Uniform found_filter
found-uniform = u.bind g.cond (λ found. pure (Some found)) u.cond-uniform (λ found. u.done (Some found))

abbrev if_where : Bool → Parser (Option Condition)
if_where is_there = cond is_there found_filter (pure None)

-- at the WHERE itself, where both conditions end at the same tokens
filter-at_where : (one two back : List Token) (c : Condition) → g.cond one ≡ Ok (c, back) → g.cond two ≡ Ok (c, back) → g.filter (from_where one) ≡ g.filter (from_where two)
unfolding g.filter
filter-at_where one two back c first second = eat-ahead symbol.Where if_where one ∙ rw (first, second) refl ∙ sym (eat-ahead symbol.Where if_where two)

filter-before : (t : Token) (front one two : List Token) → IfOk (g.filter (t ∷ (front ++ from_where one))) (Reached one two (g.filter (t ∷ (front ++ from_where two))))
unfolding g.filter past sees
filter-before t front one two = by_test (is_symbol symbol.Where t)
  where
    by_test : (b : Bool) → IfOk (if_where b (cond b (front ++ from_where one) (t ∷ (front ++ from_where one)))) (Reached one two (if_where b (cond b (front ++ from_where two) (t ∷ (front ++ from_where two)))))
    by_test true = passes-reached one two front (found_filter (front ++ from_where one)) (found_filter (front ++ from_where two)) (found-uniform.passes front one two)
    by_test false =
        passes-reached one two (t ∷ front) (pure None (t ∷ (front ++ from_where one))) (pure None (t ∷ (front ++ from_where two))) (leaves None one two (t ∷ front) (t ∷ front) (omega arith))

filter-steady : (one two back : List Token) (c : Condition) → g.cond one ≡ Ok (c, back) → g.cond two ≡ Ok (c, back) → Steady one two g.filter
filter-steady one two back c first second = by_front one two g.filter by_token
  where
    by_token : (front : List Token) → IfOk (g.filter (front ++ from_where one)) (Reached one two (g.filter (front ++ from_where two)))
    by_token [] = same-reached one two (g.filter (from_where one)) (g.filter (from_where two)) (filter-at_where one two back c first second)
    by_token (t ∷ front) = filter-before t front one two

-- ---- statements

insert-uniform : Uniform g.insert
unfolding g.insert g.names g.tuples
insert-uniform =
    u.behind_symbol symbol.Into _ refl
    (u.bind g.name _ u.name-uniform (λ table.
    u.behind_symbol symbol.Open _ refl
    (u.bind (g.listed g.name) _ (u.listed-uniform g.name u.name-uniform) (λ columns.
    u.behind_symbol symbol.Close _ refl
    (u.behind_symbol symbol.Values _ refl
    (u.bind (g.listed g.tuple) _ (u.listed-uniform g.tuple u.tuple-uniform) (λ rows. u.done (stmt.Insert table columns rows))))))))

update-steady : (one two : List Token) → Steady one two g.filter → Steady one two g.update
unfolding g.update g.assignments
update-steady one two is =
    step one two g.name _ u.name-uniform (λ table.
    step one two (expect symbol.Set) _ (u.expect-uniform symbol.Set refl) (λ _.
    step one two (g.listed g.assignment) _ (u.listed-uniform g.assignment u.assignment-uniform) (λ sets.
    bind one two g.filter _ is (λ cond. done one two (stmt.Update table sets cond)))))

delete-steady : (one two : List Token) → Steady one two g.filter → Steady one two g.delete
unfolding g.delete
delete-steady one two is =
    step one two (expect symbol.From) _ (u.expect-uniform symbol.From refl) (λ _.
    step one two g.name _ u.name-uniform (λ table.
    bind one two g.filter _ is (λ cond. done one two (stmt.Delete table cond))))

select-steady : (one two : List Token) → Steady one two g.filter → Steady one two g.select
unfolding g.select
select-steady one two is =
    step one two (expect symbol.Star) _ (u.expect-uniform symbol.Star refl) (λ _.
    step one two (expect symbol.From) _ (u.expect-uniform symbol.From refl) (λ _.
    step one two g.name _ u.name-uniform (λ table.
    bind one two g.filter _ is (λ cond.
    step one two (expect symbol.For) _ (u.expect-uniform symbol.For refl) (λ _.
    step one two (expect symbol.Update) _ (u.expect-uniform symbol.Update refl) (λ _. done one two (stmt.Select table cond)))))))

body-steady : (one two : List Token) → Steady one two g.filter → Steady one two g.body
unfolding g.body
body-steady one two is = by_front one two g.body by_token
  where
    up : (front : List Token) → Alike one two (front ++ from_where one) (front ++ from_where two)
    up front = inr (record { front = front; here = refl; there = refl })

    by_token : (front : List Token) → IfOk (g.body (front ++ from_where one)) (Reached one two (g.body (front ++ from_where two)))
    by_token (token.Symbol symbol.Insert ∷ front) = (steady one two g.insert insert-uniform).reads (front ++ from_where one) (front ++ from_where two) (up front)
    by_token (token.Symbol symbol.Update ∷ front) = (update-steady one two is).reads (front ++ from_where one) (front ++ from_where two) (up front)
    by_token (token.Symbol symbol.Delete ∷ front) = (delete-steady one two is).reads (front ++ from_where one) (front ++ from_where two) (up front)
    by_token (token.Symbol symbol.Select ∷ front) = (select-steady one two is).reads (front ++ from_where one) (front ++ from_where two) (up front)
    by_token [] = tt
    by_token (t ∷ front) = tt

statement-steady : (one two : List Token) → Steady one two g.filter → Steady one two g.statement
unfolding g.statement
statement-steady one two is =
    bind one two g.body _ (body-steady one two is) (λ found.
    step one two (eat symbol.Semicolon) _ (u.eat-uniform symbol.Semicolon refl) (λ is_closed.
    step one two end _ u.end-uniform (λ _. done one two found)))

-- ---- whole texts

answer-carries : (a b one two : List ℕ) (s : Stmt) (o other : Outcome Stmt) (ts us : List Token) → IfOk o (Reached ts us other) → answer a o ≡ Ok s → answer b other ≡ Ok s
answer-carries a b one two s (Ok found) other ts us reached is = rw reached.is is
answer-carries a b one two s (Err refusal) other ts us reached is = cc

pub reading-spelled : (a b : List ℕ) → DifferInParentheses a b → (s : Stmt) → reading a ≡ Ok s → reading b ≡ Ok s
unfolding reading
reading-spelled a b d s is =
    let one = spelled d.in_a d.back in
    let two = spelled d.in_b d.back in
    let here = spelled-reads d.in_a d.back d.a_fits d.no_and d.no_or in
    let there = spelled-reads d.in_b d.back d.b_fits d.no_and d.no_or ∙ ap (λ c. Ok (c, d.back)) (sym d.same) in
    let steps = statement-steady one two (filter-steady one two d.back (meaning d.in_a) here there) in
    answer-carries a b a b s (g.statement (tokens a)) (g.statement (tokens b)) one two
    (steps.reads (tokens a) (tokens b) (inr (record { front = d.front; here = d.a_tokens; there = d.b_tokens }))) is
