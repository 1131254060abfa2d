-- What the productions give is readable.
use Rattle.std.proofs.Common.{◌≡◌, ◌≤◌, ℕ, zero, suc, ◌<◌, ◌^◌, Bool, true, false, cond, List, [], ◌∷◌, ◌++◌, length, Option, Some, None, Ok, Err, refl, arith}
use Rattle.std.specs.Prelude.{IfOk, ◌||◌, nat_le, nat_lt, ℤ, pos, neg_ℤ, FitsSigned}
use Rattle.std.specs.Int.{w64}
use Rattle.std.specs.List.{AllByRecursion}
use Rattle.std.proofs.lemmas.Int.{ints}
use Rattle.std.proofs.lemmas.Bool.Decides.{nat_tests}
use Rattle.seata_types.specs.declared.limits.TheConstants.{NESTING}
use Rattle.seata_types.specs.declared.statements.Term.{Term}
use Rattle.seata_types.specs.declared.statements.Term.TheVariants as part
use Rattle.seata_types.specs.declared.statements.Sign.{Sign}
use Rattle.seata_types.specs.declared.conditions.Op.{Op}
use Rattle.seata_types.specs.Condition.{Condition}
use Rattle.seata_types.specs.Condition as tree
use Rattle.sql_reader.specs.declared.symbols.Symbol.{Symbol}
use Rattle.sql_reader.specs.declared.symbols.Symbol.TheVariants as symbol
use Rattle.sql_reader.specs.declared.tokens.Token.{Token}
use Rattle.sql_reader.specs.declared.tokens.Token.TheVariants as token
use Rattle.sql_reader.specs.Lexing.{has_text_form}
use Rattle.sql_reader.specs.Parsing.{Outcome, Parser, and_then, ◌>>=◌, ◌>>◌, pure, sees, past, behind_first, eat, expect, end, unexpected, refused, more, repeated}
use Rattle.sql_reader.specs.declared.errors.SqlKind.TheVariants as kind
use Rattle.sql_reader.specs.Grammar as g
use Rattle.sql_reader.specs.Canonical.{is_or, is_and}
use Rattle.sql_reader.specs.Readable.{IsName, IsLiteral, IsTerm, IsExpr, IsAssignment, OneOrMore, HasReadableParts, grouped_nesting, nesting, IsFilter, IsReadable}

-- what the cutting into tokens promises of each token
abbrev pub IsProper : Token → Type 0
IsProper (token.Name n) = IsName n
IsProper (token.Quoted t) = has_text_form t ≡ true
IsProper _ = Unit {0}

abbrev pub AreProper : List Token → Type 0
AreProper = AllByRecursion IsProper

-- from proper tokens it gives a value of which P holds, and leaves proper tokens
abbrev Gives : {A : Type 0} → (A → Type 0) → Outcome A → Type 0
Gives P o = IfOk o (λ r. P r.0 × AreProper r.1)

record Sound {A : Type 0} (P : A → Type 0) (p : Parser A) : Type 0 where
  gives : (ts : List Token) → AreProper ts → Gives P (p ts)

and_then-gives : {A B : Type 0} (P : A → Type 0) (Q : B → Type 0) (o : Outcome A) (f : A → Parser B) → Gives P o → ((x : A) → P x → Sound Q (f x)) → Gives Q (and_then o f)
and_then-gives P Q (Ok found) f here later = (later found.0 here.0).gives found.1 here.1
and_then-gives P Q (Err refusal) f here later = tt

bind : {A B : Type 0} (P : A → Type 0) (Q : B → Type 0) (p : Parser A) (f : A → Parser B) → Sound P p → ((x : A) → P x → Sound Q (f x)) → Sound Q (p >>= f)
bind P Q p f first later = record { gives = λ ts proper. and_then-gives P Q (p ts) f (first.gives ts proper) later }

done : {A : Type 0} (P : A → Type 0) (x : A) → P x → Sound P (pure x)
done P x is = record { gives = λ ts proper. (is, proper) }

behind-proper : (ts : List Token) → AreProper ts → AreProper (behind_first ts)
behind-proper [] proper = tt
behind-proper (t ∷ ts) proper = proper.1

past-proper : (s : Symbol) (ts : List Token) → AreProper ts → AreProper (past s ts)
unfolding past
past-proper s ts proper = elim (sees s ts) as (λ b. AreProper (cond b (behind_first ts) ts)) [ true ↦ behind-proper ts proper | false ↦ proper ]

eat-sound : (s : Symbol) → Sound (λ _. Unit {0}) (eat s)
eat-sound s = record { gives = λ ts proper. (tt, past-proper s ts proper) }

expect-sound : (s : Symbol) → Sound (λ _. Unit {0}) (expect s)
unfolding expect
expect-sound s = record {
  gives = λ ts proper.
      elim (sees s ts) as (λ b. Gives (λ _. Unit {0}) (cond b (Ok (tt, past s ts)) (unexpected ts))) [ true ↦ (tt, past-proper s ts proper) | false ↦ tt ];
}

-- p behind an expected symbol
behind_symbol : {A : Type 0} (P : A → Type 0) (s : Symbol) (p : Parser A) → Sound P p → Sound P (expect s >> p)
behind_symbol P s p is = bind (λ _. Unit {0}) P (expect s) (λ _. p) (expect-sound s) (λ _ _. is)

choice : {A : Type 0} (P : A → Type 0) (b : Bool) (p q : Parser A) → Sound P p → Sound P q → Sound P (cond b p q)
choice P true p q first second = first
choice P false p q first second = second

more-sound : {A B : Type 0} (P : A → Type 0) (Q : B → Type 0) (s : Symbol) (item : Parser A) (join : B → A → B) → Sound P item → ((b : B) (x : A) → Q b → P x → Q (join b x))
    → (n : ℕ) (b : B) → Q b → Sound Q (more s item join n b)
unfolding more
more-sound P Q s item join is keeps zero b so_far = done Q b so_far
more-sound P Q s item join is keeps (suc n) b so_far =
    bind (λ _. Unit {0}) Q (eat s) _ (eat-sound s) (λ goes_on _.
    choice Q goes_on _ _ (bind P Q item _ is (λ x here. more-sound P Q s item join is keeps n (join b x) (keeps b x so_far here))) (done Q b so_far))

repeated-sound : {A B : Type 0} (P : A → Type 0) (Q : B → Type 0) (s : Symbol) (item : Parser A) (first : A → B) (join : B → A → B) → Sound P item → ((x : A) → P x → Q (first x))
    → ((b : B) (x : A) → Q b → P x → Q (join b x)) → Sound Q (repeated s item first join)
repeated-sound P Q s item first join is begins keeps =
    bind P Q item _ is (λ x here. record { gives = λ ts proper. (more-sound P Q s item join is keeps (length ts) (first x) (begins x here)).gives ts proper })

each-append : {A : Type 0} (P : A → Type 0) (xs : List A) (x : A) → AllByRecursion P xs → P x → AllByRecursion P (xs ++ x ∷ [])
each-append P [] x each is = (is, tt)
each-append P (y ∷ ys) x each is = (each.0, each-append P ys x each.1 is)

more-of : {A : Type 0} (P : A → Type 0) (xs : List A) (x : A) → OneOrMore P xs → P x → OneOrMore P (xs ++ x ∷ [])
more-of P [] x some is = absurd some
more-of P (y ∷ ys) x some is = (some.0, each-append P ys x some.1 is)

listed-sound : {A : Type 0} (P : A → Type 0) (item : Parser A) → Sound P item → Sound (OneOrMore P) (g.listed item)
listed-sound P item is = repeated-sound P (OneOrMore P) symbol.Comma item _ _ is (λ x here. (here, tt)) (more-of P)

-- ---- the parts

name-sound : Sound IsName g.name
unfolding g.name
name-sound = record { gives = by_token }
  where
    by_token : (ts : List Token) → AreProper ts → Gives IsName (g.name ts)
    by_token (token.Name n ∷ ts) proper = proper
    by_token _ proper = tt

-- ---- literals

in_range-gives : (b : Bool) (z : ℤ) (begun ts : List Token) → (b ≡ true → FitsSigned w64 z) → AreProper ts → Gives IsLiteral (g.in_range b z begun ts)
in_range-gives true z begun ts fits proper = (fits refl, proper)
in_range-gives false z begun ts fits proper = tt

fits-positive : (n : ℕ) → nat_lt n (2 ^ 63) ≡ true → FitsSigned w64 (pos n)
fits-positive n is = let below : n < 2 ^ 63 = grind (arith, nat_tests) in omega (arith, ints)

fits-negative : (n : ℕ) → nat_le n (2 ^ 63) ≡ true → FitsSigned w64 (neg_ℤ (pos n))
fits-negative n is = let below : n ≤ 2 ^ 63 = grind (arith, nat_tests) in omega (arith, ints)

negative-gives : (begun ts : List Token) → AreProper ts → Gives IsLiteral (g.negative begun ts)
negative-gives begun (token.Number n ∷ ts) proper = in_range-gives (nat_le n (2 ^ 63)) (neg_ℤ (pos n)) begun ts (fits-negative n) proper.1
negative-gives begun _ proper = tt

literal-sound : Sound IsLiteral g.literal
unfolding g.literal
literal-sound = record { gives = by_token }
  where
    by_token : (ts : List Token) → AreProper ts → Gives IsLiteral (g.literal ts)
    by_token (token.Number n ∷ ts) proper = in_range-gives (nat_lt n (2 ^ 63)) (pos n) (token.Number n ∷ ts) ts (fits-positive n) proper.1
    by_token (token.Symbol symbol.Minus ∷ ts) proper = negative-gives (token.Symbol symbol.Minus ∷ ts) ts proper.1
    by_token (token.Quoted t ∷ ts) proper = proper
    by_token _ proper = tt

-- ---- sums

lit-sound : Sound IsTerm (g.literal >>= (λ found. pure (part.Lit found)))
lit-sound = bind IsLiteral IsTerm g.literal _ literal-sound (λ found is. done IsTerm (part.Lit found) is)

term-sound : Sound IsTerm g.term
unfolding g.term
term-sound = record { gives = by_token }
  where
    by_token : (ts : List Token) → AreProper ts → Gives IsTerm (g.term ts)
    by_token (token.Name n ∷ ts) proper = proper
    by_token ts proper = lit-sound.gives ts proper

AreTerms : List (Sign × Term) → Type 0
AreTerms = AllByRecursion (λ t. IsTerm t.1)

sign-sound : Sound (λ _. Unit {0}) g.plus_or_minus
unfolding g.plus_or_minus
sign-sound = record { gives = by_token }
  where
    by_token : (ts : List Token) → AreProper ts → Gives (λ _. Unit {0}) (g.plus_or_minus ts)
    by_token (token.Symbol symbol.Plus ∷ ts) proper = (tt, proper.1)
    by_token (token.Symbol symbol.Minus ∷ ts) proper = (tt, proper.1)
    by_token ts proper = (tt, proper)

behind-sound : (go_on : List (Sign × Term) → Parser (List (Sign × Term))) (found : List (Sign × Term)) → AreTerms found → ((more : List (Sign × Term)) → AreTerms more → Sound AreTerms (go_on more))
    → (next : Option Sign) → Sound AreTerms (g.more_behind go_on found next)
unfolding AreTerms
behind-sound go_on found are later None = done AreTerms found are
behind-sound go_on found are later (Some sign) =
    bind IsTerm AreTerms g.term _ term-sound (λ next is. later (found ++ (sign, next) ∷ []) (each-append (λ t. IsTerm t.1) found (sign, next) are is))

terms-sound : (n : ℕ) (found : List (Sign × Term)) → AreTerms found → Sound AreTerms (g.more_terms n found)
unfolding g.more_terms
terms-sound zero found are = done AreTerms found are
terms-sound (suc n) found are = bind (λ _. Unit {0}) AreTerms g.plus_or_minus _ sign-sound (λ next _. behind-sound (g.more_terms n) found are (terms-sound n) next)

expr-sound : Sound IsExpr g.expr
unfolding g.expr AreTerms
expr-sound =
    bind IsTerm IsExpr g.term _ term-sound (λ first is.
    bind AreTerms IsExpr (λ ts. g.more_terms (length ts) [] ts) _ (record { gives = λ ts proper. (terms-sound (length ts) [] tt).gives ts proper })
    (λ rest are. done IsExpr (record { first = first; rest = rest }) (is, are)))

-- ---- conditions

-- of a condition that stands as a fact, as a conjunction, or whole, where so many NOT and parentheses may be open
record FitsFact (room : ℕ) (c : Condition) : Type 0 where
  parts : HasReadableParts c
  fits : grouped_nesting (is_or c || is_and c) (nesting c) ≤ room

record FitsConjunction (room : ℕ) (c : Condition) : Type 0 where
  parts : HasReadableParts c
  fits : grouped_nesting (is_or c) (nesting c) ≤ room

record FitsWhole (room : ℕ) (c : Condition) : Type 0 where
  parts : HasReadableParts c
  fits : nesting c ≤ room

operator-sound : Sound (λ _. Unit {0}) g.operator
unfolding g.operator
operator-sound = record { gives = by_token }
  where
    by_op : (o : Option Op) (begun ts : List Token) → AreProper ts → Gives (λ _. Unit {0}) (g.operator_by o begun ts)
    by_op (Some found) begun ts proper = (tt, proper)
    by_op None begun ts proper = tt

    by_token : (ts : List Token) → AreProper ts → Gives (λ _. Unit {0}) (g.operator ts)
    by_token (token.Symbol s ∷ ts) proper = by_op (g.op_of s) (token.Symbol s ∷ ts) ts proper.1
    by_token _ proper = tt

comparison-sound : (room : ℕ) → Sound (FitsFact room) g.comparison
unfolding g.comparison
comparison-sound room =
    bind IsName (FitsFact room) g.name _ name-sound (λ column named.
    bind (λ _. Unit {0}) (FitsFact room) g.operator _ operator-sound (λ test _.
    bind IsLiteral (FitsFact room) g.literal _ literal-sound (λ compared is.
    done (FitsFact room) (tree.Cmp column test compared) (record { parts = (named, is); fits = omega arith }))))

grouped-least : (b : Bool) (n : ℕ) → n ≤ grouped_nesting b n
grouped-least true n = omega arith
grouped-least false n = omega arith

grouped-most : (b : Bool) (n : ℕ) → grouped_nesting b n ≤ suc n
grouped-most true n = omega arith
grouped-most false n = omega arith

or-least : (a b : Bool) (n : ℕ) → grouped_nesting a n ≤ grouped_nesting (a || b) n
or-least true b n = omega arith
or-least false b n = grouped-least b n

conjunction-sound : (room : ℕ) (fact : Parser Condition) → Sound (FitsFact room) fact → Sound (FitsConjunction room) (g.conjunction fact)
unfolding g.conjunction
conjunction-sound room fact is =
    repeated-sound (FitsFact room) (FitsConjunction room) symbol.And fact (λ c. c) tree.And is
    (λ c f. record { parts = f.parts; fits = omega (arith, f.fits, or-least (is_or c) (is_and c) (nesting c)) })
    (λ left right l r. record { parts = (l.parts, r.parts); fits = omega (arith, l.fits, r.fits) })

disjunction-sound : (room : ℕ) (fact : Parser Condition) → Sound (FitsFact room) fact → Sound (FitsWhole room) (g.disjunction fact)
unfolding g.disjunction
disjunction-sound room fact is =
    repeated-sound (FitsConjunction room) (FitsWhole room) symbol.Or (g.conjunction fact) (λ c. c) tree.Or (conjunction-sound room fact is)
    (λ c f. record { parts = f.parts; fits = omega (arith, f.fits, grouped-least (is_or c) (nesting c)) })
    (λ left right l r. record { parts = (l.parts, r.parts); fits = omega (arith, l.fits, r.fits) })

innermost-sound : Sound (FitsFact zero) g.innermost
unfolding g.innermost
innermost-sound = record {
  gives = λ ts proper.
      elim (sees symbol.Not ts || sees symbol.Open ts) as (λ b. Gives (FitsFact zero) (cond b (refused kind.Depth ts) (g.comparison ts))) [
        | true ↦ tt
        | false ↦ (comparison-sound zero).gives ts proper
      ];
}

fact-sound : (room : ℕ) → Sound (FitsFact room) (g.fact room)
unfolding g.fact
fact-sound zero = innermost-sound
fact-sound (suc room) =
    bind (λ _. Unit {0}) (FitsFact (suc room)) (eat symbol.Not) _ (eat-sound symbol.Not) (λ is_not _.
    choice (FitsFact (suc room)) is_not _ _
    (bind (FitsFact room) (FitsFact (suc room)) (g.fact room) _ (fact-sound room) (λ c f.
    done (FitsFact (suc room)) (tree.Not c) (record { parts = f.parts; fits = omega (arith, f.fits) })))
    (bind (λ _. Unit {0}) (FitsFact (suc room)) (eat symbol.Open) _ (eat-sound symbol.Open) (λ is_open _.
    choice (FitsFact (suc room)) is_open _ _
    (bind (FitsWhole room) (FitsFact (suc room)) (g.disjunction (g.fact room)) _ (disjunction-sound room (g.fact room) (fact-sound room)) (λ c f.
    behind_symbol (FitsFact (suc room)) symbol.Close (pure c)
    (done (FitsFact (suc room)) c (record { parts = f.parts; fits = omega (arith, f.fits, grouped-most (is_or c || is_and c) (nesting c)) }))))
    (comparison-sound (suc room)))))

filter-sound : Sound IsFilter g.filter
unfolding g.filter g.cond
filter-sound =
    bind (λ _. Unit {0}) IsFilter (eat symbol.Where) _ (eat-sound symbol.Where) (λ is_there _.
    choice IsFilter is_there _ _
    (bind (FitsWhole NESTING) IsFilter (g.disjunction (g.fact NESTING)) _ (disjunction-sound NESTING (g.fact NESTING) (fact-sound NESTING)) (λ c f. done IsFilter (Some c) (f.parts, f.fits)))
    (done IsFilter None tt))

-- ---- statements

names-sound : Sound (OneOrMore IsName) g.names
unfolding g.names
names-sound = listed-sound IsName g.name name-sound

tuple-sound : Sound (OneOrMore IsLiteral) g.tuple
unfolding g.tuple g.literals
tuple-sound =
    behind_symbol (OneOrMore IsLiteral) symbol.Open _ (bind (OneOrMore IsLiteral) (OneOrMore IsLiteral) (g.listed g.literal) _ (listed-sound IsLiteral g.literal literal-sound) (λ values are.
    behind_symbol (OneOrMore IsLiteral) symbol.Close (pure values) (done (OneOrMore IsLiteral) values are)))

tuples-sound : Sound (OneOrMore (OneOrMore IsLiteral)) g.tuples
unfolding g.tuples
tuples-sound = listed-sound (OneOrMore IsLiteral) g.tuple tuple-sound

assignment-sound : Sound IsAssignment g.assignment
unfolding g.assignment
assignment-sound =
    bind IsName IsAssignment g.name _ name-sound (λ column named.
    behind_symbol IsAssignment symbol.Equal _ (bind IsExpr IsAssignment g.expr _ expr-sound (λ found is. done IsAssignment (column, found) (named, is))))

insert-sound : Sound IsReadable g.insert
unfolding g.insert IsReadable
insert-sound =
    behind_symbol IsReadable symbol.Into _ (bind IsName IsReadable g.name _ name-sound (λ table named.
    behind_symbol IsReadable symbol.Open _ (bind (OneOrMore IsName) IsReadable g.names _ names-sound (λ columns are.
    behind_symbol IsReadable symbol.Close _ (behind_symbol IsReadable symbol.Values _ (bind (OneOrMore (OneOrMore IsLiteral)) IsReadable g.tuples _ tuples-sound (λ rows rows-are.
    done IsReadable _ (named, are, rows-are))))))))

update-sound : Sound IsReadable g.update
unfolding g.update g.assignments IsReadable
update-sound =
    bind IsName IsReadable g.name _ name-sound (λ table named.
    behind_symbol IsReadable symbol.Set _ (bind (OneOrMore IsAssignment) IsReadable (g.listed g.assignment) _ (listed-sound IsAssignment g.assignment assignment-sound) (λ sets are.
    bind IsFilter IsReadable g.filter _ filter-sound (λ c is. done IsReadable _ (named, are, is)))))

delete-sound : Sound IsReadable g.delete
unfolding g.delete IsReadable
delete-sound =
    behind_symbol IsReadable symbol.From _ (bind IsName IsReadable g.name _ name-sound (λ table named.
    bind IsFilter IsReadable g.filter _ filter-sound (λ c is. done IsReadable _ (named, is))))

select-sound : Sound IsReadable g.select
unfolding g.select IsReadable
select-sound =
    behind_symbol IsReadable symbol.Star _ (behind_symbol IsReadable symbol.From _ (bind IsName IsReadable g.name _ name-sound (λ table named.
    bind IsFilter IsReadable g.filter _ filter-sound (λ c is.
    behind_symbol IsReadable symbol.For _ (behind_symbol IsReadable symbol.Update _ (done IsReadable _ (named, is)))))))

body-sound : Sound IsReadable g.body
unfolding g.body
body-sound = record { gives = by_token }
  where
    by_token : (ts : List Token) → AreProper ts → Gives IsReadable (g.body ts)
    by_token (token.Symbol symbol.Insert ∷ ts) proper = insert-sound.gives ts proper.1
    by_token (token.Symbol symbol.Update ∷ ts) proper = update-sound.gives ts proper.1
    by_token (token.Symbol symbol.Delete ∷ ts) proper = delete-sound.gives ts proper.1
    by_token (token.Symbol symbol.Select ∷ ts) proper = select-sound.gives ts proper.1
    by_token _ proper = tt

end-sound : Sound (λ _. Unit {0}) end
unfolding end
end-sound = record { gives = by_token }
  where
    by_token : (ts : List Token) → AreProper ts → Gives (λ _. Unit {0}) (end ts)
    by_token [] proper = (tt, tt)
    by_token (t ∷ ts) proper = tt

statement-sound : Sound IsReadable g.statement
unfolding g.statement
statement-sound =
    bind IsReadable IsReadable g.body _ body-sound (λ s is.
    bind (λ _. Unit {0}) IsReadable (eat symbol.Semicolon) _ (eat-sound symbol.Semicolon) (λ _ _.
    bind (λ _. Unit {0}) IsReadable end _ end-sound (λ _ _. done IsReadable s is)))

pub statement_readable : (ts : List Token) → AreProper ts → IfOk (g.statement ts) (λ r. IsReadable r.0 × AreProper r.1)
statement_readable ts proper = statement-sound.gives ts proper
