-- What is spelled is read.
use Rattle.std.proofs.Common.{◌≡◌, ◌≤◌, ℕ, zero, suc, Bool, true, false, List, [], ◌∷◌, ◌++◌, length, length-append, Option, Some, None, Ok, Err, refl, ap, ◌∙◌, arith}
use Rattle.std.specs.Prelude.{ℤ, pos, nat_lt, nat_le, ◌^◌, neg_ℤ}
use Rattle.seata_types.specs.declared.limits.TheConstants.{NESTING}
use Rattle.seata_types.specs.declared.rows.Value.{Value}
use Rattle.seata_types.specs.declared.rows.Value.TheVariants as value
use Rattle.seata_types.specs.declared.conditions.Op.{Op}
use Rattle.seata_types.specs.Condition.{Condition}
use Rattle.seata_types.specs.Condition as tree
use Rattle.sql_reader.specs.declared.symbols.Symbol.{Symbol}
use Rattle.sql_reader.specs.declared.symbols.Symbol.TheVariants as symbol
use Rattle.sql_reader.specs.declared.tokens.Token.{Token}
use Rattle.sql_reader.specs.declared.tokens.Token.TheVariants as token
use Rattle.sql_reader.specs.Parsing.{Outcome, and_then, pure, sees}
use Rattle.sql_reader.specs.Grammar as g
use Rattle.sql_reader.specs.Spelling.{Spelling, Compared, And, Or, Not, Grouped, meaning, spelled, is_bare_or, is_bare_joint, HasNeededParentheses, depth, IsSpelling}
use Rattle.sql_reader.proofs.AheadConditions.{name-first, not-first, open-first, ReadsConjunction, ReadsDisjunction, one-fact, one-more-fact, conjunction-ends, one-conjunction, one-more-conjunction, disjunction-ends, close-is_no_and, close-is_no_or, or-is_no_and}

-- ---- a comparison, before further tokens

ok-parts : {A : Type 0} (p q : A × List Token) → ◌≡◌ {A = Outcome A} (Ok p) (Ok q) → (p.0 ≡ q.0) × (p.1 ≡ q.1)
ok-parts p q is = let same : p ≡ q = cc in (ap (λ x. x.0) same, ap (λ x. x.1) same)

ends-so : {A : Type 0} (x y : A) (ts rest : List Token) → ◌≡◌ {A = Outcome A} (Ok (x, ts)) (Ok (y, [])) → ◌≡◌ {A = Outcome A} (Ok (x, ts ++ rest)) (Ok (y, rest))
ends-so x y ts rest is = let (same, none) = ok-parts (x, ts) (y, []) is in rw (same, none) refl

in_range-rest : (b : Bool) (z : ℤ) (begun also ts rest : List Token) (v : Value) → g.in_range b z begun ts ≡ Ok (v, []) → g.in_range b z also (ts ++ rest) ≡ Ok (v, rest)
in_range-rest true z begun also ts rest v is = ends-so (value.Int z) v ts rest is
in_range-rest false z begun also ts rest v is = absurd (refusal is)
  where
    refusal : g.in_range false z begun ts ≡ Ok (v, []) → ⊥
    refusal is = cc

negative-rest : (begun also ts rest : List Token) (v : Value) → g.negative begun ts ≡ Ok (v, []) → g.negative also (ts ++ rest) ≡ Ok (v, rest)
negative-rest begun also (token.Number n ∷ ts) rest v is = in_range-rest (nat_le n (2 ^ 63)) (neg_ℤ (pos n)) begun also ts rest v is
negative-rest begun also [] rest v is = cc
negative-rest begun also (t ∷ ts) rest v is = cc

literal-rest : (ts rest : List Token) (v : Value) → g.literal ts ≡ Ok (v, []) → g.literal (ts ++ rest) ≡ Ok (v, rest)
unfolding g.literal
literal-rest (token.Number n ∷ ts) rest v is = in_range-rest (nat_lt n (2 ^ 63)) (pos n) (token.Number n ∷ ts) (token.Number n ∷ (ts ++ rest)) ts rest v is
literal-rest (token.Symbol symbol.Minus ∷ ts) rest v is = negative-rest (token.Symbol symbol.Minus ∷ ts) (token.Symbol symbol.Minus ∷ (ts ++ rest)) ts rest v is
literal-rest (token.Quoted t ∷ ts) rest v is = ends-so (value.Text t) v ts rest is
literal-rest [] rest v is = cc
literal-rest (t ∷ ts) rest v is = cc

compared-rest : (column : List ℕ) (test : Op) (ts rest : List Token) (c : Condition) (o : Outcome Value) → g.literal ts ≡ o → and_then o (λ found. pure (tree.Cmp column test found)) ≡ Ok (c, [])
    → and_then (g.literal (ts ++ rest)) (λ found. pure (tree.Cmp column test found)) ≡ Ok (c, rest)
compared-rest column test ts rest c (Err refusal) found is = cc
compared-rest column test ts rest c (Ok (v, us)) found is =
    let (meant, none) = ok-parts (tree.Cmp column test v, us) (c, []) is in
    let whole : g.literal ts ≡ Ok (v, []) = found ∙ ap (λ vs. Ok (v, vs)) none in
    rw (literal-rest ts rest v whole) (ap (λ x. Ok (x, rest)) meant)

tested-rest : (column : List ℕ) (s : Symbol) (o : Option Op) (ts rest : List Token) (c : Condition)
    → and_then (g.operator_by o (token.Symbol s ∷ ts) ts) (λ test. λ us. and_then (g.literal us) (λ found. pure (tree.Cmp column test found))) ≡ Ok (c, [])
    → and_then (g.operator_by o (token.Symbol s ∷ (ts ++ rest)) (ts ++ rest)) (λ test. λ us. and_then (g.literal us) (λ found. pure (tree.Cmp column test found))) ≡ Ok (c, rest)
tested-rest column s None ts rest c is = cc
tested-rest column s (Some test) ts rest c is = compared-rest column test ts rest c (g.literal ts) refl is

operator-rest : (column : List ℕ) (ts rest : List Token) (c : Condition)
    → and_then (g.operator ts) (λ test. λ us. and_then (g.literal us) (λ found. pure (tree.Cmp column test found))) ≡ Ok (c, [])
    → and_then (g.operator (ts ++ rest)) (λ test. λ us. and_then (g.literal us) (λ found. pure (tree.Cmp column test found))) ≡ Ok (c, rest)
unfolding g.operator
operator-rest column (token.Symbol s ∷ ts) rest c is = tested-rest column s (g.op_of s) ts rest c is
operator-rest column [] rest c is = cc
operator-rest column (t ∷ ts) rest c is = cc

comparison-rest : (room : ℕ) (ts rest : List Token) (c : Condition) → g.comparison ts ≡ Ok (c, []) → g.fact room (ts ++ rest) ≡ Ok (c, rest)
unfolding g.comparison g.name
comparison-rest room (token.Name n ∷ ts) rest c is = name-first room n (ts ++ rest) ∙ operator-rest n ts rest c is
comparison-rest room [] rest c is = cc
comparison-rest room (t ∷ ts) rest c is = cc

-- ---- the three places in which a condition stands

length-spelled : (s : Spelling) (rest : List Token) → length rest ≤ length (spelled s rest)
length-spelled (Compared ts c) rest = omega (arith, length-append ts rest)
length-spelled (And left right) rest = omega (arith, length-spelled right rest, length-spelled left (token.Symbol symbol.And ∷ spelled right rest))
length-spelled (Or left right) rest = omega (arith, length-spelled right rest, length-spelled left (token.Symbol symbol.Or ∷ spelled right rest))
length-spelled (Not inner) rest = omega (arith, length-spelled inner rest)
length-spelled (Grouped inner) rest = omega (arith, length-spelled inner (token.Symbol symbol.Close ∷ rest))

record IsRead (s : Spelling) : Type 0 where
  as_fact : (room : ℕ) (rest : List Token) → is_bare_joint s ≡ false → depth s ≤ room → g.fact room (spelled s rest) ≡ Ok (meaning s, rest)
  as_conjunction : (room : ℕ) (rest : List Token) → is_bare_or s ≡ false → depth s ≤ room → ReadsConjunction room (meaning s) (spelled s rest) rest
  as_whole : (room : ℕ) (rest : List Token) → depth s ≤ room → sees symbol.And rest ≡ false → ReadsDisjunction room (meaning s) (spelled s rest) rest

by-fact : (s : Spelling) → ((room : ℕ) (rest : List Token) → depth s ≤ room → g.fact room (spelled s rest) ≡ Ok (meaning s, rest)) → IsRead s
by-fact s is = record {
  as_fact = λ room rest _ fits. is room rest fits;
  as_conjunction = λ room rest _ fits. one-fact room (meaning s) (spelled s rest) rest (is room rest fits);
  as_whole = λ room rest fits none.
      one-conjunction room (meaning s) (spelled s rest) rest
      (conjunction-ends room (meaning s) (spelled s rest) rest (one-fact room (meaning s) (spelled s rest) rest (is room rest fits)) none);
}

whole-reads : (s : Spelling) → IsRead s → (room : ℕ) (rest : List Token) → depth s ≤ room → sees symbol.And rest ≡ false → sees symbol.Or rest ≡ false
    → g.disjunction (g.fact room) (spelled s rest) ≡ Ok (meaning s, rest)
whole-reads s is room rest fits no_and no_or = disjunction-ends room (meaning s) (spelled s rest) rest (is.as_whole room rest fits no_and) no_or

and-reads : (left right : Spelling) → IsRead left → IsRead right → is_bare_or left ≡ false → is_bare_joint right ≡ false → (room : ℕ) (rest : List Token) → depth (And left right) ≤ room
    → ReadsConjunction room (meaning (And left right)) (spelled (And left right) rest) rest
and-reads left right l r no_or no_joint room rest fits =
    one-more-fact room (meaning left) (meaning right) (spelled (And left right) rest) (spelled right rest) rest
    (l.as_conjunction room (token.Symbol symbol.And ∷ spelled right rest) no_or (omega arith))
    (r.as_fact room rest no_joint (omega arith))
    (length-spelled right rest)

or-reads : (left right : Spelling) → IsRead left → IsRead right → is_bare_or right ≡ false → (room : ℕ) (rest : List Token) → depth (Or left right) ≤ room → sees symbol.And rest ≡ false
    → ReadsDisjunction room (meaning (Or left right)) (spelled (Or left right) rest) rest
or-reads left right l r no_or room rest fits none =
    one-more-conjunction room (meaning left) (meaning right) (spelled (Or left right) rest) (spelled right rest) rest
    (l.as_whole room (token.Symbol symbol.Or ∷ spelled right rest) (omega arith) (or-is_no_and (spelled right rest)))
    (conjunction-ends room (meaning right) (spelled right rest) rest (r.as_conjunction room rest no_or (omega arith)) none)
    (length-spelled right rest)

not-reads : (inner : Spelling) → IsRead inner → is_bare_joint inner ≡ false → (room : ℕ) (rest : List Token) → depth (Not inner) ≤ room
    → g.fact room (spelled (Not inner) rest) ≡ Ok (meaning (Not inner), rest)
not-reads inner is no_joint zero rest fits = absurd (omega arith)
not-reads inner is no_joint (suc room) rest fits = not-first room (spelled inner rest) rest (meaning inner) (is.as_fact room rest no_joint (omega arith))

grouped-reads : (inner : Spelling) → IsRead inner → (room : ℕ) (rest : List Token) → depth (Grouped inner) ≤ room
    → g.fact room (spelled (Grouped inner) rest) ≡ Ok (meaning inner, rest)
grouped-reads inner is zero rest fits = absurd (omega arith)
grouped-reads inner is (suc room) rest fits =
    open-first room (spelled inner (token.Symbol symbol.Close ∷ rest)) rest (meaning inner)
    (whole-reads inner is room (token.Symbol symbol.Close ∷ rest) (omega arith) (close-is_no_and rest) (close-is_no_or rest))

true_is_false : true ≡ false → ⊥
true_is_false is = cc

spelling-reads : (s : Spelling) → HasNeededParentheses s → IsRead s
spelling-reads (Compared ts c) is = by-fact (Compared ts c) (λ room rest _. comparison-rest room ts rest c is)
spelling-reads (And left right) is =
    let l = spelling-reads left is.2 in
    let r = spelling-reads right is.3 in
    record {
      as_fact = λ room rest plain _. absurd (true_is_false plain);
      as_conjunction = λ room rest _ fits. and-reads left right l r is.0 is.1 room rest fits;
      as_whole = λ room rest fits none.
          one-conjunction room (meaning (And left right)) (spelled (And left right) rest) rest
          (conjunction-ends room (meaning (And left right)) (spelled (And left right) rest) rest (and-reads left right l r is.0 is.1 room rest fits) none);
    }
spelling-reads (Or left right) is =
    let l = spelling-reads left is.1 in
    let r = spelling-reads right is.2 in
    record {
      as_fact = λ room rest plain _. absurd (true_is_false plain);
      as_conjunction = λ room rest plain _. absurd (true_is_false plain);
      as_whole = λ room rest fits none. or-reads left right l r is.0 room rest fits none;
    }
spelling-reads (Not inner) is = by-fact (Not inner) (not-reads inner (spelling-reads inner is.1) is.0)
spelling-reads (Grouped inner) is = by-fact (Grouped inner) (grouped-reads inner (spelling-reads inner is))

-- a condition that is spelled is read as what it means
pub spelled-reads : (s : Spelling) (rest : List Token) → IsSpelling s → sees symbol.And rest ≡ false → sees symbol.Or rest ≡ false → g.cond (spelled s rest) ≡ Ok (meaning s, rest)
unfolding g.cond
spelled-reads s rest is no_and no_or = whole-reads s (spelling-reads s is.0) NESTING rest is.1 no_and no_or
