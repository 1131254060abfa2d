-- Conditions are read from their pieces.
use Rattle.std.proofs.Common.{◌≡◌, ◌≤◌, ℕ, zero, suc, Bool, true, false, List, [], ◌∷◌, ◌++◌, length, Ok, refl, ap, ◌∙◌, arith}
use Rattle.std.specs.Prelude.{◌||◌}
use Rattle.seata_types.specs.declared.limits.TheConstants.{NESTING}
use Rattle.seata_types.specs.declared.rows.Value.{Value}
use Rattle.seata_types.specs.declared.conditions.Op.{Op}
use Rattle.seata_types.specs.declared.conditions.Op.TheVariants as op
use Rattle.seata_types.specs.Condition.{Condition}
use Rattle.seata_types.specs.Condition as tree
use Rattle.sql_reader.specs.declared.symbols.Symbol.TheVariants as symbol
use Rattle.sql_reader.specs.declared.tokens.Token.{Token}
use Rattle.sql_reader.specs.declared.tokens.Token.TheVariants as token
use Rattle.sql_reader.specs.Parsing.{same_symbol, sees, past, expect, more}
use Rattle.sql_reader.specs.Grammar as g
use Rattle.sql_reader.specs.Canonical.{Fixed, Name, value_piece, op_symbol, is_or, is_and, grouped, condition_pieces}
use Rattle.sql_reader.specs.Readable.{IsLiteral, HasReadableParts, grouped_nesting, nesting, IsCondition}
use Rattle.sql_reader.proofs.Ahead.{ahead, ahead-append, length-ahead, literal-ahead, more-stops, more-goes}

operator-ahead : (test : Op) (rest : List Token) → g.operator (token.Symbol (op_symbol test) ∷ rest) ≡ Ok (test, rest)
unfolding g.operator
operator-ahead op.Eq rest = refl
operator-ahead op.Ne rest = refl
operator-ahead op.Lt rest = refl
operator-ahead op.Le rest = refl
operator-ahead op.Gt rest = refl
operator-ahead op.Ge rest = refl

comparison-ahead : (column : List ℕ) (test : Op) (compared : Value) (rest : List Token) → IsLiteral compared
    → g.comparison (ahead (Name column ∷ Fixed (op_symbol test) ∷ value_piece compared ∷ []) rest) ≡ Ok (tree.Cmp column test compared, rest)
unfolding g.comparison g.name
comparison-ahead column test compared rest is =
    rw (operator-ahead test (ahead (value_piece compared ∷ []) rest), literal-ahead compared rest is) refl

-- a fact that begins with a name
pub name-first : (room : ℕ) (n : List ℕ) (ts : List Token) → g.fact room (token.Name n ∷ ts) ≡ g.comparison (token.Name n ∷ ts)
unfolding g.fact g.innermost sees past
name-first zero n ts = refl
name-first (suc room) n ts = refl

pub not-first : (room : ℕ) (ts rest : List Token) (c : Condition) → g.fact room ts ≡ Ok (c, rest) → g.fact (suc room) (token.Symbol symbol.Not ∷ ts) ≡ Ok (tree.Not c, rest)
unfolding g.fact sees past same_symbol
not-first room ts rest c is = rw is refl

pub open-first : (room : ℕ) (ts rest : List Token) (c : Condition) → g.disjunction (g.fact room) ts ≡ Ok (c, token.Symbol symbol.Close ∷ rest)
    → g.fact (suc room) (token.Symbol symbol.Open ∷ ts) ≡ Ok (c, rest)
unfolding g.fact sees past same_symbol expect
open-first room ts rest c is = rw is refl

-- ---- chains: what is read of a condition, with the turns that are left

pub record ReadsConjunction (room : ℕ) (c : Condition) (ts rest : List Token) : Type 0 where
  pub turns : ℕ
  pub enough : length rest ≤ turns
  pub reads : g.conjunction (g.fact room) ts ≡ more symbol.And (g.fact room) tree.And turns c rest

pub record ReadsDisjunction (room : ℕ) (c : Condition) (ts rest : List Token) : Type 0 where
  pub turns : ℕ
  pub enough : length rest ≤ turns
  pub reads : g.disjunction (g.fact room) ts ≡ more symbol.Or (g.conjunction (g.fact room)) tree.Or turns c rest

pub one-fact : (room : ℕ) (c : Condition) (ts rest : List Token) → g.fact room ts ≡ Ok (c, rest) → ReadsConjunction room c ts rest
unfolding g.conjunction
one-fact room c ts rest is = record { turns = length rest; enough = omega arith; reads = rw is refl }

pub one-more-fact : (room : ℕ) (left right : Condition) (ts middle rest : List Token) → ReadsConjunction room left ts (token.Symbol symbol.And ∷ middle)
    → g.fact room middle ≡ Ok (right, rest) → length rest ≤ length middle → ReadsConjunction room (tree.And left right) ts rest
one-more-fact room left right ts middle rest before is shorter = by_turns before.turns before.enough before.reads
  where
    by_turns : (turns : ℕ) → length (token.Symbol symbol.And ∷ middle) ≤ turns → g.conjunction (g.fact room) ts ≡ more symbol.And (g.fact room) tree.And turns left (token.Symbol symbol.And ∷ middle)
        → ReadsConjunction room (tree.And left right) ts rest
    by_turns zero enough reads = absurd (omega arith)
    by_turns (suc n) enough reads = record { turns = n; enough = omega arith; reads = reads ∙ more-goes symbol.And (g.fact room) tree.And n left right middle rest is }

pub conjunction-ends : (room : ℕ) (c : Condition) (ts rest : List Token) → ReadsConjunction room c ts rest → sees symbol.And rest ≡ false → g.conjunction (g.fact room) ts ≡ Ok (c, rest)
conjunction-ends room c ts rest is none = is.reads ∙ more-stops symbol.And (g.fact room) tree.And is.turns c rest none

pub one-conjunction : (room : ℕ) (c : Condition) (ts rest : List Token) → g.conjunction (g.fact room) ts ≡ Ok (c, rest) → ReadsDisjunction room c ts rest
unfolding g.disjunction
one-conjunction room c ts rest is = record { turns = length rest; enough = omega arith; reads = rw is refl }

pub one-more-conjunction : (room : ℕ) (left right : Condition) (ts middle rest : List Token) → ReadsDisjunction room left ts (token.Symbol symbol.Or ∷ middle)
    → g.conjunction (g.fact room) middle ≡ Ok (right, rest) → length rest ≤ length middle → ReadsDisjunction room (tree.Or left right) ts rest
one-more-conjunction room left right ts middle rest before is shorter = by_turns before.turns before.enough before.reads
  where
    by_turns : (turns : ℕ) → length (token.Symbol symbol.Or ∷ middle) ≤ turns → g.disjunction (g.fact room) ts ≡ more symbol.Or (g.conjunction (g.fact room)) tree.Or turns left (token.Symbol symbol.Or ∷ middle)
        → ReadsDisjunction room (tree.Or left right) ts rest
    by_turns zero enough reads = absurd (omega arith)
    by_turns (suc n) enough reads = record { turns = n; enough = omega arith; reads = reads ∙ more-goes symbol.Or (g.conjunction (g.fact room)) tree.Or n left right middle rest is }

pub disjunction-ends : (room : ℕ) (c : Condition) (ts rest : List Token) → ReadsDisjunction room c ts rest → sees symbol.Or rest ≡ false → g.disjunction (g.fact room) ts ≡ Ok (c, rest)
disjunction-ends room c ts rest is none = is.reads ∙ more-stops symbol.Or (g.conjunction (g.fact room)) tree.Or is.turns c rest none

-- ---- the three places in which a condition stands

record ReadsBackCondition (c : Condition) : Type 0 where
  as_fact : (room : ℕ) (rest : List Token) → (is_or c || is_and c) ≡ false → nesting c ≤ room → g.fact room (ahead (condition_pieces c) rest) ≡ Ok (c, rest)
  as_conjunction : (room : ℕ) (rest : List Token) → is_or c ≡ false → nesting c ≤ room → ReadsConjunction room c (ahead (condition_pieces c) rest) rest
  as_whole : (room : ℕ) (rest : List Token) → nesting c ≤ room → sees symbol.And rest ≡ false → ReadsDisjunction room c (ahead (condition_pieces c) rest) rest

pub close-is_no_and : (rest : List Token) → sees symbol.And (token.Symbol symbol.Close ∷ rest) ≡ false
unfolding sees same_symbol
close-is_no_and rest = refl

pub close-is_no_or : (rest : List Token) → sees symbol.Or (token.Symbol symbol.Close ∷ rest) ≡ false
unfolding sees same_symbol
close-is_no_or rest = refl

pub or-is_no_and : (rest : List Token) → sees symbol.And (token.Symbol symbol.Or ∷ rest) ≡ false
unfolding sees same_symbol
or-is_no_and rest = refl

-- in parentheses it is a fact
in-parentheses : (c : Condition) → ReadsBackCondition c → (room : ℕ) (rest : List Token) → suc (nesting c) ≤ room → g.fact room (ahead (grouped true (condition_pieces c)) rest) ≡ Ok (c, rest)
in-parentheses c is zero rest fits = absurd (omega arith)
in-parentheses c is (suc room) rest fits =
    let close = token.Symbol symbol.Close ∷ rest in
    open-first room (ahead (condition_pieces c ++ Fixed symbol.Close ∷ []) rest) rest c
    (ap (g.disjunction (g.fact room)) (ahead-append (condition_pieces c) (Fixed symbol.Close ∷ []) rest)
    ∙ disjunction-ends room c (ahead (condition_pieces c) close) close (is.as_whole room close (omega arith) (close-is_no_and rest)) (close-is_no_or rest))

-- a part as a fact, in parentheses where it is joined
part-fact : (b : Bool) (c : Condition) → ReadsBackCondition c → (is_or c || is_and c) ≡ b → (room : ℕ) (rest : List Token) → grouped_nesting b (nesting c) ≤ room
    → g.fact room (ahead (grouped b (condition_pieces c)) rest) ≡ Ok (c, rest)
part-fact true c is joined room rest fits = in-parentheses c is room rest fits
part-fact false c is joined room rest fits = is.as_fact room rest joined fits

-- a part of a chain, in parentheses where it is an Or
part-conjunction : (b : Bool) (c : Condition) → ReadsBackCondition c → is_or c ≡ b → (room : ℕ) (rest : List Token) → grouped_nesting b (nesting c) ≤ room
    → ReadsConjunction room c (ahead (grouped b (condition_pieces c)) rest) rest
part-conjunction true c is or room rest fits = one-fact room c _ rest (in-parentheses c is room rest fits)
part-conjunction false c is or room rest fits = is.as_conjunction room rest or fits

-- what isn't joined, by its fact
by-fact : (c : Condition) → (is_or c || is_and c) ≡ false → ((room : ℕ) (rest : List Token) → nesting c ≤ room → g.fact room (ahead (condition_pieces c) rest) ≡ Ok (c, rest)) → ReadsBackCondition c
by-fact c plain is = record {
  as_fact = λ room rest _ fits. is room rest fits;
  as_conjunction = λ room rest _ fits. one-fact room c _ rest (is room rest fits);
  as_whole = λ room rest fits none. one-conjunction room c _ rest (conjunction-ends room c _ rest (one-fact room c _ rest (is room rest fits)) none);
}

and-reads : (left right : Condition) → ReadsBackCondition left → ReadsBackCondition right → (room : ℕ) (rest : List Token) → nesting (tree.And left right) ≤ room
    → ReadsConjunction room (tree.And left right) (ahead (condition_pieces (tree.And left right)) rest) rest
unfolding condition_pieces
and-reads left right l r room rest fits =
    let right_pieces = grouped (is_or right || is_and right) (condition_pieces right) in
    let middle = ahead right_pieces rest in
    rw (ahead-append (grouped (is_or left) (condition_pieces left)) (Fixed symbol.And ∷ right_pieces) rest)
    (one-more-fact room left right _ middle rest
    (part-conjunction (is_or left) left l refl room (token.Symbol symbol.And ∷ middle) (omega arith))
    (part-fact (is_or right || is_and right) right r refl room rest (omega arith))
    (length-ahead right_pieces rest))

or-reads : (left right : Condition) → ReadsBackCondition left → ReadsBackCondition right → (room : ℕ) (rest : List Token) → nesting (tree.Or left right) ≤ room → sees symbol.And rest ≡ false
    → ReadsDisjunction room (tree.Or left right) (ahead (condition_pieces (tree.Or left right)) rest) rest
unfolding condition_pieces
or-reads left right l r room rest fits none =
    let right_pieces = grouped (is_or right) (condition_pieces right) in
    let middle = ahead right_pieces rest in
    rw (ahead-append (condition_pieces left) (Fixed symbol.Or ∷ right_pieces) rest)
    (one-more-conjunction room left right _ middle rest
    (l.as_whole room (token.Symbol symbol.Or ∷ middle) (omega arith) (or-is_no_and middle))
    (conjunction-ends room right _ rest (part-conjunction (is_or right) right r refl room rest (omega arith)) none)
    (length-ahead right_pieces rest))

not-reads : (inner : Condition) → ReadsBackCondition inner → (room : ℕ) (rest : List Token) → nesting (tree.Not inner) ≤ room → g.fact room (ahead (condition_pieces (tree.Not inner)) rest) ≡ Ok (tree.Not inner, rest)
unfolding condition_pieces
not-reads inner is zero rest fits = absurd (omega arith)
not-reads inner is (suc room) rest fits =
    not-first room (ahead (grouped (is_or inner || is_and inner) (condition_pieces inner)) rest) rest inner
    (part-fact (is_or inner || is_and inner) inner is refl room rest (omega arith))

cmp-reads : (column : List ℕ) (test : Op) (compared : Value) → IsLiteral compared → (room : ℕ) (rest : List Token)
    → g.fact room (ahead (condition_pieces (tree.Cmp column test compared)) rest) ≡ Ok (tree.Cmp column test compared, rest)
unfolding condition_pieces
cmp-reads column test compared is room rest =
    name-first room column (ahead (Fixed (op_symbol test) ∷ value_piece compared ∷ []) rest) ∙ comparison-ahead column test compared rest is

true_is_false : true ≡ false → ⊥
true_is_false is = cc

condition-reads : (c : Condition) → HasReadableParts c → ReadsBackCondition c
condition-reads (tree.Cmp column test compared) parts = by-fact (tree.Cmp column test compared) refl (λ room rest _. cmp-reads column test compared parts.1 room rest)
condition-reads (tree.And left right) parts =
    let l = condition-reads left parts.0 in
    let r = condition-reads right parts.1 in
    record {
      as_fact = λ room rest plain _. absurd (true_is_false plain);
      as_conjunction = λ room rest _ fits. and-reads left right l r room rest fits;
      as_whole = λ room rest fits none. one-conjunction room (tree.And left right) _ rest (conjunction-ends room (tree.And left right) _ rest (and-reads left right l r room rest fits) none);
    }
condition-reads (tree.Or left right) parts =
    let l = condition-reads left parts.0 in
    let r = condition-reads right parts.1 in
    record {
      as_fact = λ room rest plain _. absurd (true_is_false plain);
      as_conjunction = λ room rest plain _. absurd (true_is_false plain);
      as_whole = λ room rest fits none. or-reads left right l r room rest fits none;
    }
condition-reads (tree.Not inner) parts = by-fact (tree.Not inner) refl (λ room rest fits. not-reads inner (condition-reads inner parts) room rest fits)

pub cond-ahead : (c : Condition) (rest : List Token) → IsCondition c → sees symbol.And rest ≡ false → sees symbol.Or rest ≡ false → g.cond (ahead (condition_pieces c) rest) ≡ Ok (c, rest)
unfolding g.cond
cond-ahead c rest is no_and no_or =
    disjunction-ends NESTING c _ rest ((condition-reads c is.0).as_whole NESTING rest is.1 no_and) no_or

-- a condition in parentheses, where a condition stands
pub open-whole : (room : ℕ) (ts rest : List Token) (c : Condition) → g.disjunction (g.fact room) ts ≡ Ok (c, token.Symbol symbol.Close ∷ rest)
    → sees symbol.And rest ≡ false → sees symbol.Or rest ≡ false → g.disjunction (g.fact (suc room)) (token.Symbol symbol.Open ∷ ts) ≡ Ok (c, rest)
open-whole room ts rest c is no_and no_or =
    let alone = one-fact (suc room) c _ rest (open-first room ts rest c is) in
    disjunction-ends (suc room) c _ rest (one-conjunction (suc room) c _ rest (conjunction-ends (suc room) c _ rest alone no_and)) no_or
