-- What is read is spelled.
use Rattle.std.proofs.Common.{◌≡◌, ◌≤◌, ◌^◌, ℕ, zero, suc, Bool, true, false, cond, List, [], ◌∷◌, ◌++◌, Option, Some, None, Ok, Err, refl, ap, ◌∙◌, subst, arith}
use Rattle.std.specs.Prelude.{IfOk, ◌||◌, pos, neg_ℤ, nat_lt, nat_le}
use Rattle.seata_types.specs.declared.limits.TheConstants.{NESTING}
use Rattle.seata_types.specs.declared.rows.Value.{Value}
use Rattle.seata_types.specs.declared.conditions.Op.{Op}
use Rattle.seata_types.specs.Condition.{Condition}
use Rattle.seata_types.specs.Condition as tree
use Rattle.sql_reader.specs.declared.symbols.Symbol.{Symbol}
use Rattle.sql_reader.specs.declared.symbols.Symbol.TheVariants as symbol
use Rattle.sql_reader.specs.declared.tokens.Token.{Token}
use Rattle.sql_reader.specs.declared.tokens.Token.TheVariants as token
use Rattle.sql_reader.specs.declared.errors.SqlKind.TheVariants as kind
use Rattle.sql_reader.specs.Parsing.{Outcome, Parser, and_then, ◌>>=◌, pure, is_symbol, same_symbol, sees, past, expect, unexpected, refused, more}
use Rattle.sql_reader.specs.Grammar as g
use Rattle.sql_reader.specs.Spelling.{Spelling, Compared, And, Or, Not, Grouped, meaning, spelled, is_bare_or, is_bare_joint, HasNeededParentheses, depth, SpelledSo}

-- ---- a comparison

-- the tokens that it took, which alone give the same
record Took {A : Type 0} (p : Parser A) (ts : List Token) (found : A × List Token) : Type 0 where
  read : List Token
  whole : ts ≡ read ++ found.1
  alone : p read ≡ Ok (found.0, [])

number-took : (n : ℕ) (ts : List Token) (b : Bool) → nat_lt n (2 ^ 63) ≡ b → IfOk (g.in_range b (pos n) (token.Number n ∷ ts) ts) (Took g.literal (token.Number n ∷ ts))
unfolding g.literal
number-took n ts true is = record { read = token.Number n ∷ []; whole = refl; alone = rw is refl }
number-took n ts false is = tt

negative-took : (n : ℕ) (ts : List Token) (b : Bool) → nat_le n (2 ^ 63) ≡ b
    → IfOk (g.in_range b (neg_ℤ (pos n)) (token.Symbol symbol.Minus ∷ token.Number n ∷ ts) ts) (Took g.literal (token.Symbol symbol.Minus ∷ token.Number n ∷ ts))
unfolding g.literal
negative-took n ts true is = record { read = token.Symbol symbol.Minus ∷ token.Number n ∷ []; whole = refl; alone = rw is refl }
negative-took n ts false is = tt

literal-took : (ts : List Token) → IfOk (g.literal ts) (Took g.literal ts)
unfolding g.literal
literal-took (token.Number n ∷ ts) = number-took n ts (nat_lt n (2 ^ 63)) refl
literal-took (token.Symbol symbol.Minus ∷ token.Number n ∷ ts) = negative-took n ts (nat_le n (2 ^ 63)) refl
literal-took (token.Symbol symbol.Minus ∷ ts) = tt
literal-took (token.Quoted t ∷ ts) = record { read = token.Quoted t ∷ []; whole = refl; alone = refl }
literal-took [] = tt
literal-took (t ∷ ts) = tt

-- a comparison behind its column
abbrev tested : List ℕ → Parser Condition
tested column = g.operator >>= (λ test. g.literal >>= (λ found. pure (tree.Cmp column test found)))

compared-took : (column : List ℕ) (s : Symbol) (test : Op) (ts : List Token) (o : Outcome Value) → g.op_of s ≡ Some test → IfOk o (Took g.literal ts)
    → IfOk (and_then o (λ found. pure (tree.Cmp column test found))) (Took (tested column) (token.Symbol s ∷ ts))
unfolding g.operator
compared-took column s test ts (Err refusal) is took = tt
compared-took column s test ts (Ok found) is took =
    record { read = token.Symbol s ∷ took.read; whole = ap (λ us. token.Symbol s ∷ us) took.whole; alone = rw (is, took.alone) refl }

operator-took : (column : List ℕ) (s : Symbol) (ts : List Token) (o : Option Op) → g.op_of s ≡ o
    → IfOk (and_then (g.operator_by o (token.Symbol s ∷ ts) ts) (λ test. g.literal >>= (λ found. pure (tree.Cmp column test found)))) (Took (tested column) (token.Symbol s ∷ ts))
operator-took column s ts None is = tt
operator-took column s ts (Some test) is = compared-took column s test ts (g.literal ts) is (literal-took ts)

tested-took : (column : List ℕ) (ts : List Token) → IfOk (tested column ts) (Took (tested column) ts)
unfolding g.operator
tested-took column (token.Symbol s ∷ ts) = operator-took column s ts (g.op_of s) refl
tested-took column [] = tt
tested-took column (t ∷ ts) = tt

named-took : (n : List ℕ) (ts : List Token) (o : Outcome Condition) → IfOk o (Took (tested n) ts) → IfOk o (Took g.comparison (token.Name n ∷ ts))
unfolding g.comparison g.name
named-took n ts (Err refusal) took = tt
named-took n ts (Ok found) took = record { read = token.Name n ∷ took.read; whole = ap (λ us. token.Name n ∷ us) took.whole; alone = took.alone }

comparison-took : (ts : List Token) → IfOk (g.comparison ts) (Took g.comparison ts)
unfolding g.comparison g.name
comparison-took (token.Name n ∷ ts) = named-took n ts (tested n ts) (tested-took n ts)
comparison-took [] = tt
comparison-took (t ∷ ts) = tt

-- ---- symbols

not-exact : (t : Token) → is_symbol symbol.Not t ≡ true → t ≡ token.Symbol symbol.Not
unfolding same_symbol
not-exact (token.Symbol symbol.Not) is = refl
not-exact (token.Symbol s) is = cc
not-exact t is = cc

open-exact : (t : Token) → is_symbol symbol.Open t ≡ true → t ≡ token.Symbol symbol.Open
unfolding same_symbol
open-exact (token.Symbol symbol.Open) is = refl
open-exact (token.Symbol s) is = cc
open-exact t is = cc

close-exact : (t : Token) → is_symbol symbol.Close t ≡ true → t ≡ token.Symbol symbol.Close
unfolding same_symbol
close-exact (token.Symbol symbol.Close) is = refl
close-exact (token.Symbol s) is = cc
close-exact t is = cc

and-exact : (t : Token) → is_symbol symbol.And t ≡ true → t ≡ token.Symbol symbol.And
unfolding same_symbol
and-exact (token.Symbol symbol.And) is = refl
and-exact (token.Symbol s) is = cc
and-exact t is = cc

or-exact : (t : Token) → is_symbol symbol.Or t ≡ true → t ≡ token.Symbol symbol.Or
unfolding same_symbol
or-exact (token.Symbol symbol.Or) is = refl
or-exact (token.Symbol s) is = cc
or-exact t is = cc

-- the symbol stands in front, or nothing is taken
seen : (s : Symbol) → ((t : Token) → is_symbol s t ≡ true → t ≡ token.Symbol s) → (ts : List Token) → sees s ts ≡ true → ts ≡ token.Symbol s ∷ past s ts
unfolding sees past
seen s exact [] is = cc
seen s exact (t ∷ ts) is = rw is (ap (λ u. u ∷ ts) (exact t is))

unseen : (s : Symbol) (ts : List Token) → sees s ts ≡ false → past s ts ≡ ts
unfolding past
unseen s ts is = rw is refl

-- ---- the three places in which a condition stands

abbrev AsFact : ℕ → Spelling → Type 0
AsFact room s = (is_bare_joint s ≡ false) × (depth s ≤ room)

abbrev AsConjunction : ℕ → Spelling → Type 0
AsConjunction room s = (is_bare_or s ≡ false) × (depth s ≤ room)

abbrev AsWhole : ℕ → Spelling → Type 0
AsWhole room s = depth s ≤ room

record Spells (Fits : Spelling → Type 0) (ts : List Token) (found : Condition × List Token) : Type 0 where
  spelling : Spelling
  tokens : ts ≡ spelled spelling found.1
  means : meaning spelling ≡ found.0
  needed : HasNeededParentheses spelling
  fits : Fits spelling

compared-spelled : (room : ℕ) (ts : List Token) (o : Outcome Condition) → IfOk o (Took g.comparison ts) → IfOk o (Spells (AsFact room) ts)
compared-spelled room ts (Err refusal) took = tt
compared-spelled room ts (Ok found) took = record { spelling = Compared took.read found.0; tokens = took.whole; means = refl; needed = took.alone; fits = (refl, omega arith) }

comparison-spelled : (room : ℕ) (ts : List Token) → IfOk (g.comparison ts) (Spells (AsFact room) ts)
comparison-spelled room ts = compared-spelled room ts (g.comparison ts) (comparison-took ts)

-- a chain so far, and the rest of it
more-spelled : (P Q : Spelling → Type 0) (s : Symbol) (item : Parser Condition) (join : Condition → Condition → Condition) → ((t : Token) → is_symbol s t ≡ true → t ≡ token.Symbol s)
    → ((ts : List Token) → IfOk (item ts) (Spells Q ts))
    → ((ts us vs : List Token) (b c : Condition) → Spells P ts (b, token.Symbol s ∷ us) → Spells Q us (c, vs) → Spells P ts (join b c, vs))
    → (n : ℕ) (b : Condition) (ts us : List Token) → Spells P ts (b, us) → IfOk (more s item join n b us) (Spells P ts)
unfolding more
more-spelled P Q s item join exact item-is joined zero b ts us so_far = so_far
more-spelled P Q s item join exact item-is joined (suc n) b ts us so_far =
    by_test (sees s us) refl (λ c vs next. more-spelled P Q s item join exact item-is joined n (join b c) ts vs next)
  where
    by_item : (o : Outcome Condition) → Spells P ts (b, token.Symbol s ∷ past s us) → IfOk o (Spells Q (past s us))
        → ((c : Condition) (vs : List Token) → Spells P ts (join b c, vs) → IfOk (more s item join n (join b c) vs) (Spells P ts))
        → IfOk (and_then o (λ c. more s item join n (join b c))) (Spells P ts)
    by_item (Err refusal) first next later = tt
    by_item (Ok found) first next later = later found.0 found.1 (joined ts (past s us) found.1 b found.0 first next)

    by_test : (goes_on : Bool) → sees s us ≡ goes_on → ((c : Condition) (vs : List Token) → Spells P ts (join b c, vs) → IfOk (more s item join n (join b c) vs) (Spells P ts))
        → IfOk (cond goes_on (item >>= (λ c. more s item join n (join b c))) (pure b) (past s us)) (Spells P ts)
    by_test true is later = by_item (item (past s us)) (subst (λ vs. Spells P ts (b, vs)) (seen s exact us is) so_far) (item-is (past s us)) later
    by_test false is later = rw (unseen s us is) so_far

and-joined : (room : ℕ) (ts us vs : List Token) (b c : Condition) → Spells (AsConjunction room) ts (b, token.Symbol symbol.And ∷ us) → Spells (AsFact room) us (c, vs)
    → Spells (AsConjunction room) ts (tree.And b c, vs)
and-joined room ts us vs b c left right = record {
  spelling = And left.spelling right.spelling;
  tokens = left.tokens ∙ ap (λ ws. spelled left.spelling (token.Symbol symbol.And ∷ ws)) right.tokens;
  means = rw (left.means, right.means) refl;
  needed = (left.fits.0, right.fits.0, left.needed, right.needed);
  fits = (refl, omega (arith, left.fits.1, right.fits.1));
}

or-joined : (room : ℕ) (ts us vs : List Token) (b c : Condition) → Spells (AsWhole room) ts (b, token.Symbol symbol.Or ∷ us) → Spells (AsConjunction room) us (c, vs)
    → Spells (AsWhole room) ts (tree.Or b c, vs)
or-joined room ts us vs b c left right = record {
  spelling = Or left.spelling right.spelling;
  tokens = left.tokens ∙ ap (λ ws. spelled left.spelling (token.Symbol symbol.Or ∷ ws)) right.tokens;
  means = rw (left.means, right.means) refl;
  needed = (right.fits.0, left.needed, right.needed);
  fits = omega (arith, left.fits, right.fits.1);
}

-- a joint isn't an OR where it is none of both
no_or : (s : Spelling) → is_bare_joint s ≡ false → is_bare_or s ≡ false
no_or (Or left right) is = cc
no_or (And left right) is = refl
no_or (Compared ts c) is = refl
no_or (Not inner) is = refl
no_or (Grouped inner) is = refl

chain-spelled : (P Q : Spelling → Type 0) (s : Symbol) (item : Parser Condition) (join : Condition → Condition → Condition) → ((t : Token) → is_symbol s t ≡ true → t ≡ token.Symbol s)
    → ((ts : List Token) → IfOk (item ts) (Spells Q ts))
    → ((ts us vs : List Token) (b c : Condition) → Spells P ts (b, token.Symbol s ∷ us) → Spells Q us (c, vs) → Spells P ts (join b c, vs))
    → ((x : Spelling) → Q x → P x)
    → (turns : List Token → ℕ) (ts : List Token) (o : Outcome Condition) → IfOk o (Spells Q ts) → IfOk (and_then o (λ c us. more s item join (turns us) c us)) (Spells P ts)
chain-spelled P Q s item join exact item-is joined wider turns ts (Err refusal) first = tt
chain-spelled P Q s item join exact item-is joined wider turns ts (Ok found) first =
    more-spelled P Q s item join exact item-is joined (turns found.1) found.0 ts found.1
    (record { spelling = first.spelling; tokens = first.tokens; means = first.means; needed = first.needed; fits = wider first.spelling first.fits })

conjunction-spelled : (room : ℕ) → ((ts : List Token) → IfOk (g.fact room ts) (Spells (AsFact room) ts)) → (ts : List Token) → IfOk (g.conjunction (g.fact room) ts) (Spells (AsConjunction room) ts)
unfolding g.conjunction
conjunction-spelled room facts ts =
    chain-spelled (AsConjunction room) (AsFact room) symbol.And (g.fact room) tree.And and-exact facts (and-joined room) (λ x fits. (no_or x fits.0, fits.1)) _ ts (g.fact room ts) (facts ts)

disjunction-spelled : (room : ℕ) → ((ts : List Token) → IfOk (g.fact room ts) (Spells (AsFact room) ts)) → (ts : List Token) → IfOk (g.disjunction (g.fact room) ts) (Spells (AsWhole room) ts)
unfolding g.disjunction
disjunction-spelled room facts ts =
    chain-spelled (AsWhole room) (AsConjunction room) symbol.Or (g.conjunction (g.fact room)) tree.Or or-exact (conjunction-spelled room facts) (or-joined room) (λ x fits. fits.1) _ ts
    (g.conjunction (g.fact room) ts) (conjunction-spelled room facts ts)

not-spelled : (room : ℕ) (ts us : List Token) (o : Outcome Condition) → ts ≡ token.Symbol symbol.Not ∷ us → IfOk o (Spells (AsFact room) us)
    → IfOk (and_then o (λ c. pure (tree.Not c))) (Spells (AsFact (suc room)) ts)
not-spelled room ts us (Err refusal) is inner = tt
not-spelled room ts us (Ok found) is inner = record {
  spelling = Not inner.spelling;
  tokens = is ∙ ap (λ vs. token.Symbol symbol.Not ∷ vs) inner.tokens;
  means = ap tree.Not inner.means;
  needed = (inner.fits.0, inner.needed);
  fits = (refl, omega (arith, inner.fits.1));
}

closed-spelled : (room : ℕ) (ts us : List Token) (found : Condition × List Token) → ts ≡ token.Symbol symbol.Open ∷ us → Spells (AsWhole room) us found
    → IfOk (and_then (expect symbol.Close found.1) (λ _. pure found.0)) (Spells (AsFact (suc room)) ts)
unfolding expect
closed-spelled room ts us found is inner = by_test (sees symbol.Close found.1) refl
  where
    by_test : (closed : Bool) → sees symbol.Close found.1 ≡ closed → IfOk (and_then (cond closed (Ok (tt, past symbol.Close found.1)) (unexpected found.1)) (λ (_ : Unit {0}). pure found.0)) (Spells (AsFact (suc room)) ts)
    by_test true closes = record {
      spelling = Grouped inner.spelling;
      tokens = is ∙ ap (λ vs. token.Symbol symbol.Open ∷ vs) (inner.tokens ∙ ap (spelled inner.spelling) (seen symbol.Close close-exact found.1 closes));
      means = inner.means;
      needed = inner.needed;
      fits = (refl, omega (arith, inner.fits));
    }
    by_test false closes = tt

grouped-spelled : (room : ℕ) (ts us : List Token) (o : Outcome Condition) → ts ≡ token.Symbol symbol.Open ∷ us → IfOk o (Spells (AsWhole room) us)
    → IfOk (and_then o (λ c. expect symbol.Close >>= (λ _. pure c))) (Spells (AsFact (suc room)) ts)
grouped-spelled room ts us (Err refusal) is inner = tt
grouped-spelled room ts us (Ok found) is inner = closed-spelled room ts us found is inner

innermost-spelled : (ts : List Token) → IfOk (g.innermost ts) (Spells (AsFact zero) ts)
unfolding g.innermost
innermost-spelled ts = by_test (sees symbol.Not ts || sees symbol.Open ts)
  where
    by_test : (b : Bool) → IfOk (cond b (refused kind.Depth ts) (g.comparison ts)) (Spells (AsFact zero) ts)
    by_test true = tt
    by_test false = comparison-spelled zero ts

fact-spelled : (room : ℕ) (ts : List Token) → IfOk (g.fact room ts) (Spells (AsFact room) ts)
unfolding g.fact
fact-spelled zero ts = innermost-spelled ts
fact-spelled (suc room) ts = by_not (sees symbol.Not ts) refl (fact-spelled room) (disjunction-spelled room (fact-spelled room))
  where
    by_open : (b : Bool) → sees symbol.Open ts ≡ b → ((us : List Token) → IfOk (g.disjunction (g.fact room) us) (Spells (AsWhole room) us))
        → IfOk (cond b (g.disjunction (g.fact room) >>= (λ c. expect symbol.Close >>= (λ _. pure c))) g.comparison (past symbol.Open ts)) (Spells (AsFact (suc room)) ts)
    by_open true is whole = grouped-spelled room ts (past symbol.Open ts) (g.disjunction (g.fact room) (past symbol.Open ts)) (seen symbol.Open open-exact ts is) (whole (past symbol.Open ts))
    by_open false is whole = rw (unseen symbol.Open ts is) (comparison-spelled (suc room) ts)

    by_not : (b : Bool) → sees symbol.Not ts ≡ b → ((us : List Token) → IfOk (g.fact room us) (Spells (AsFact room) us)) → ((us : List Token) → IfOk (g.disjunction (g.fact room) us) (Spells (AsWhole room) us))
        → IfOk (cond b (g.fact room >>= (λ c. pure (tree.Not c)))
        (λ us. cond (sees symbol.Open us) (g.disjunction (g.fact room) >>= (λ c. expect symbol.Close >>= (λ _. pure c))) g.comparison (past symbol.Open us)) (past symbol.Not ts)) (Spells (AsFact (suc room)) ts)
    by_not true is facts whole = not-spelled room ts (past symbol.Not ts) (g.fact room (past symbol.Not ts)) (seen symbol.Not not-exact ts is) (facts (past symbol.Not ts))
    by_not false is facts whole = rw (unseen symbol.Not ts is) (by_open (sees symbol.Open ts) refl whole)

by-outcome : (ts rest : List Token) (c : Condition) (o : Outcome Condition) → IfOk o (Spells (AsWhole NESTING) ts) → o ≡ Ok (c, rest) → SpelledSo ts c rest
by-outcome ts rest c (Err refusal) is found = cc
by-outcome ts rest c (Ok was) is found =
    let same : was ≡ (c, rest) = cc in
    record { spelling = is.spelling; as_tokens = is.tokens ∙ ap (λ (w : Condition × List Token). spelled is.spelling w.1) same; means = is.means ∙ ap (λ (w : Condition × List Token). w.0) same; fits = (is.needed, is.fits) }

-- what is read as a condition is spelled
pub spelled-so : (ts rest : List Token) (c : Condition) → g.cond ts ≡ Ok (c, rest) → SpelledSo ts c rest
unfolding g.cond
spelled-so ts rest c is = by-outcome ts rest c (g.disjunction (g.fact NESTING) ts) (disjunction-spelled NESTING (fact-spelled NESTING) ts) is
