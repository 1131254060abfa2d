use Rattle.std.proofs.Common.{◌≡◌, ◌≢◌, ℕ, ◌-◌, List, false, true, refl, arith, rules}
use Rattle.sql_reader.specs.declared.tokens.Token.{Token}
use Rattle.std.proofs.lemmas.Grind.{common_steps}
use Rattle.seata_types.specs.Condition as tree
use Rattle.sql_reader.specs.declared.symbols.Symbol.TheVariants as symbol
use Rattle.sql_reader.specs.Parsing.{◌>>=◌, ◌>>◌, pure, expect, more, sees, past}
use Rattle.sql_reader.specs.Grammar.{fact, comparison, conjunction, disjunction}
use Rattle.sql_reader.proofs.Turns.{one_more, deeper}
use Rattle.sql_reader.proofs.conditions.+condition.Goals as goal

fact-else : (room : ℕ) (ts : List Token) → room ≢ 0 → sees symbol.Not ts ≡ false → sees symbol.Open (past symbol.Not ts) ≡ false
    → fact room ts ≡ comparison (past symbol.Open (past symbol.Not ts))
unfolding fact
fact-else room ts some not_not not_open = rw (deeper (λ n. fact n ts) room some, not_not, not_open) refl

fact-open : (room : ℕ) (ts : List Token) → room ≢ 0 → sees symbol.Not ts ≡ false → sees symbol.Open (past symbol.Not ts) ≡ true
    → fact room ts ≡ (disjunction (fact (room - 1)) >>= (λ inner. expect symbol.Close >> pure inner)) (past symbol.Open (past symbol.Not ts))
unfolding fact
fact-open room ts some not_not is_open = rw (deeper (λ n. fact n ts) room some, not_not, is_open) refl

pub fact-returns-in_err-expect : goal.fact-returns-in_err-expect
fact-returns-in_err-expect t c =
    let is = fact-open c.args.room c.args.tokens.now (omega arith) (grind (arith, common_steps)) (grind (arith, common_steps)) in
    rw is (first_of (search rules, grind (arith, common_steps)))

pub fact-returns : goal.fact-returns
fact-returns t c =
    let is = fact-else c.args.room c.args.tokens.now (omega arith) (grind (arith, common_steps)) (grind (arith, common_steps)) in
    rw is (first_of (search rules, grind (arith, common_steps)))

pub conjunction-loop-turn-preserved : goal.conjunction-loop-turn-preserved
unfolding more
conjunction-loop-turn-preserved t c =
    let e = one_more (λ n. more symbol.And (fact c.args.room) tree.And n c.loop-turn.all c.loop-turn.tokens) _ c.loop-turn._turn c.loop-turn-test.true c.loop-turn.invariant in
    first_of (search rules, grind (arith, common_steps))

pub disjunction-loop-turn-preserved : goal.disjunction-loop-turn-preserved
unfolding more
disjunction-loop-turn-preserved t c =
    let e = one_more (λ n. more symbol.Or (conjunction (fact c.args.room)) tree.Or n c.loop-turn.any c.loop-turn.tokens) _ c.loop-turn._turn c.loop-turn-test.true c.loop-turn.invariant in
    first_of (search rules, grind (arith, common_steps))
