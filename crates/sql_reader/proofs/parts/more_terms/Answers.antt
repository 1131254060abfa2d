use Rattle.std.proofs.Common.{arith, rules}
use Rattle.std.proofs.lemmas.Grind.{common_steps}
use Rattle.sql_reader.specs.Grammar.{more_terms}
use Rattle.sql_reader.proofs.Turns.{one_more, no_more}
use Rattle.sql_reader.proofs.parts.more_terms.Goals as goal

pub returns-in_default : goal.returns-in_default
unfolding more_terms
returns-in_default c =
    let e = one_more (λ n. more_terms n c.loop-turn.terms.items c.loop-turn.tokens) _ c.loop-turn._turn c.loop-turn-test.true c.loop-turn.invariant in
    first_of (search rules, grind (arith, common_steps))

pub returns-in_err-next : goal.returns-in_err-next
unfolding more_terms
returns-in_err-next c =
    let e = one_more (λ n. more_terms n c.loop-turn.terms.items c.loop-turn.tokens) _ c.loop-turn._turn c.loop-turn-test.true c.loop-turn.invariant in
    first_of (search rules, grind (arith, common_steps))

pub loop-turn-preserved : goal.loop-turn-preserved
unfolding more_terms
loop-turn-preserved c =
    let e = one_more (λ n. more_terms n c.loop-turn.terms.items c.loop-turn.tokens) _ c.loop-turn._turn c.loop-turn-test.true c.loop-turn.invariant in
    first_of (search rules, grind (arith, common_steps))

pub returns : goal.returns
unfolding more_terms
returns c =
    let e = no_more (λ n. more_terms n c.loop-turn.terms.items c.loop-turn.tokens) _ c.loop-turn._turn c.loop-turn-test.false c.loop-turn.invariant in
    first_of (search rules, grind (arith, common_steps))
