use Rattle.std.proofs.Common.{◌++◌, ◌∷◌, [], arith, rules}
use Rattle.std.proofs.lemmas.Grind.{common_steps}
use Rattle.sql_reader.specs.declared.symbols.Symbol.TheVariants as symbol
use Rattle.sql_reader.specs.Parsing.{more}
use Rattle.sql_reader.proofs.Turns.{one_more}
use Rattle.sql_reader.proofs.lists.listed.Goals as goal

pub loop-turn-preserved : goal.loop-turn-preserved
unfolding more
loop-turn-preserved g c =
    let e = one_more (λ n. more symbol.Comma g.T.Item.item (λ xs x. xs ++ x ∷ []) n c.loop-turn.items.items c.loop-turn.tokens) _ c.loop-turn._turn c.loop-turn-test.true c.loop-turn.invariant in
    first_of (search rules, grind (arith, common_steps))
