use Rattle.std.proofs.Common.{◌≡◌, ◌-◌, ◌++◌, ◌∷◌, []}
use Rattle.sql_reader.specs.declared.symbols.Symbol.TheVariants as symbol
use Rattle.sql_reader.specs.Parsing.{more}
use Rattle.sql_reader.specs.Grammar as spec
use Rattle.sql_reader.proofs.lists.listed.Given as goal

abbrev pub invariant-loop-turn : goal.invariant-loop-turn
invariant-loop-turn g l =
    spec.listed g.T.Item.item l.fn.tokens ≡ more symbol.Comma g.T.Item.item (λ xs x. xs ++ x ∷ []) (l._turn-end - l._turn) l.items.items l.tokens
