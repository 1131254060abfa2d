use Rattle.std.proofs.Common.{◌≡◌, ◌+◌, ◌-◌, ◌*◌}
use Rattle.seata_types.specs.Condition as tree
use Rattle.sql_reader.specs.declared.symbols.Symbol.TheVariants as symbol
use Rattle.sql_reader.specs.Parsing.{more}
use Rattle.sql_reader.specs.Grammar as spec
use Rattle.sql_reader.proofs.conditions.+condition.Given as goal

abbrev pub decreases-fact : goal.decreases-fact
decreases-fact l = 3 * l.room

abbrev pub decreases-conjunction : goal.decreases-conjunction
decreases-conjunction l = 3 * l.room + 1

abbrev pub decreases-disjunction : goal.decreases-disjunction
decreases-disjunction l = 3 * l.room + 2

abbrev pub invariant-conjunction-loop-turn : goal.invariant-conjunction-loop-turn
invariant-conjunction-loop-turn l =
    spec.conjunction (spec.fact l.room) l.fn.tokens ≡ more symbol.And (spec.fact l.room) tree.And (l._turn-end - l._turn) l.all l.tokens

abbrev pub invariant-disjunction-loop-turn : goal.invariant-disjunction-loop-turn
invariant-disjunction-loop-turn l =
    spec.disjunction (spec.fact l.room) l.fn.tokens ≡ more symbol.Or (spec.conjunction (spec.fact l.room)) tree.Or (l._turn-end - l._turn) l.any l.tokens
