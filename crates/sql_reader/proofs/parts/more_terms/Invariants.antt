use Rattle.std.proofs.Common.{◌≡◌, ◌-◌, [], length}
use Rattle.sql_reader.specs.Grammar as spec
use Rattle.sql_reader.proofs.parts.more_terms.Given as goal

abbrev pub invariant-loop-turn : goal.invariant-loop-turn
invariant-loop-turn l = spec.more_terms (length l.fn.tokens) [] l.fn.tokens ≡ spec.more_terms (l._turn-end - l._turn) l.terms.items l.tokens
