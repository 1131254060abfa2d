use Rattle.statement_laws.specs.Texts.{HasTexts}
use Rattle.statement_laws.proofs.Passes.{AllBefore}
use Rattle.statement_laws.proofs.texts.tell_sets.Given as goal

abbrev pub invariant-loop-expr : goal.invariant-loop-expr
invariant-loop-expr l = AllBefore (λ s. HasTexts s.1) l.sets l.expr-index
