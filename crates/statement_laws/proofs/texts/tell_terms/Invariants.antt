use Rattle.statement_laws.specs.Texts.{HasTextOf}
use Rattle.statement_laws.proofs.Passes.{AllBefore}
use Rattle.statement_laws.proofs.texts.tell_terms.Given as goal

abbrev pub invariant-loop-term : goal.invariant-loop-term
invariant-loop-term l = AllBefore (λ t. HasTextOf t.1) l.terms l.term-index
