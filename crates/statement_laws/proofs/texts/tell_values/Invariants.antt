use Rattle.statement_laws.specs.Texts.{HasText}
use Rattle.statement_laws.proofs.Passes.{AllBefore}
use Rattle.statement_laws.proofs.texts.tell_values.Given as goal

abbrev pub invariant-loop-value : goal.invariant-loop-value
invariant-loop-value l = AllBefore HasText l.values l.value-index
