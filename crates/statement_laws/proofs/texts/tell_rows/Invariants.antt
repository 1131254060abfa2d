use Rattle.std.specs.Prelude.{All}
use Rattle.statement_laws.specs.Texts.{HasText}
use Rattle.statement_laws.proofs.Passes.{AllBefore}
use Rattle.statement_laws.proofs.texts.tell_rows.Given as goal

abbrev pub invariant-loop-row : goal.invariant-loop-row
invariant-loop-row l = AllBefore (λ r. All HasText r) l.rows l.row-index
