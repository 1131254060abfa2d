use Rattle.statement_laws.proofs.WrittenLength.{written_length}
use Rattle.statement_laws.proofs.laws.canonical_texts_are_short.Goals as goal

pub returns : goal.returns
returns c = written_length
