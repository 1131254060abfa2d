use Rattle.statement_laws.proofs.WrittenText.{written_printable, written_utf8}
use Rattle.statement_laws.proofs.laws.canonical_texts_are_plain.Goals as goal

pub returns : goal.returns
returns c = record { printable = written_printable; utf8 = written_utf8 }
