use Rattle.sql_reader.proofs.ReadBack.{reading_canonical}
use Rattle.sql_reader.proofs.laws.canonical_texts_read_back.Goals as goal

pub returns : goal.returns
returns c = reading_canonical
