use Rattle.base_records.proofs.Cutting.{texts_differ}
use Rattle.base_records.proofs.laws.records_tell_their_text.Goals as goal

pub returns : goal.returns
returns c = texts_differ
