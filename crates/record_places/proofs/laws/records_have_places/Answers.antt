use Rattle.record_places.proofs.RecordLaws.{records_have_places}
use Rattle.record_places.proofs.laws.records_have_places.Goals as goal

pub returns : goal.returns
returns c = records_have_places
