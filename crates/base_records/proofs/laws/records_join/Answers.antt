use Rattle.base_records.proofs.Cutting.{records_join}
use Rattle.base_records.proofs.laws.records_join.Goals as goal

pub returns : goal.returns
returns c = records_join
