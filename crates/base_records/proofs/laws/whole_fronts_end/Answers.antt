use Rattle.base_records.proofs.Cutting.{whole_fronts_end}
use Rattle.base_records.proofs.laws.whole_fronts_end.Goals as goal

pub returns : goal.returns
returns c = whole_fronts_end
