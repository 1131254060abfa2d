use Rattle.history_law.proofs.RecordNames.{records_name_resources}
use Rattle.history_law.proofs.laws.records_name_resources.Goals as goal

pub returns : goal.returns
returns c = records_name_resources
