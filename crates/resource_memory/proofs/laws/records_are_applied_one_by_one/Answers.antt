use Rattle.resource_memory.proofs.RecordLaws.{applies}
use Rattle.resource_memory.proofs.laws.records_are_applied_one_by_one.Goals as goal

pub returns : goal.returns
returns c = applies
