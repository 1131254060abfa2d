use Rattle.resource_memory.proofs.RecordLaws.{keeps}
use Rattle.resource_memory.proofs.laws.records_are_kept.Goals as goal

pub returns : goal.returns
returns c = keeps
