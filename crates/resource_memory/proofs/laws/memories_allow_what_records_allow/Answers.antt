use Rattle.resource_memory.proofs.RecordLaws.{allows}
use Rattle.resource_memory.proofs.laws.memories_allow_what_records_allow.Goals as goal

pub returns : goal.returns
returns c = allows
