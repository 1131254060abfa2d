use Rattle.resource_memory.proofs.RecordLaws.{saves_records}
use Rattle.resource_memory.proofs.laws.memories_save_what_records_say.Goals as goal

pub returns : goal.returns
returns c = saves_records
