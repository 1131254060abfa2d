use Rattle.resource_memory.proofs.RecordLaws.{finds_undo_records}
use Rattle.resource_memory.proofs.laws.memories_find_undo_records.Goals as goal

pub returns : goal.returns
returns c = finds_undo_records
