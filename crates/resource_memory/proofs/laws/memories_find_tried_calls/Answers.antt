use Rattle.resource_memory.proofs.TriedLaws.{finds_tried_calls}
use Rattle.resource_memory.proofs.laws.memories_find_tried_calls.Goals as goal

pub returns : goal.returns
returns c = finds_tried_calls
