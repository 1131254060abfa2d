use Rattle.resource_memory.proofs.DoneCalls.{finds_undos}
use Rattle.resource_store.proofs.laws.undo_records_are_found_by_call.Goals as goal

pub returns : goal.returns
returns c = finds_undos
