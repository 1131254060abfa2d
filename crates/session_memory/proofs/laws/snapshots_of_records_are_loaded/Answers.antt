use Rattle.session_memory.proofs.LoadLaws.{loads_allowed}
use Rattle.session_memory.proofs.laws.snapshots_of_records_are_loaded.Goals as goal

pub returns : goal.returns
returns c = loads_allowed
