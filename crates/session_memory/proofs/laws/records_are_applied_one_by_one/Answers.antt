use Rattle.session_memory.proofs.StepLaws.{snapshot_after}
use Rattle.session_memory.proofs.laws.records_are_applied_one_by_one.Goals as goal

pub returns : goal.returns
returns c = snapshot_after
