use Rattle.history_law.proofs.BranchRecords.{branches_law}
use Rattle.history_law.proofs.laws.records_are_of_granted_branches.Goals as goal

pub returns : goal.returns
returns c = branches_law
