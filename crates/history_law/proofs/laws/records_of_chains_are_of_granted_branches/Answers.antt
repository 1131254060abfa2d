use Rattle.history_law.proofs.BranchRecords.{branches_of_chains}
use Rattle.history_law.proofs.laws.records_of_chains_are_of_granted_branches.Goals as goal

pub returns : goal.returns
returns c = branches_of_chains
