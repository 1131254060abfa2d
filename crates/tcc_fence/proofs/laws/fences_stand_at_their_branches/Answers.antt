use Rattle.tcc_fence.proofs.RecordLaws.{fences_stand}
use Rattle.tcc_fence.proofs.laws.fences_stand_at_their_branches.Goals as goal

pub returns : goal.returns
returns c = fences_stand
