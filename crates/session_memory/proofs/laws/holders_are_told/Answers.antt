use Rattle.session_memory.proofs.LoadLaws.{holders_told}
use Rattle.session_memory.proofs.laws.holders_are_told.Goals as goal

pub returns : goal.returns
returns c = holders_told
