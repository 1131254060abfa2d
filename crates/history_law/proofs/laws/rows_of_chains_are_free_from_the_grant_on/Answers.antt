use Rattle.history_law.proofs.SinceGrants.{free_of_chains}
use Rattle.history_law.proofs.laws.rows_of_chains_are_free_from_the_grant_on.Goals as goal

pub returns : goal.returns
returns c = free_of_chains
