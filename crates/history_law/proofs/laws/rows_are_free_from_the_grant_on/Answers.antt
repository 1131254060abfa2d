use Rattle.history_law.proofs.SinceGrants.{free_law}
use Rattle.history_law.proofs.laws.rows_are_free_from_the_grant_on.Goals as goal

pub returns : goal.returns
returns c = free_law
