use Rattle.resource_rules.proofs.TakenIn.{takes_in}
use Rattle.resource_rules.proofs.laws.answers_are_taken_in.Goals as goal

pub returns : goal.returns
returns c = takes_in
