use Rattle.verdict_law.proofs.Judged.{yes_is_safe}
use Rattle.verdict_law.proofs.laws.a_yes_is_safe.Goals as goal

pub returns : goal.returns
returns c = yes_is_safe
