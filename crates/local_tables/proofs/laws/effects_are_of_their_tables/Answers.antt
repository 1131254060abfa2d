use Rattle.local_tables.proofs.EffectRowLaws.{effects_of_tables}
use Rattle.local_tables.proofs.laws.effects_are_of_their_tables.Goals as goal

pub returns : goal.returns
returns c = effects_of_tables
