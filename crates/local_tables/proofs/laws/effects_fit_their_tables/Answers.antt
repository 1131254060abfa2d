use Rattle.local_tables.proofs.FittingEffects.{effects_fit}
use Rattle.local_tables.proofs.laws.effects_fit_their_tables.Goals as goal

pub returns : goal.returns
returns c = effects_fit
