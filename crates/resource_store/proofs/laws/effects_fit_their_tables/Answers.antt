use Rattle.resource_memory.proofs.EffectFits.{effects_fit}
use Rattle.resource_store.proofs.laws.effects_fit_their_tables.Goals as goal

pub returns : goal.returns
returns c = effects_fit
