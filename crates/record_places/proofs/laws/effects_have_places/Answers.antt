use Rattle.record_places.proofs.EffectLaws.{effects_have_places}
use Rattle.record_places.proofs.laws.effects_have_places.Goals as goal

pub returns : goal.returns
returns c = effects_have_places
