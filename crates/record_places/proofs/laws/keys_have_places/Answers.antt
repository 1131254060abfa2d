use Rattle.record_places.proofs.EffectLaws.{effects_have_keys}
use Rattle.record_places.proofs.FaultLaws.{faults_have_places}
use Rattle.record_places.proofs.laws.keys_have_places.Goals as goal

pub returns-clause-effects : goal.returns-clause-effects
returns-clause-effects c = effects_have_keys

pub returns-clause-faults : goal.returns-clause-faults
returns-clause-faults c = faults_have_places
