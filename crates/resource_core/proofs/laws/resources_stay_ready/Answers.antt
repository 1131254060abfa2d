use Rattle.resource_core.proofs.StayReady.{stays_ready}
use Rattle.resource_core.proofs.laws.resources_stay_ready.Goals as goal

pub returns : goal.returns
returns g c = stays_ready g.D.Disk.state
