use Rattle.chain_law.proofs.Calls.{runs_chained}
use Rattle.chain_law.proofs.laws.runs_are_chained.Goals as goal

pub returns : goal.returns
returns g c = runs_chained g.H.D.Disk.state g.H.Shelf.state (g.met.H.D.Disk g.world.𝓛 g.world.𝓜 g.world.𝓡 ((λ s x. x), (λ x. x), (λ x. x), λ x. x)).lawful
