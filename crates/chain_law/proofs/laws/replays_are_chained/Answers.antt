use Rattle.chain_law.proofs.Calls.{replays_chained}
use Rattle.chain_law.proofs.laws.replays_are_chained.Goals as goal

pub returns : goal.returns
returns g c = replays_chained g.H.D.Disk.state g.H.Shelf.state (g.met.H.D.Disk g.world.𝓛 g.world.𝓜 g.world.𝓡 ((λ s x. x), (λ x. x), (λ x. x), λ x. x)).lawful
