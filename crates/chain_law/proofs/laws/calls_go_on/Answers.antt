use Rattle.chain_law.proofs.Calls.{calls_go_on}
use Rattle.chain_law.proofs.laws.calls_go_on.Goals as goal

pub returns : goal.returns
returns g c = calls_go_on g.H.D.Disk.state g.H.Shelf.state (g.met.H.D.Disk g.world.𝓛 g.world.𝓜 g.world.𝓡 ((λ s x. x), (λ x. x), (λ x. x), λ x. x)).lawful
