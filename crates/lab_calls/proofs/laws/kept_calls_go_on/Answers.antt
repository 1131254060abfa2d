use Rattle.chain_law.proofs.Calls.{calls_go_on}
use Rattle.lab_calls.proofs.Chained.{kept_calls_go_on}
use Rattle.lab_calls.proofs.laws.kept_calls_go_on.Goals as goal

pub returns : goal.returns
returns g c =
    let state = g.H.D.Disk.state in
    kept_calls_go_on state g.H.Shelf.state (calls_go_on state g.H.Shelf.state (g.met.H.D.Disk g.world.𝓛 g.world.𝓜 g.world.𝓡 ((λ s x. x), (λ x. x), (λ x. x), λ x. x)).lawful)
