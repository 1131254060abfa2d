use Rattle.chain_law.proofs.Calls.{calls_go_on}
use Rattle.lab_calls.proofs.Chained.{new_begin_kept, new_net_holds_none, none_are_first}
use Rattle.lab_calls.proofs.laws.new_shelves_begin_kept.Goals as goal

pub returns : goal.returns
returns g c =
    let state = g.H.D.Disk.state in
    let go = calls_go_on state g.H.Shelf.state (g.met.H.D.Disk g.world.𝓛 g.world.𝓜 g.world.𝓡 ((λ s x. x), (λ x. x), (λ x. x), λ x. x)).lawful in
    record { kept = new_begin_kept state g.H.Shelf.state go; net = new_net_holds_none state g.H.Shelf.state; front = none_are_first }
