use Rattle.scenario_nodes.proofs.Holding.{unused_hold}
use Rattle.scenario_nodes.proofs.laws.unused_shelves_hold_none.Goals as goal

pub returns : goal.returns
returns g c = λ shelf s runs blanks unused. unused_hold g.H.D.Disk.state (g.H.Shelf.state shelf) s runs blanks unused
