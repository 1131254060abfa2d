use Rattle.std.proofs.Common.{subst}
use Rattle.store_shown.specs.Before.{ReadsBefore}
use Rattle.store_shown.proofs.Told.{nodes_shown}
use Rattle.store_shown.proofs.showing.show_nodes.Goals as goal

pub returns-in-Ok : goal.returns-in-Ok
returns-in-Ok g c =
    let state = g.H.D.Disk.state in
    let s = c.args.scenario.now in
    let old = g.H.Shelf.state c.args.shelf.now in
    let new = g.H.Shelf.state c.read_before.new.shelf in
    nodes_shown state s old new c.in-Ok.before c.state_of.result c.state_of.ensures (subst (ReadsBefore state s old new) c.in-Ok.is c.read_before.ensures)
