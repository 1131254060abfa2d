use Rattle.node_seat.specs.Naming.{run_over}
use Rattle.node_seat.proofs.Beginning.{linked_keeps}
use Rattle.node_seat.proofs.seats.Seat.linked.Goals as goal

pub invariant_of-result : goal.invariant_of-result
invariant_of-result g c past starts =
    linked_keeps g.N.Node.state g.K.RunName.world past (run_over g.K.RunName.run (g.K.RunName.held past starts) starts) c.args.node c.args.plan c.args.takers c.args.senders (c.requires.fresh past starts)
    c.requires.serves (c.requires.of_run past starts)
    c.requires.apart c.requires.unused _ c.new.ensures
