use Rattle.node_seat.specs.Naming.{run_over}
use Rattle.node_seat.proofs.Beginning.{new_keeps}
use Rattle.node_seat.proofs.seats.Seat.new.Goals as goal

pub invariant_of-result : goal.invariant_of-result
invariant_of-result g c past starts = new_keeps g.N.Node.state g.K.RunName.world past (run_over g.K.RunName.run (g.K.RunName.held past starts) starts) c.args.node _ _ _ _ c.new-4.ensures
