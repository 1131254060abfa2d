use Rattle.std.proofs.Common.{subst, sym}
use Rattle.history_rules.specs.Nodes.{no_past}
use Rattle.node_steps.specs.Ends.{no_starts}
use Rattle.node_seat.specs.Naming.{run_over}
use Rattle.node_seat.specs.Seating.{seated_of}
use Rattle.node_seat.specs.Turns.{MayTurn}
use Rattle.node_seat.proofs.AfterTurns.{turn_keeps}
use Rattle.node_seat.proofs.Beginning.{turn_may}
use Rattle.node_seat.proofs.seats.Seat.turn.Goals as goal

pub turn-requires : goal.turn-requires
turn-requires g c = ((c.self.invariant no_past no_starts).runs (subst MayTurn (sym c.self.view_is) c.requires).runs).goes

pub invariant_of-self : goal.invariant_of-self
invariant_of-self g c past starts =
    turn_keeps g.N.Node.state g.met.N.Node.lawful g.K.RunName.world past (run_over g.K.RunName.run (g.K.RunName.held past starts) starts) (seated_of c.self.inside.station) (seated_of c.turn.new.self)
    (c.self.invariant past starts)
    (subst MayTurn (sym c.self.view_is) c.requires) c.turn.result c.turn.ensures

pub returns-clause-begun : goal.returns-clause-begun
returns-clause-begun g c =
    turn_may g.N.Node.state (seated_of c.self.inside.station) (seated_of c.turn.new.self) c.turn.result (subst MayTurn (sym c.self.view_is) c.requires) c.turn.ensures
