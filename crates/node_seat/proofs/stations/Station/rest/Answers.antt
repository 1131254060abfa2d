use Rattle.node_seat.specs.Seating.{seated_of}
use Rattle.node_seat.proofs.Going.{can_rest}
use Rattle.node_seat.proofs.stations.Station.rest.Goals as goal

pub make-requires : goal.make-requires
make-requires g c = can_rest g.N.Node.state (seated_of c.args.self.now) c.requires.goes c.requires.able
