use Rattle.node_seat.specs.Seating.{seated_of}
use Rattle.node_seat.proofs.Arms.{turn_done, turn_missed, turn_same}
use Rattle.node_seat.proofs.stations.Station.turn.Goals as goal

pub returns-in-Some : goal.returns-in-Some
returns-in-Some g c = turn_same g.N.Node.state (seated_of c.args.self.now) c.args.self.now.fault c.in-Some.fault c.in-Some.is

pub returns-in-Ok : goal.returns-in-Ok
returns-in-Ok g c = turn_done g.N.Node.state (seated_of c.args.self.now) c.args.self.now.fault (seated_of c.try_turn.new.self) c.in-Ok.turned c.in-None.is c.in-Ok.ensures

pub returns-in-Err : goal.returns-in-Err
returns-in-Err g c = turn_missed g.N.Node.state (seated_of c.args.self.now) c.args.self.now.fault (seated_of c.try_turn.new.self) c.in-Err.fault c.in-None.is c.in-Err.ensures
