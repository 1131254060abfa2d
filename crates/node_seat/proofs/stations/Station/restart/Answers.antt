use Rattle.std.proofs.Common.{Err, None, Ok, ◌+◌, inl, subst, sym}
use Rattle.node_seat.specs.Seating.{seated_of}
use Rattle.node_seat.specs.Turns.{CanMake, at_turn}
use Rattle.node_seat.proofs.Arms.{restarts_by}
use Rattle.node_seat.proofs.Going.{can_restart}
use Rattle.node_seat.proofs.stations.Station.restart.Goals as goal

pub make-requires : goal.make-requires
make-requires g c =
    let old = seated_of c.args.self.now in
    subst (λ why. CanMake g.N.Node.state (record (at_turn old (old.stamp + 1)) { restarts = old.restarts + 1 }) why None) (sym c.next_restart-cause.ensures)
    (can_restart g.N.Node.state old c.requires.goes c.requires.able (g.met.N.Node.lawful old.node) c.requires.down)

pub returns-in-Ok : goal.returns-in-Ok
returns-in-Ok g c =
    restarts_by g.N.Node.state (seated_of c.args.self.now) c.requires.able (seated_of c.make.new.self) c.requires.down c.next_restart-cause.result c.next_restart-cause.ensures (Ok tt) c.in-Ok.ensures

pub returns-in-Err : goal.returns-in-Err
returns-in-Err g c =
    inl (restarts_by g.N.Node.state (seated_of c.args.self.now) c.requires.able (seated_of c.make.new.self) c.requires.down c.next_restart-cause.result c.next_restart-cause.ensures (Err c.in-Err.fault)
    c.in-Err.ensures)
