use Rattle.std.proofs.Common.{◌∙◌, Some, ap}
use Rattle.node_seat.specs.Seating.{Seated}
use Rattle.thread_runner.proofs.Begun.{begun_place}
use Rattle.thread_runner.proofs.openings.seat_of.Goals as goal

pub returns : goal.returns
returns g c =
    ap Some (begun_place g.N.Node.state c.linked-seat.result c.new.result c.new.ensures ∙ ap (λ (s : Seated _). (g.N.Node.state s.node).place) c.linked-seat.ensures)
