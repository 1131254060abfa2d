use Rattle.std.proofs.Common.{◌∙◌}
use Rattle.node_seat.specs.Seating.{seated_of}
use Rattle.node_seat.proofs.Arms.{taken, taken_from, took_goes}
use Rattle.node_seat.proofs.stations.Station.serve.Goals as goal

pub hear-requires-clause-goes : goal.hear-requires-clause-goes
hear-requires-clause-goes g c =
    took_goes g.N.Node.state (seated_of c.args.self.now) c.requires.goes c.take_any.new.takers.items c.in-Some.k c.in-Some.packet c.in-Some.ensures.took

pub returns-in-Some : goal.returns-in-Some
returns-in-Some g c =
    let old = seated_of c.args.self.now in
    let takers = c.take_any.new.takers.items in
    let took = c.in-Some.ensures.took in
    taken g.N.Node.state old c.requires.able c.requires.up (seated_of c.hear.new.self) takers c.in-Some.k c.in-Some.packet took c.in-Some.ensures.before c.from-from.result
    (c.from-from.ensures ∙ taken_from old.takers takers c.in-Some.k c.in-Some.packet took c.index.result.now c.index.ensures) c.hear.result c.hear.ensures
