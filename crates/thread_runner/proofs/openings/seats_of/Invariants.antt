use Rattle.std.proofs.Common.{◌+◌, ◌≤◌, length, vec_capacity}
use Rattle.std.specs.Vec.Iter.{into_iter_items}
use Rattle.scenario_nodes.specs.Together.{AreEach}
use Rattle.scenario_nodes.proofs.Together.{AreFirst}
use Rattle.thread_runner.specs.Seats.{IsPutAt, MaySit}
use Rattle.thread_runner.proofs.openings.seats_of.Given as goal

-- the first ones have seats, and there is what the seats of the others are made of, and room for them
abbrev pub invariant-loop-node : goal.invariant-loop-node
invariant-loop-node g l =
    AreFirst (λ node. IsPutAt g.N.Node.state (g.N.Node.state node).place) l.fn.nodes.items l.seats.items (into_iter_items l.node-iterator)
    × AreEach (λ node. MaySit g.K.RunName.world g.K.RunName.held g.K.RunName.run (g.N.Node.state node)) (into_iter_items l.node-iterator) (into_iter_items l.outfits)
    × (length l.seats.items + length (into_iter_items l.node-iterator) ≤ vec_capacity l.seats)
