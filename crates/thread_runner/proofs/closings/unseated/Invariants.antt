use Rattle.std.proofs.Common.{◌+◌, ◌≤◌, length, vec_capacity}
use Rattle.std.specs.Vec.Iter.{into_iter_items}
use Rattle.thread_runner.proofs.Unseating.{IsUnseating}
use Rattle.thread_runner.proofs.closings.unseated.Given as goal

-- the first ones were taken out, and there is room for the others
abbrev pub invariant-loop-seat : goal.invariant-loop-seat
invariant-loop-seat g l =
    IsUnseating g.N.Node.state g.K.RunName.world g.K.RunName.held g.K.RunName.run l.fn.seats.items l.initial.ended.items (into_iter_items l.seat-iterator) l.nodes.items l.ended.items
    × (length l.nodes.items + length (into_iter_items l.seat-iterator) ≤ vec_capacity l.nodes)
    × (length l.ended.items + length (into_iter_items l.seat-iterator) ≤ vec_capacity l.ended)
    × (vec_capacity l.initial.ended ≤ vec_capacity l.ended)
