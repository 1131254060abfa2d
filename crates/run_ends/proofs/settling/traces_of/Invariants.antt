use Rattle.std.proofs.Common.{◌≡◌, ◌+◌, ◌≤◌, ◌++◌, length, map, vec_capacity}
use Rattle.std.specs.Vec.Iter.{into_iter_items}
use Rattle.run_ends.specs.Ending.{trace_of}
use Rattle.run_ends.proofs.settling.traces_of.Given as goal

-- the traces that were moved, and those of the nodes that are left, for which there is room
abbrev pub invariant-loop-node : goal.invariant-loop-node
invariant-loop-node g l =
    (l.traces.items ++ map trace_of (into_iter_items l.node-iterator) ≡ map trace_of l.fn.nodes.items)
    × (length l.traces.items + length (into_iter_items l.node-iterator) ≤ vec_capacity l.traces)
