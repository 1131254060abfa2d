use Rattle.std.proofs.Common.{◌+◌, ◌≤◌, length, vec_capacity}
use Rattle.std.specs.Vec.Iter.{into_iter_items}
use Rattle.scenario_nodes.proofs.Together.{AreFirst}
use Rattle.replay_runner.specs.Opened.{IsSeated}
use Rattle.replay_runner.proofs.openings.seated.Given as goal

-- the first ones have seats, and there is room for the others
abbrev pub invariant-loop-node : goal.invariant-loop-node
invariant-loop-node g l =
    AreFirst IsSeated l.fn.nodes.items l.members.items (into_iter_items l.node-iterator)
    × (length l.members.items + length (into_iter_items l.node-iterator) ≤ vec_capacity l.members)
