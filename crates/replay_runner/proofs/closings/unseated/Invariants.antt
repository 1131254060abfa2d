use Rattle.std.proofs.Common.{◌+◌, ◌≤◌, length, vec_capacity}
use Rattle.std.specs.Vec.Iter.{into_iter_items}
use Rattle.scenario_nodes.proofs.Together.{AreFirst}
use Rattle.replay_runner.specs.Collecting.{IsNodeOf, IsTraceOf}
use Rattle.replay_runner.proofs.closings.unseated.Given as goal

-- the first ones were taken out, and there is room for the others
abbrev pub invariant-loop-member : goal.invariant-loop-member
invariant-loop-member g l =
    AreFirst IsNodeOf l.fn.members.items l.resources.items (into_iter_items l.member-iterator)
    × AreFirst IsTraceOf l.fn.members.items l.traces.items (into_iter_items l.member-iterator)
    × (length l.resources.items + length (into_iter_items l.member-iterator) ≤ vec_capacity l.resources)
    × (length l.traces.items + length (into_iter_items l.member-iterator) ≤ vec_capacity l.traces)
