use Rattle.std.specs.Vec.Iter.{into_iter_items}
use Rattle.scenario_nodes.proofs.Together.{AreFirst}
use Rattle.replay_runner.specs.Collecting.{IsTraceOf}
use Rattle.replay_runner.proofs.closings.manager_traces.Given as goal

-- those of the managers that were taken apart
abbrev pub invariant-loop-member : goal.invariant-loop-member
invariant-loop-member g l = AreFirst IsTraceOf l.fn.managers.items l.traces.items (into_iter_items l.member-iterator)
