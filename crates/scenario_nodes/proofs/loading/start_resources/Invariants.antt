use Rattle.std.proofs.Common.{◌+◌, ◌≤◌}
use Rattle.std.specs.List.{AllByRecursion}
use Rattle.std.specs.VecDeque.{deque_len}
use Rattle.std.specs.Prelude.{vec_capacity, vec_len}
use Rattle.resource_core.specs.NodeOpening.{IsUp}
use Rattle.scenario_nodes.specs.Loading.{WritesBoot}
use Rattle.scenario_nodes.proofs.Together.{AreFirst}
use Rattle.scenario_nodes.proofs.loading.start_resources.Given as goal

-- the first ones wrote their boots
abbrev pub invariant-loop-one : goal.invariant-loop-one
invariant-loop-one g l =
    AreFirst (WritesBoot g.D.Disk.state) l.initial.loaded.items l.started.items l.loaded.items
    × AllByRecursion IsUp l.loaded.items
    × (deque_len l.loaded + vec_len l.started ≤ vec_capacity l.started)

abbrev pub decreases-loop-one : goal.decreases-loop-one
decreases-loop-one g l = deque_len l.loaded
