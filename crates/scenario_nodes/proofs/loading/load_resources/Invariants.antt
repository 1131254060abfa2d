use Rattle.std.proofs.Common.{◌≡◌}
use Rattle.std.specs.VecDeque.{deque_capacity, deque_len}
use Rattle.scenario_nodes.proofs.AllLoaded.{AreLoading}
use Rattle.scenario_nodes.proofs.loading.load_resources.Given as goal

-- the first ones were loaded
abbrev pub invariant-loop-k : goal.invariant-loop-k
invariant-loop-k g l =
    AreLoading g.H.D.Disk.state l.scenario (g.H.Shelf.state l.initial.shelf) (g.H.Shelf.state l.shelf) l.k l.loaded.items
    × (deque_len l.loaded ≡ l.k) × (deque_capacity l.loaded ≡ deque_capacity l.fn.loaded)
