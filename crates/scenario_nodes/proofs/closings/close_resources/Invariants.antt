use Rattle.std.specs.Vec.Iter.{into_iter_items}
use Rattle.std.specs.Iterator.Adapters.{enumerate_count, enumerate_source}
use Rattle.scenario_nodes.specs.Nodes.{resource_disks}
use Rattle.scenario_nodes.proofs.Closing.{IsClosing}
use Rattle.scenario_nodes.proofs.closings.close_resources.Given as goal

-- the first ones were closed
abbrev pub invariant-loop-k : goal.invariant-loop-k
invariant-loop-k g l =
    (goal.iterator-loop-k g).can_next l.k-iterator × (goal.iterator-loop-k g).is_finite l.k-iterator
    × IsClosing resource_disks l.defs l.fn.resources.items (g.H.Shelf.state l.initial.shelf) (g.H.Shelf.state l.shelf) (enumerate_count l.k-iterator) (into_iter_items (enumerate_source l.k-iterator))
