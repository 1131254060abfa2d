use Rattle.resource_core.specs.NodeOpening.{loaded_disks}
use Rattle.scenario_nodes.proofs.Closing.{IsClosing}
use Rattle.scenario_nodes.proofs.closings.close_loaded.Given as goal

-- the first ones were closed
abbrev pub invariant-loop-k : goal.invariant-loop-k
invariant-loop-k g l = IsClosing loaded_disks l.defs l.fn.loaded.items (g.H.Shelf.state l.initial.shelf) (g.H.Shelf.state l.shelf) l.k l.loaded.items
