use Rattle.std.proofs.Common.{◌≡◌, ◌++◌, map}
use Rattle.std.specs.Vec.Iter.{into_iter_items}
use Rattle.resource_log.specs.SnapshotOf.{undo_item}
use Rattle.resource_memory.proofs.saving.undo_items.Given as goal

abbrev pub invariant-loop-leg : goal.invariant-loop-leg
invariant-loop-leg l = l.items.items ++ map undo_item (into_iter_items l.leg-iterator) ≡ map undo_item l.log
