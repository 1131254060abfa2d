use Rattle.std.proofs.Common.{◌≡◌, ◌++◌, map}
use Rattle.std.specs.Vec.Iter.{into_iter_items}
use Rattle.resource_memory.specs.Snapshots.{undo_entry}
use Rattle.resource_memory.proofs.loading.undo_log.Given as goal

abbrev pub invariant-loop-item : goal.invariant-loop-item
invariant-loop-item l = l.log ++ map undo_entry (into_iter_items l.item-iterator) ≡ map undo_entry l.fn.items
