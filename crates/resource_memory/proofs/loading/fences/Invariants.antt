use Rattle.std.proofs.Common.{◌≡◌, ◌++◌, map}
use Rattle.std.specs.Vec.Iter.{into_iter_items}
use Rattle.resource_memory.specs.Snapshots.{fence_entry, calls_in}
use Rattle.resource_memory.proofs.loading.fences.Given as goal

abbrev pub invariant-loop-item : goal.invariant-loop-item
invariant-loop-item l = record {
  fences : l.fence ++ map fence_entry (into_iter_items l.item-iterator) ≡ map fence_entry l.fn.items;
  calls : l.calls ++ calls_in (into_iter_items l.item-iterator) ≡ calls_in l.fn.items;
}
