use Rattle.std.proofs.Common.{◌≡◌, ◌++◌, map}
use Rattle.std.specs.Vec.Iter.{into_iter_items}
use Rattle.tcc_fence.specs.Meanings.{fences_of}
use Rattle.resource_memory.specs.Snapshots.{fence_item}
use Rattle.resource_memory.proofs.saving.fence_items.Given as goal

abbrev pub invariant-loop-leg : goal.invariant-loop-leg
invariant-loop-leg l = l.items.items ++ map (fence_item l.calls) (fences_of (into_iter_items l.leg-iterator)) ≡ map (fence_item l.calls) l.fence
