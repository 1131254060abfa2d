use Rattle.std.proofs.Common.{◌≡◌, ◌++◌, take}
use Rattle.std.specs.List.{flat_map}
use Rattle.resource_log.specs.Snapshots.{fence_fields}
use Rattle.resource_log.proofs.writing.put_each_fence.Given as goal

abbrev pub invariant-loop-item : goal.invariant-loop-item
invariant-loop-item l = l.out.items ≡ l.initial.out.items ++ flat_map fence_fields (take l.item-index l.fences)
