use Rattle.std.proofs.Common.{◌≡◌, ◌++◌, take}
use Rattle.std.specs.List.{flat_map}
use Rattle.session_log.specs.Snapshots.{forgotten_fields}
use Rattle.session_log.proofs.writing.put_each_forgotten.Given as goal

abbrev pub invariant-loop-forgotten : goal.invariant-loop-forgotten
invariant-loop-forgotten l = l.out.items ≡ l.initial.out.items ++ flat_map forgotten_fields (take l.forgotten-index l.all)
