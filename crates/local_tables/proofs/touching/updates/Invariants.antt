use Rattle.std.proofs.Common.{◌≡◌, ◌++◌, map}
use Rattle.std.specs.Vec.Iter.{into_iter_items}
use Rattle.local_tables.specs.Touches.{becomes}
use Rattle.local_tables.proofs.touching.updates.Given as goal

abbrev pub invariant-loop-key : goal.invariant-loop-key
invariant-loop-key l = l.changes.items ++ map (becomes l.def l.sets) (into_iter_items l.key-iterator) ≡ map (becomes l.def l.sets) l.fn.found.items
