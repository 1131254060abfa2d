use Rattle.std.proofs.Common.{◌≡◌, ◌++◌, map}
use Rattle.std.specs.Vec.Iter.{into_iter_items}
use Rattle.local_tables.specs.Rows.{goes}
use Rattle.local_tables.proofs.touching.removals.Given as goal

abbrev pub invariant-loop-key : goal.invariant-loop-key
invariant-loop-key l = l.changes.items ++ map goes (into_iter_items l.key-iterator) ≡ map goes l.fn.found.items
