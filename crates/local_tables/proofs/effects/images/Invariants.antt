use Rattle.std.proofs.Common.{◌≡◌, ◌++◌, map}
use Rattle.std.specs.Vec.Iter.{into_iter_items}
use Rattle.local_tables.specs.Calls.{image_of}
use Rattle.local_tables.proofs.effects.images.Given as goal

abbrev pub invariant-loop-key : goal.invariant-loop-key
invariant-loop-key l = l.images.items ++ map (image_of l.rows.entries) (into_iter_items l.key-iterator) ≡ map (image_of l.rows.entries) l.fn.changes
