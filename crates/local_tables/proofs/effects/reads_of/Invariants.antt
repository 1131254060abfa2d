use Rattle.std.proofs.Common.{◌≡◌, ◌++◌, map}
use Rattle.std.specs.Vec.Iter.{into_iter_items}
use Rattle.local_tables.specs.Calls.{read_of}
use Rattle.local_tables.proofs.effects.reads_of.Given as goal

abbrev pub invariant-loop-key : goal.invariant-loop-key
invariant-loop-key l = l.reads.items ++ map read_of (into_iter_items l.key-iterator) ≡ map read_of l.fn.rows
