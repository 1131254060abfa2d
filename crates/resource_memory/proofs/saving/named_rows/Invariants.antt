use Rattle.std.proofs.Common.{◌≡◌, ◌++◌, map}
use Rattle.std.specs.Vec.Iter.{into_iter_items}
use Rattle.resource_log.specs.SnapshotOf.{named_row}
use Rattle.resource_memory.proofs.saving.named_rows.Given as goal

abbrev pub invariant-loop-key : goal.invariant-loop-key
invariant-loop-key l = l.rows.items ++ map named_row (into_iter_items l.key-iterator) ≡ map named_row l.tables.rows
