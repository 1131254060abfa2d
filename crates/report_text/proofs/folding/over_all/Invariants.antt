use Rattle.std.proofs.Common.{◌≡◌, ◌++◌, map}
use Rattle.std.specs.Vec.Iter.{into_iter_items}
use Rattle.report_text.specs.Keeping.{resource_over}
use Rattle.report_text.proofs.folding.over_all.Given as goal

abbrev pub invariant-loop-memory : goal.invariant-loop-memory
invariant-loop-memory l =
    l.made.items ++ map resource_over (into_iter_items l.memory-iterator) ≡ map resource_over l.fn.memories.items
