use Rattle.std.proofs.Common.{◌≡◌, ◌++◌}
use Rattle.tcc_fence.specs.Meanings.{fences_of}
use Rattle.tcc_fence.proofs.fences.Fence.list.Given as goal

abbrev pub invariant-loop-leg : goal.invariant-loop-leg
invariant-loop-leg l = fences_of (l.all.items ++ l.leg-iterator) ≡ l.fn.self
