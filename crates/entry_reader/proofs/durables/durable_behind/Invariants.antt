use Rattle.std.proofs.Common.{◌≡◌, length}
use Rattle.entry_reader.specs.Acts.{durable_behind}
use Rattle.entry_reader.proofs.durables.durable_behind.Given as goal

abbrev pub invariant-loop-rest : goal.invariant-loop-rest
invariant-loop-rest l = durable_behind l.wanted l.rest ≡ durable_behind l.wanted l.pieces

abbrev pub decreases-loop-rest : goal.decreases-loop-rest
decreases-loop-rest l = length l.rest
