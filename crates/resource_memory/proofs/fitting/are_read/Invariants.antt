use Rattle.std.proofs.Common.{◌≡◌, drop, length, nat_le}
use Rattle.durable_records.specs.ResourceOrder.{only_read}
use Rattle.resource_memory.proofs.fitting.are_read.Given as goal

abbrev pub invariant-loop-read : goal.invariant-loop-read
invariant-loop-read l = nat_le (length (only_read l.images (drop l.read-index l.reads))) l.left ≡ nat_le (length (only_read l.images l.reads)) l.room
