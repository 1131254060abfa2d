use Rattle.std.proofs.Common.{◌≡◌, drop}
use Rattle.std.specs.Option.{option_copied}
use Rattle.durable_records.specs.ResourceOrder.{read_keys}
use Rattle.resource_log.specs.Soundness.{rises_after}
use Rattle.resource_memory.specs.Changes.{rise}
use Rattle.resource_memory.proofs.fitting.reads_rise.Given as goal

abbrev pub invariant-loop-read : goal.invariant-loop-read
invariant-loop-read l = rises_after (option_copied l.last) (read_keys (drop l.read-index l.reads)) ≡ rise (read_keys l.reads)
