use Rattle.std.proofs.Common.{◌≡◌, ◌++◌, drop}
use Rattle.durable_records.specs.ResourceOrder.{only_read}
use Rattle.resource_rules.proofs.requests.only_read.Given as goal

abbrev pub invariant-loop-read : goal.invariant-loop-read
invariant-loop-read l = l.keys.items ++ only_read l.images (drop l.read-index l.reads) ≡ only_read l.images l.reads
