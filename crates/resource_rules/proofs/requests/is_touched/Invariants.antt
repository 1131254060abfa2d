use Rattle.std.proofs.Common.{◌≡◌, drop}
use Rattle.durable_records.specs.Locks.{has_key}
use Rattle.durable_records.specs.ResourceOrder.{image_keys}
use Rattle.resource_rules.proofs.requests.is_touched.Given as goal

abbrev pub invariant-loop-image : goal.invariant-loop-image
invariant-loop-image l = has_key (image_keys (drop l.image-index l.images)) l.key ≡ has_key (image_keys l.images) l.key
