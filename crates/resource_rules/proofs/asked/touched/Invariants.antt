use Rattle.std.proofs.Common.{◌≡◌, ◌++◌, drop}
use Rattle.durable_records.specs.ResourceOrder.{image_keys}
use Rattle.resource_rules.proofs.asked.touched.Given as goal

abbrev pub invariant-loop-image : goal.invariant-loop-image
invariant-loop-image l = l.keys.items ++ image_keys (drop l.image-index l.images) ≡ image_keys l.images
