use Rattle.std.proofs.Common.{◌≡◌, drop}
use Rattle.std.specs.Option.{option_copied}
use Rattle.durable_records.specs.ResourceOrder.{image_keys}
use Rattle.resource_log.specs.Soundness.{rises_after}
use Rattle.resource_memory.specs.Changes.{rise}
use Rattle.resource_memory.proofs.fitting.images_rise.Given as goal

abbrev pub invariant-loop-image : goal.invariant-loop-image
invariant-loop-image l = rises_after (option_copied l.last) (image_keys (drop l.image-index l.images)) ≡ rise (image_keys l.images)
