use Rattle.std.proofs.Common.{◌∙◌, ap}
use Rattle.durable_records.specs.Fences.{IsTried}
use Rattle.tcc_fence.specs.Meanings.{Fences, without_fence}
use Rattle.resource_memory.proofs.PartLaws.{fence_back}
use Rattle.resource_memory.proofs.parts.note_try.Goals as goal

pub returns-then-is_err-clause-same_fence : goal.returns-then-is_err-clause-same_fence
returns-then-is_err-clause-same_fence c =
    c.remove.ensures ∙ ap (λ (f : Fences). without_fence f c.args.leg) c.in_ok-set.ensures.done ∙ fence_back c.args.fence.now c.args.leg IsTried c.requires.fence
