use Rattle.std.proofs.Common.{◌∙◌, ap}
use Rattle.durable_records.specs.Fences.{IsTried}
use Rattle.tcc_fence.specs.Meanings.{Fences, without_fence}
use Rattle.resource_memory.specs.Known.{Calls}
use Rattle.resource_memory.specs.Lookups.{without_call}
use Rattle.resource_memory.proofs.PartLaws.{fence_back, call_back}
use Rattle.resource_memory.proofs.parts.run_try.Goals as goal

pub returns-then-is_err-clause-same_fence : goal.returns-then-is_err-clause-same_fence
returns-then-is_err-clause-same_fence c =
    c.remove.ensures ∙ ap (λ (f : Fences). without_fence f c.args.leg) c.in_ok-note_try.ensures.fence ∙ fence_back c.args.fence.now c.args.leg IsTried c.requires.fence

pub returns-then-is_err-clause-same_calls : goal.returns-then-is_err-clause-same_calls
returns-then-is_err-clause-same_calls c =
    c.remove-then-is_err.ensures ∙ ap (λ (l : Calls). without_call l c.args.leg) c.in_ok-note_try.ensures.calls ∙ call_back c.args.calls.now c.args.leg c.args.call c.requires.call
