use Rattle.std.proofs.Common.{◌∙◌, ap, refl}
use Rattle.durable_records.specs.declared.resources.ResourceRecord.TheVariants as log
use Rattle.resource_memory.specs.Changes.{may_come}
use Rattle.resource_memory.specs.Known.{Known}
use Rattle.resource_memory.specs.Keeping.{known_as}
use Rattle.resource_memory.proofs.Steps.{kept_step}
use Rattle.resource_memory.proofs.memory.Memory.mark.Goals as goal

pub invariant_of-self-2 : goal.invariant_of-self-2
invariant_of-self-2 c =
    kept_step (log.Marked c.args.xid c.args.branch) (known_as c.self.inside.acts c.self.inside.boots c.self.inside.tables c.self.inside.undo_log c.self.inside.fence c.self.inside.calls) _ c.self.invariant (ap (λ (k : Known). may_come k (log.Marked c.args.xid c.args.branch)) c.self.view_is ∙ c.requires.allowed) refl refl refl c.in_ok-enter.ensures.ok refl refl
