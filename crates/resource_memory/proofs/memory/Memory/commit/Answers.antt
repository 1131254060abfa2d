use Rattle.std.proofs.Common.{◌∙◌, ap, refl}
use Rattle.std.proofs.lemmas.Bool.{and_parts}
use Rattle.durable_records.specs.declared.resources.ResourceRecord.TheVariants as log
use Rattle.resource_memory.specs.Changes.{may_come}
use Rattle.resource_memory.specs.Known.{Known}
use Rattle.resource_memory.specs.Keeping.{known_as}
use Rattle.resource_memory.proofs.Steps.{kept_step, images_as}
use Rattle.resource_memory.proofs.memory.Memory.commit.Goals as goal

pub commit-requires-clause-fits : goal.commit-requires-clause-fits
commit-requires-clause-fits c =
    images_as c.self.inside.tables c.args.images _ c.args.reads refl (and_parts _ _ (ap (λ (k : Known). may_come k (log.Committed c.args.xid c.args.branch c.args.call c.args.images c.args.reads)) c.self.view_is ∙ c.requires.allowed)).1

pub invariant_of-self-2 : goal.invariant_of-self-2
invariant_of-self-2 c =
    kept_step (log.Committed c.args.xid c.args.branch c.args.call c.args.images c.args.reads) (known_as c.self.inside.acts c.self.inside.boots c.self.inside.tables c.self.inside.undo_log c.self.inside.fence c.self.inside.calls) _ c.self.invariant (ap (λ (k : Known). may_come k (log.Committed c.args.xid c.args.branch c.args.call c.args.images c.args.reads)) c.self.view_is ∙ c.requires.allowed) refl refl c.in_ok-commit.ensures.tables c.in_ok-commit.ensures.log refl refl
