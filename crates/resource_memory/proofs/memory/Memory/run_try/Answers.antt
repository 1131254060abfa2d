use Rattle.std.proofs.Common.{List}
use Rattle.seata_types.specs.declared.rows.Image.{Image}
use Rattle.local_tables.specs.Rows.{applied}
use Rattle.local_tables.specs.declared.schemas.Way.TheVariants as way
use Rattle.std.proofs.Common.{◌∙◌, ap, refl, []}
use Rattle.std.proofs.lemmas.Bool.{and_parts}
use Rattle.durable_records.specs.declared.resources.ResourceRecord.TheVariants as log
use Rattle.resource_memory.specs.Changes.{may_come}
use Rattle.resource_memory.specs.Known.{Known}
use Rattle.resource_memory.specs.Keeping.{known_as}
use Rattle.resource_memory.proofs.Steps.{kept_step, images_as}
use Rattle.resource_memory.proofs.memory.Memory.run_try.Goals as goal

pub run_try-requires-clause-fits : goal.run_try-requires-clause-fits
run_try-requires-clause-fits c =
    images_as c.self.inside.tables c.args.images.now _ [] c.as_slice.ensures (and_parts _ _ (ap (λ (k : Known). may_come k (log.Tried c.args.xid c.args.branch c.args.call c.args.images.now)) c.self.view_is ∙ c.requires.allowed)).1

pub invariant_of-self-2 : goal.invariant_of-self-2
invariant_of-self-2 c =
    kept_step (log.Tried c.args.xid c.args.branch c.args.call c.args.images.now) (known_as c.self.inside.acts c.self.inside.boots c.self.inside.tables c.self.inside.undo_log c.self.inside.fence c.self.inside.calls) _ c.self.invariant (ap (λ (k : Known). may_come k (log.Tried c.args.xid c.args.branch c.args.call c.args.images.now)) c.self.view_is ∙ c.requires.allowed) refl refl (c.in_ok-run_try.ensures.tables ∙ ap (λ (l : List Image). applied way.Do l c.self.inside.tables) c.as_slice.ensures) refl c.in_ok-run_try.ensures.fence c.in_ok-run_try.ensures.calls
