use Rattle.std.proofs.Common.{◌∙◌, ap, sym, subst, List}
use Rattle.seata_types.specs.declared.rows.Image.{Image}
use Rattle.local_tables.specs.Rows.{AreImagesOf, applied}
use Rattle.local_tables.specs.declared.schemas.Way.TheVariants as way
use Rattle.undo_log.specs.Entries.{Log, without_entry}
use Rattle.resource_memory.proofs.PartLaws.{entry_back, images_put, put_well}
use Rattle.resource_memory.proofs.parts.commit.Goals as goal

pub put_images-requires : goal.put_images-requires
put_images-requires c = record {
  fits = subst (λ (images : List Image). AreImagesOf c.args.tables.now images)
      (sym (images_put c.args.log.now c.enter.new.log c.args.leg c.args.call c.args.images c.args.reads c.in_ok-enter.ensures.ok)) c.requires.fits;
}

pub returns-clause-tables : goal.returns-clause-tables
returns-clause-tables c =
    put_well c.put_images.result _ c.if-is_err.ensures.value c.put_images.ensures.tables
    ∙ ap (λ (images : List Image). applied way.Do images c.args.tables.now) (images_put c.args.log.now c.enter.new.log c.args.leg c.args.call c.args.images c.args.reads c.in_ok-enter.ensures.ok)

pub returns-then-is_err-clause-same_log : goal.returns-then-is_err-clause-same_log
returns-then-is_err-clause-same_log c =
    c.remove.ensures.left ∙ ap (λ (l : Log). without_entry l c.args.leg) c.in_ok-enter.ensures.ok ∙ entry_back c.args.log.now c.args.leg _ c.requires.free
