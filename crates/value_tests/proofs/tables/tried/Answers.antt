use Rattle.std.proofs.Common.{List, sym, ap, subst}
use Rattle.seata_types.specs.declared.rows.Image.{Image}
use Rattle.local_tables.specs.Rows.{Database, AreImagesOf}
use Rattle.local_tables.proofs.ImageLaws.{images_stay}
use Rattle.value_tests.proofs.tables.tried.Goals as goal

pub apply-requires-then-not-is_kept : goal.apply-requires-then-not-is_kept
apply-requires-then-not-is_kept c =
    let number = ap (λ (d : Database). d.resource) (sym c.in_ok-apply-in-Ok.ensures.done) in
    let schema = ap (λ (d : Database). d.schema) (sym c.in_ok-apply-in-Ok.ensures.done) in
    let images = images_stay c.args.tables.now c.apply.new.self c.in-Ok.effect.images number schema c.in-Ok.ensures.applicable in
    subst (λ (l : List Image). AreImagesOf c.apply.new.self l) (sym c.as_slice-then-not-is_kept.ensures) images
