use Rattle.std.proofs.Common.{◌≡◌, ◌-◌, ◌++◌, length, take, replicate, ◌∙◌, ap, arith, rules}
use Rattle.disk_model.specs.Disk.{put}
use Rattle.disk_model.specs.Padding.{padded}
use Rattle.disk_model.proofs.Padded.{length-padded, put_behind}
use Rattle.disk_model.proofs.lazy.LazyRow.write.Goals as goal

pub overflow_add-at : goal.overflow_add-at
overflow_add-at g c = omega (arith, c.requires, ap length c.self.view_is, length-padded c.self.inside.size c.self.inside.blank c.self.inside.there.items c.self.invariant.fits)

pub returns-else-at-values : goal.returns-else-at-values
returns-else-at-values g c =
    let row = c.self.inside in
    let values = c.args.values.now in
    let size = ap length c.self.view_is in
    let whole = length-padded row.size row.blank row.there.items c.self.invariant.fits in
    let made : c.extend_from_slice.new.self.items ≡ (take c.args.at row.there.items ++ replicate (c.args.at - length row.there.items) row.blank) ++ values = search rules in
    ap (padded row.size row.blank) made ∙ put_behind row.size row.blank row.there.items c.self.invariant.fits c.args.at values (omega arith) (omega (arith, c.requires)) ∙ ap (put c.args.at values) c.self.view_is
