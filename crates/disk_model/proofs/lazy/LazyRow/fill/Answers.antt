use Rattle.std.proofs.Common.{◌-◌, ◌∙◌, ◌++◌, length, replicate, ap, arith}
use Rattle.std.proofs.lemmas.List.{length-replicate}
use Rattle.disk_model.specs.Disk.{put}
use Rattle.disk_model.proofs.Padded.{length-padded, more_fits, more_reaches, reached, put_there}
use Rattle.disk_model.proofs.lazy.LazyRow.fill.Goals as goal

pub returns : goal.returns
returns g c =
    let row = c.self.inside in
    let there = row.there.items in
    let fits = c.self.invariant.fits in
    let high = c.args.high in
    let values = replicate (high - c.args.low) c.args.value in
    let whole = length-padded row.size row.blank there fits in
    let size = ap length c.self.view_is in
    let more = there ++ replicate (high - length there) row.blank in
    let fits_more = more_fits row.size row.blank there fits high (omega (arith, c.requires.end)) in
    let reaches = more_reaches row.size row.blank there fits high (omega (arith, c.requires.end)) in
    rw (c.fill_there.ensures.items, c.reach.ensures.items)
    (put_there row.size row.blank more fits_more c.args.low values (omega (arith, reaches, c.requires.order, length-replicate (high - c.args.low) c.args.value))
    ∙ ap (put c.args.low values) (reached row.size row.blank there fits high (omega (arith, c.requires.end)) ∙ c.self.view_is))
