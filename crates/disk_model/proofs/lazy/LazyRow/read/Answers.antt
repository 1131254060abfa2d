use Rattle.std.proofs.Common.{◌∙◌, length, take, drop, ap, arith}
use Rattle.std.proofs.lemmas.List.{length-replicate}
use Rattle.disk_model.proofs.Padded.{length-padded, read_behind}
use Rattle.disk_model.proofs.lazy.LazyRow.read.Goals as goal

pub overflow_add-at : goal.overflow_add-at
overflow_add-at g c =
    omega (arith, c.requires, ap length c.self.view_is, length-padded c.self.inside.size c.self.inside.blank c.self.inside.there.items c.self.invariant.fits)

pub returns-else-at-into : goal.returns-else-at-into
returns-else-at-into g c =
    let row = c.self.inside in
    let there = row.there.items in
    let fits = c.self.invariant.fits in
    let count = length c.args.into.now in
    let whole = length-padded row.size row.blank there fits in
    let size = ap length c.self.view_is in
    rw (c.copy_there.ensures, c.set_all.ensures, c.deref-else-at-into.ensures.value, length-replicate count row.blank)
    (read_behind row.size row.blank there fits c.args.at count (omega (arith, c.requires)) ∙ ap (λ l. take count (drop c.args.at l)) c.self.view_is)
