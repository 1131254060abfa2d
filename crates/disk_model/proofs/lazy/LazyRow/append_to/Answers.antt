use Rattle.std.proofs.Common.{◌≡◌, rules, ◌∙◌, ◌-◌, ◌++◌, length, take, drop, ap, arith}
use Rattle.disk_model.proofs.Padded.{length-padded, read_to_end}
use Rattle.disk_model.proofs.lazy.LazyRow.append_to.Goals as goal

pub returns-else-high-len-clause-items : goal.returns-else-high-len-clause-items
returns-else-high-len-clause-items g c =
    let row = c.self.inside in
    let there = row.there.items in
    let fits = c.self.invariant.fits in
    let low = c.args.low in
    let count = c.args.high - low in
    let old = c.args.into.now.items in
    let whole = length-padded row.size row.blank there fits in
    let size = ap length c.self.view_is in
    let end : c.len-else-high-len.result ≡ length old = search rules in
    rw (c.reach.ensures.items, c.append_there.ensures.items, c.deref-else-high-len.ensures.value, end)
    (read_to_end row.size row.blank there fits low count (omega (arith, c.requires.order, c.requires.end)) (omega arith) old ∙ ap (λ l. old ++ take count (drop low l)) c.self.view_is)
