use Rattle.std.proofs.Common.{◌≡◌, ◌-◌, length, take, drop, rules, refl, arith}
use Rattle.std.proofs.lemmas.List.{drop_at, take_at}
use Rattle.disk_model.proofs.Sides.{saved_before}
use Rattle.disk_model.proofs.saved.save_in_front.Goals as goal

pub returns-clause-same : goal.returns-clause-same
returns-clause-same c =
    let old = c.args.saved.now.items in
    let present = c.args.present.now in
    let from = c.args.from in
    let begin = c.saturating_sub-begin.result in
    let front = take (from - begin) (drop begin present) in
    let count : c.len-count.result ≡ length old = search rules in
    rw (c.rotate_left.ensures.items, c.append_to.ensures.items, count, drop_at old front (length old) refl, take_at old front (length old) refl)
    (saved_before from old present c.requires.room.inside begin (omega (arith)))
