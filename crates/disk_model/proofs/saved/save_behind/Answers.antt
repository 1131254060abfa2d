use Rattle.std.proofs.Common.{◌≡◌, length, rules, arith}
use Rattle.disk_model.proofs.Sides.{saved_behind}
use Rattle.disk_model.proofs.saved.save_behind.Goals as goal

pub returns-then-end-high-clause-same : goal.returns-then-end-high-clause-same
returns-then-end-high-clause-same c =
    let saved = c.args.saved.now.items in
    let end : c.len.result ≡ length saved = search rules in
    rw (c.append_to.ensures.items, end) (saved_behind c.args.from saved c.args.present.now c.requires.room.inside c.args.high c.requires.end (omega arith))
