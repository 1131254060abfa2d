use Rattle.std.proofs.Common.{rules, arith}
use Rattle.std.proofs.lemmas.List.{nil_from_length}
use Rattle.disk_model.proofs.Sides.{saved_first}
use Rattle.disk_model.proofs.saved.save.Goals as goal

pub returns-then-is_empty-clause-same : goal.returns-then-is_empty-clause-same
returns-then-is_empty-clause-same c =
    let none = nil_from_length c.args.saved.now.items (search rules) in
    rw (c.append_to.ensures.items, none) (saved_first c.args.low c.args.high c.args.present.now c.requires.order c.requires.end c.args.from (omega (arith, c.requires.room.inside)))
