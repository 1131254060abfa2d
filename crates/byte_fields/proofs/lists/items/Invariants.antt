use Rattle.std.proofs.Common.{◌≡◌, ◌-◌, None}
use Rattle.byte_fields.specs.Reading.{items_at}
use Rattle.byte_fields.specs.Cursors.{position}
use Rattle.byte_fields.proofs.Loop.{with_front, last}
use Rattle.byte_fields.proofs.lists.items.Given as goal

abbrev pub invariant-loop : goal.invariant-loop
invariant-loop g l =
    with_front l.items.items (items_at (g.T.Listed.item l.layout) (last l.items.items) (l.count - l.counter) (position l.after))
    ≡ items_at (g.T.Listed.item l.layout) None l.count (position l.from)
