use Rattle.std.proofs.Common.{◌≡◌, ◌-◌, None}
use Rattle.byte_fields.specs.Reading.{items_at}
use Rattle.byte_fields.proofs.Loop.{with_front, last}
use Rattle.byte_fields.specs.LongLists.{next_item}
use Rattle.byte_fields.proofs.items.items.Given as goal

abbrev pub invariant-loop : goal.invariant-loop
invariant-loop g l =
    with_front l.items.items (items_at (next_item g.T.Item.follows (g.T.Item.item l.keys)) (last l.items.items) (l.count - l.counter) l.fields)
    ≡ items_at (next_item g.T.Item.follows (g.T.Item.item l.keys)) None l.count l.initial.fields
