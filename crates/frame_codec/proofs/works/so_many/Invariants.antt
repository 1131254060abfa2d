use Rattle.std.proofs.Common.{◌≡◌, ◌-◌, None}
use Rattle.byte_fields.specs.Reading.{items_at}
use Rattle.byte_fields.proofs.Loop.{with_front, last}
use Rattle.frame_codec.specs.Works.{any_stmt}
use Rattle.frame_codec.proofs.works.so_many.Given as goal

abbrev pub invariant-loop : goal.invariant-loop
invariant-loop l =
    with_front l.found.items (items_at any_stmt (last l.found.items) (l.count - l.counter) l.fields)
    ≡ items_at any_stmt None l.count l.initial.fields
