use Rattle.std.proofs.Common.{rules, ◌≤◌, ◌∷◌, refl, arith}
use Rattle.std.specs.List.Sorted.{IsPermutation}
use Rattle.std.specs.BinaryHeap.{heap_items, heap_capacity}
use Rattle.retry_turns.specs.Queues.{IsInOrder}
use Rattle.retry_turns.proofs.QueueLaws.{has_put}
use Rattle.retry_turns.proofs.queue.add.Goals as goal

pub returns : goal.returns
returns c =
    let moved : IsPermutation (record { 0 = (c.args.at, c.args.number) } ∷ heap_items c.args.queue.now) (heap_items c.push-pushed.new.self) = search rules in
    let order : IsInOrder (heap_items c.push-pushed.new.self) = search rules in
    let room : heap_capacity c.args.queue.now ≤ heap_capacity c.push-pushed.new.self = c.push-pushed.ensures.capacity in
    let waits = c.requires in
    record {
      order = order;
      there = has_put c.args.moments.now.entries c.args.number c.args.at (heap_items c.args.queue.now) (heap_items c.push-pushed.new.self) (heap_capacity c.args.queue.now) (record { 0 = (c.args.at, c.args.number) }) waits refl moved;
      enough = omega (arith, waits.enough, room);
    }
