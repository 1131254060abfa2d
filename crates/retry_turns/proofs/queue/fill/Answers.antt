use Rattle.std.proofs.Common.{rules, ◌≡◌, ◌≤◌, ◌+◌, ◌∷◌, length, arith, refl}
use Rattle.std.specs.List.Sorted.{IsPermutation}
use Rattle.std.specs.BinaryHeap.{heap_items, heap_len, heap_capacity}
use Rattle.retry_turns.specs.Queues.{IsInOrder}
use Rattle.retry_turns.proofs.QueueLaws.{has_more, has_all}
use Rattle.retry_turns.proofs.queue.fill.Goals as goal

pub loop-number-preserved : goal.loop-number-preserved
loop-number-preserved c =
    let i = c.loop-number.invariant in
    let step : c.loop-number.number-iterator ≡ (c.in-Some.number.now, c.in-Some.at.now) ∷ c.next.new.self = search rules in
    let moved : IsPermutation (record { 0 = (c.in-Some.at.now, c.in-Some.number.now) } ∷ heap_items c.loop-number.queue) (heap_items c.push-pushed.new.self) = search rules in
    let order : IsInOrder (heap_items c.push-pushed.new.self) = search rules in
    let grown : heap_len c.push-pushed.new.self ≡ heap_len c.loop-number.queue + 1 = search rules in
    let long : length c.loop-number.number-iterator ≡ length c.next.new.self + 1 = grind (arith, step) in
    let room : heap_capacity c.loop-number.queue ≤ heap_capacity c.push-pushed.new.self = c.push-pushed.ensures.capacity in (
      order,
      omega (arith, grown, long, room, i.1),
      omega (arith, room, i.2),
      λ moment x. has_more (heap_items c.loop-number.queue) (heap_items c.push-pushed.new.self) (record { 0 = (c.in-Some.at.now, c.in-Some.number.now) }) (c.in-Some.number.now, c.in-Some.at.now)
          c.loop-number.number-iterator c.next.new.self moment x refl moved step (i.3 moment x),
    )

pub returns : goal.returns
returns c =
    let i = c.loop-number.invariant in
    record {
      order = i.0;
      there = has_all (heap_items c.loop-number.queue) c.args.moments.now.entries c.loop-number.number-iterator (search rules) i.3;
      enough = i.2;
    }
