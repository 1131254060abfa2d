use Rattle.std.proofs.Common.{rules, ◌≡◌, ◌∷◌, Some, sym, ◌∙◌, true≢false}
use Rattle.std.specs.Prelude.{IsSome}
use Rattle.std.specs.List.Sorted.{IsPermutation}
use Rattle.std.specs.BinaryHeap.{heap_items}
use Rattle.retry_turns.specs.Queues.{IsInOrder, first_of}
use Rattle.retry_turns.proofs.QueueLaws.{has_popped, popped_first}
use Rattle.retry_turns.proofs.queue.settle.Goals as goal

pub loop-at-preserved : goal.loop-at-preserved
loop-at-preserved c =
    let i = c.loop-at.invariant in
    let first : first_of (heap_items c.loop-at.queue) ≡ Some (c.in-Some.at, c.in-Some.number) = sym c.first.ensures.first ∙ c.in-Some.is in
    let some : IsSome c.pop.result = search rules in
    let moved : IsPermutation (heap_items c.loop-at.queue) (record { 0 = (c.in-Some.at, c.in-Some.number) } ∷ heap_items c.pop.new.self) =
    popped_first (heap_items c.loop-at.queue) (heap_items c.pop.new.self) c.pop.result (c.in-Some.at, c.in-Some.number) first some c.pop.ensures.top c.pop.ensures.permutation in
    let order : IsInOrder (heap_items c.pop.new.self) = search rules in
    record {
      order = order;
      there = has_popped c.args.moments.now.entries (heap_items c.loop-at.queue) (heap_items c.pop.new.self) (record { 0 = (c.in-Some.at, c.in-Some.number) }) moved (λ is. true≢false (sym (c.stands.ensures.1 is) ∙ c.if-stands.false)) i.there;
      enough = rw c.pop.ensures.capacity i.enough;
    }
