use Rattle.std.specs.BinaryHeap.{heap_items, heap_len, heap_capacity}
use Rattle.retry_turns.specs.Queues.{Keeps}
use Rattle.retry_turns.proofs.queue.settle.Given as goal

abbrev pub invariant-loop-at : goal.invariant-loop-at
invariant-loop-at l = Keeps l.moments.entries (heap_items l.queue) (heap_capacity l.queue)

abbrev pub decreases-loop-at : goal.decreases-loop-at
decreases-loop-at l = heap_len l.queue
