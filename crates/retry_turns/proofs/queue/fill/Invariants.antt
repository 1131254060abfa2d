use Rattle.std.proofs.Common.{◌≡◌, ℕ, ◌≤◌, ◌+◌, ◌||◌, length}
use Rattle.std.specs.BinaryHeap.{heap_items, heap_len, heap_capacity}
use Rattle.std.specs.List.{list_any}
use Rattle.retry_turns.specs.Queues.{IsInOrder, has}
use Rattle.retry_turns.proofs.QueueLaws.{is_plan}
use Rattle.retry_turns.proofs.queue.fill.Given as goal

abbrev pub invariant-loop-number : goal.invariant-loop-number
invariant-loop-number l =
    IsInOrder (heap_items l.queue) × (heap_len l.queue + length l.number-iterator ≤ heap_capacity l.queue) × (length l.moments.entries ≤ heap_capacity l.queue) ×
    ((moment x : ℕ) → (has (heap_items l.queue) moment x || list_any (is_plan moment x) l.number-iterator) ≡ list_any (is_plan moment x) l.moments.entries)
