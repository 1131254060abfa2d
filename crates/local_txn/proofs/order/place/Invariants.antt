use Rattle.std.proofs.Common.{◌≡◌, ◌+◌, length}
use Rattle.std.specs.VecDeque.Iter.{deque_iter_rest}
use Rattle.local_txn.specs.RowIndex.{place_from}
use Rattle.local_txn.proofs.order.place.Given as goal

abbrev pub invariant-loop-txn : goal.invariant-loop-txn
invariant-loop-txn l = record {
  found : place_from l.at l.ticket (deque_iter_rest l.txn-iterator) ≡ place_from 0 l.ticket l.txns.items;
  count : l.at + length (deque_iter_rest l.txn-iterator) ≡ length l.txns.items;
}
