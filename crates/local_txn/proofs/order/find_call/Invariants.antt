use Rattle.std.proofs.Common.{◌≡◌, map, find}
use Rattle.std.specs.VecDeque.Iter.{deque_iter_rest}
use Rattle.local_txn.specs.Answers.{open_of, is_for}
use Rattle.local_txn.proofs.order.find_call.Given as goal

abbrev pub invariant-loop-txn : goal.invariant-loop-txn
invariant-loop-txn l = find (is_for l.xid.0 l.call) (map open_of (deque_iter_rest l.txn-iterator)) ≡ find (is_for l.xid.0 l.call) (map open_of l.txns.items)
