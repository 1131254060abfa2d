use Rattle.std.proofs.Common.{◌≡◌, map}
use Rattle.std.specs.VecDeque.Iter.{deque_iter_rest}
use Rattle.local_txn.specs.OpenTickets.{open_at}
use Rattle.local_txn.specs.Answers.{open_of}
use Rattle.local_txn.proofs.order.find.Given as goal

abbrev pub invariant-loop-txn : goal.invariant-loop-txn
invariant-loop-txn l = open_at (map open_of (deque_iter_rest l.txn-iterator)) l.ticket ≡ open_at (map open_of l.txns.items) l.ticket
