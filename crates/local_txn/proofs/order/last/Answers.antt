use Rattle.std.proofs.Common.{rules, ◌≡◌, ◌-◌, ◌<◌, length, ap, sym, option_map, arith}
use Rattle.std.specs.VecDeque.{deque_len}
use Rattle.local_txn.specs.Answers.{ticket_of}
use Rattle.local_txn.proofs.PlaceLaws.{last_at}
use Rattle.local_txn.proofs.order.last.Goals as goal

pub returns-in-Some : goal.returns-in-Some
returns-in-Some c =
    let long : deque_len c.args.txns.now ≡ length c.args.txns.now.items = search rules in
    let some : 0 < deque_len c.args.txns.now = search rules in
    sym (ap (option_map ticket_of) (last_at c.args.txns.now.items c.in-Some.txn.now (deque_len c.args.txns.now - 1) (omega (arith, long, some)) c.in-Some.ensures.lookup))
