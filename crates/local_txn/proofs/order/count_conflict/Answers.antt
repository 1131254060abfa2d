use Rattle.std.proofs.Common.{rules, ◌≡◌, ap, sym, Some, length, option_map, arith}
use Rattle.std.specs.VecDeque.{deque_len}
use Rattle.local_txn.specs.Answers.{raised}
use Rattle.local_txn.specs.RowIndex.{place_from}
use Rattle.local_txn.proofs.PlaceLaws.{placed, no_place, raised_count, raised_left, not_counted}
use Rattle.local_txn.proofs.order.count_conflict.Goals as goal

pub raise-requires : goal.raise-requires
raise-requires c =
    let e : place_from 0 c.args.ticket c.args.txns.now.items ≡ Some c.in-Some.at = sym c.in-Some.ensures in
    let p = placed c.args.ticket c.args.txns.now.items c.in-Some.at e in
    let long : deque_len c.args.txns.now ≡ length c.args.txns.now.items = search rules in
    omega (arith, p.within, long)

pub returns-in-Some-clause-count : goal.returns-in-Some-clause-count
returns-in-Some-clause-count c =
    raised_count c.args.ticket c.args.txns.now.items c.raise.new.txns.items c.in-Some.at c.raise.result c.requires (sym c.in-Some.ensures) c.raise.ensures

pub returns-in-Some-clause-left : goal.returns-in-Some-clause-left
returns-in-Some-clause-left c =
    raised_left c.args.ticket c.args.txns.now.items c.raise.new.txns.items c.in-Some.at c.raise.result c.requires (sym c.in-Some.ensures) c.raise.ensures

pub returns-in-None-clause-count : goal.returns-in-None-clause-count
returns-in-None-clause-count c = sym (ap (option_map raised) (no_place 0 c.args.ticket c.args.txns.now.items (sym c.in-None.ensures)).0)

pub returns-in-None-clause-left : goal.returns-in-None-clause-left
returns-in-None-clause-left c = not_counted c.args.ticket c.args.txns.now.items (sym c.in-None.ensures)
