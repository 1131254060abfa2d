use Rattle.std.proofs.Common.{◌≡◌, sym, Some, arith}
use Rattle.std.specs.List.{remove}
use Rattle.local_txn.specs.RowIndex.{place_from}
use Rattle.local_txn.proofs.PlaceLaws.{placed, no_place, taken_is, took}
use Rattle.local_txn.proofs.order.take.Goals as goal

pub returns-in-Some-clause-taken : goal.returns-in-Some-clause-taken
returns-in-Some-clause-taken c =
    let e : place_from 0 c.args.ticket c.args.txns.now.items ≡ Some c.in-Some.at = sym c.in-Some.ensures in
    let p = placed c.args.ticket c.args.txns.now.items c.in-Some.at e in
    taken_is c.args.ticket c.args.txns.now.items c.in-Some.at c.remove.result e (c.remove.ensures.succeeds p.it (let long = c.args.txns.now.ok in omega (arith, p.within)))

pub returns-in-Some-clause-left : goal.returns-in-Some-clause-left
returns-in-Some-clause-left c =
    let e : place_from 0 c.args.ticket c.args.txns.now.items ≡ Some c.in-Some.at = sym c.in-Some.ensures in
    let p = placed c.args.ticket c.args.txns.now.items c.in-Some.at e in
    took c.args.ticket c.args.txns.now.items c.remove.new.self.items c.in-Some.at c.remove.result e (c.remove.ensures.succeeds p.it (let long = c.args.txns.now.ok in omega (arith, p.within))) c.remove.ensures.items

pub returns-in-None-clause-taken : goal.returns-in-None-clause-taken
returns-in-None-clause-taken c = sym (no_place 0 c.args.ticket c.args.txns.now.items (sym c.in-None.ensures)).0

pub returns-in-None-clause-left : goal.returns-in-None-clause-left
returns-in-None-clause-left c = sym (no_place 0 c.args.ticket c.args.txns.now.items (sym c.in-None.ensures)).1
