use Rattle.std.proofs.Common.{◌≡◌, length, arith, rules}
use Rattle.node_seat.proofs.Changed.{before_first, before_joined, took_joined}
use Rattle.node_seat.proofs.taking.take_any.Goals as goal

pub returns-in-Some-clause-before : goal.returns-in-Some-clause-before
returns-in-Some-clause-before g c = before_first _ _ c.args.next _ _ c.in-Some.ensures.before c.in-Some.ensures.within

pub returns-in-None-clause-took : goal.returns-in-None-clause-took
returns-in-None-clause-took g c = took_joined _ _ _ c.in-None.ensures.none c.take_from-in-None.result c.take_from-in-None.ensures.took

pub returns-in-None-clause-before : goal.returns-in-None-clause-before
returns-in-None-clause-before g c =
    let size : c.len-count.result ≡ length c.args.takers.now.items = first_of (search rules, omega arith) in
    before_joined _ _ _ c.args.next c.len-count.result size c.in-None.ensures.none c.in-None.ensures.missed c.take_from-in-None.result c.take_from-in-None.ensures.took
    c.take_from-in-None.ensures.before c.take_from-in-None.ensures.within
