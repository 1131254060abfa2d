use Rattle.std.proofs.Common.{◌<◌, length, arith}
use Rattle.node_seat.proofs.Changed.{before_set, got, missed_from, missed_set, none_missed, none_set, none_yet, took_from, took_set}
use Rattle.node_seat.proofs.taking.take_among.Goals as goal

pub loop-k-init : goal.loop-k-init
loop-k-init g c = (none_yet c.args.takers.now, none_missed c.args.low c.args.takers.now)

pub returns-in-Some-clause-took : goal.returns-in-Some-clause-took
returns-in-Some-clause-took g c =
    let below : c.loop-k.k < length c.loop-k.takers = search arith in
    took_set _ _ c.loop-k.k c.index-takers-k.result c.take_one.new.taker c.loop-k.invariant.0 (got _ _ _ below c.index-takers-k.is) _
    (took_from _ _ _ c.index-takers-k.is _ c.in-Some.ensures)

pub returns-in-Some-clause-before : goal.returns-in-Some-clause-before
returns-in-Some-clause-before g c =
    let below : c.loop-k.k < length c.loop-k.takers = search arith in
    before_set _ _ c.loop-k.k c.index-takers-k.result c.take_one.new.taker c.loop-k.invariant.0 (got _ _ _ below c.index-takers-k.is) c.args.low c.in-Some.packet c.loop-k.invariant.1
    (took_from _ _ _ c.index-takers-k.is _ c.in-Some.ensures)

pub loop-k-preserved : goal.loop-k-preserved
loop-k-preserved g c =
    let below : c.loop-k.k < length c.loop-k.takers = search arith in
    let here = got _ _ _ below c.index-takers-k.is in
    let found = missed_from _ _ _ c.index-takers-k.is c.in_default.ensures in (
      none_set _ _ c.loop-k.k c.index-takers-k.result c.take_one.new.taker c.loop-k.invariant.0 here found,
      missed_set _ _ c.loop-k.k c.index-takers-k.result c.take_one.new.taker c.loop-k.invariant.0 here c.args.low c.loop-k.invariant.1 found,
    )
