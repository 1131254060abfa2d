use Rattle.std.proofs.Common.{◌+◌, ◌-◌, ◌/◌, get_or, refl, sym, arith}
use Rattle.std.proofs.lemmas.Option.{slice_get-get_or}
use Rattle.lock_table.proofs.Searching.{starts, goes_left, goes_right, gap, found_cost, missed_cost, is_place}
use Rattle.lock_table.proofs.index.place.Goals as goal

pub loop-low-init : goal.loop-low-init
loop-low-init g c = starts c.args.rows.now c.args.key.now (g.C.Count.count c.args.steps.now)

pub offset_bounds-rows-middle : goal.offset_bounds-rows-middle
offset_bounds-rows-middle g c = omega (arith, c.loop-low.invariant.within)

pub bounds-rows-middle : goal.bounds-rows-middle
bounds-rows-middle g c = omega (arith, c.loop-low.invariant.within)

pub loop-low-preserved-in-Less : goal.loop-low-preserved-in-Less
loop-low-preserved-in-Less g c =
    goes_left c.args.rows.now c.args.key.now c.loop-low.low c.loop-low.high (g.C.Count.count c.args.steps.now) (g.C.Count.count c.loop-low.steps) (g.C.Count.count c.compare.new.steps)
    (c.loop-low.low + (c.loop-low.high - c.loop-low.low) / 2) (get_or c.args.rows.now (c.loop-low.low + (c.loop-low.high - c.loop-low.low) / 2) c.index-rows-middle.result) c.requires c.loop-low.invariant c.loop-low-test.true refl
    (slice_get-get_or c.args.rows.now (c.loop-low.low + (c.loop-low.high - c.loop-low.low) / 2) c.index-rows-middle.result (omega (arith, c.loop-low.invariant.within))) (sym c.in-Less.ensures.order) c.in-Less.ensures.cost

pub loop-low-preserved : goal.loop-low-preserved
loop-low-preserved g c =
    goes_right c.args.rows.now c.args.key.now c.loop-low.low c.loop-low.high (g.C.Count.count c.args.steps.now) (g.C.Count.count c.loop-low.steps) (g.C.Count.count c.compare.new.steps)
    (c.loop-low.low + (c.loop-low.high - c.loop-low.low) / 2) (get_or c.args.rows.now (c.loop-low.low + (c.loop-low.high - c.loop-low.low) / 2) c.index-rows-middle.result) c.requires c.loop-low.invariant c.loop-low-test.true refl
    (slice_get-get_or c.args.rows.now (c.loop-low.low + (c.loop-low.high - c.loop-low.low) / 2) c.index-rows-middle.result (omega (arith, c.loop-low.invariant.within))) (sym c.in-Greater.ensures.order) c.in-Greater.ensures.cost

pub returns-in-Equal-clause-found : goal.returns-in-Equal-clause-found
returns-in-Equal-clause-found g c =
    is_place c.args.rows.now c.args.key.now (c.loop-low.low + (c.loop-low.high - c.loop-low.low) / 2) (get_or c.args.rows.now (c.loop-low.low + (c.loop-low.high - c.loop-low.low) / 2) c.index-rows-middle.result)
    (slice_get-get_or c.args.rows.now (c.loop-low.low + (c.loop-low.high - c.loop-low.low) / 2) c.index-rows-middle.result (omega (arith, c.loop-low.invariant.within))) (sym c.in-Equal.ensures.order)

pub returns-in-Equal-clause-cost : goal.returns-in-Equal-clause-cost
returns-in-Equal-clause-cost g c =
    found_cost c.args.rows.now c.args.key.now c.loop-low.low c.loop-low.high (g.C.Count.count c.args.steps.now) (g.C.Count.count c.loop-low.steps) (g.C.Count.count c.compare.new.steps) c.loop-low.invariant c.loop-low-test.true c.in-Equal.ensures.cost

pub returns-clause-missing : goal.returns-clause-missing
returns-clause-missing g c =
    gap c.args.rows.now c.args.key.now c.loop-low.low c.loop-low.high (g.C.Count.count c.args.steps.now) (g.C.Count.count c.loop-low.steps) c.loop-low.invariant c.loop-low-test.false

pub returns-clause-cost : goal.returns-clause-cost
returns-clause-cost g c =
    missed_cost c.args.rows.now c.args.key.now c.loop-low.low c.loop-low.high (g.C.Count.count c.args.steps.now) (g.C.Count.count c.loop-low.steps) c.loop-low.invariant
