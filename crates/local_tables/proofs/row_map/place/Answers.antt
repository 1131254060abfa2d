use Rattle.std.proofs.Common.{◌+◌, ◌-◌, ◌/◌, get_or, refl, sym, arith}
use Rattle.std.proofs.lemmas.Option.{slice_get-get_or}
use Rattle.local_tables.proofs.Searching.{starts, goes_left, goes_right, gap, is_place}
use Rattle.local_tables.proofs.row_map.place.Goals as goal

pub loop-low-init : goal.loop-low-init
loop-low-init g c = starts c.args.entries.now c.args.key.now

pub offset_bounds-entries-middle : goal.offset_bounds-entries-middle
offset_bounds-entries-middle g c = omega (arith, c.loop-low.invariant.within)

pub bounds-entries-middle : goal.bounds-entries-middle
bounds-entries-middle g c = omega (arith, c.loop-low.invariant.within)

pub loop-low-preserved-in-Less : goal.loop-low-preserved-in-Less
loop-low-preserved-in-Less g c =
    goes_left c.args.entries.now c.args.key.now c.loop-low.low c.loop-low.high
    (c.loop-low.low + (c.loop-low.high - c.loop-low.low) / 2) (get_or c.args.entries.now (c.loop-low.low + (c.loop-low.high - c.loop-low.low) / 2) c.index-entries-middle.result) c.requires c.loop-low.invariant c.loop-low-test.true refl
    (slice_get-get_or c.args.entries.now (c.loop-low.low + (c.loop-low.high - c.loop-low.low) / 2) c.index-entries-middle.result (omega (arith, c.loop-low.invariant.within))) (sym c.in-Less.ensures)

pub loop-low-preserved : goal.loop-low-preserved
loop-low-preserved g c =
    goes_right c.args.entries.now c.args.key.now c.loop-low.low c.loop-low.high
    (c.loop-low.low + (c.loop-low.high - c.loop-low.low) / 2) (get_or c.args.entries.now (c.loop-low.low + (c.loop-low.high - c.loop-low.low) / 2) c.index-entries-middle.result) c.requires c.loop-low.invariant c.loop-low-test.true refl
    (slice_get-get_or c.args.entries.now (c.loop-low.low + (c.loop-low.high - c.loop-low.low) / 2) c.index-entries-middle.result (omega (arith, c.loop-low.invariant.within))) (sym c.in-Greater.ensures)

pub returns-in-Equal-clause-found : goal.returns-in-Equal-clause-found
returns-in-Equal-clause-found g c =
    is_place c.args.entries.now c.args.key.now (c.loop-low.low + (c.loop-low.high - c.loop-low.low) / 2) (get_or c.args.entries.now (c.loop-low.low + (c.loop-low.high - c.loop-low.low) / 2) c.index-entries-middle.result)
    (slice_get-get_or c.args.entries.now (c.loop-low.low + (c.loop-low.high - c.loop-low.low) / 2) c.index-entries-middle.result (omega (arith, c.loop-low.invariant.within))) (sym c.in-Equal.ensures)

pub returns-clause-missing : goal.returns-clause-missing
returns-clause-missing g c = gap c.args.entries.now c.args.key.now c.loop-low.low c.loop-low.high c.loop-low.invariant c.loop-low-test.false
