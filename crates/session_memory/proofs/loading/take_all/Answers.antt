use Rattle.std.proofs.Common.{◌+◌, drop, arith}
use Rattle.session_memory.proofs.LoadLaws.{next_left, entry_tests, entry_taken, entry_fails}
use Rattle.session_memory.proofs.loading.take_all.Goals as goal

pub returns-in-Err : goal.returns-in-Err
returns-in-Err g c =
    let all = c.args.entries.now in
    let at = c.loop-entry.entry-index in
    entry_fails c.args.locks.now c.loop-entry.locks c.take_entry.new.locks all (drop at all) (drop (at + 1) all) c.entry-item.result
    (next_left all at (at + 1) c.entry-item.result c.loop-entry-test.true (omega arith) c.entry-item.is) c.loop-entry.invariant.tests c.in-Err.error c.in-Err.ensures

pub loop-entry-preserved : goal.loop-entry-preserved
loop-entry-preserved g c =
    let all = c.args.entries.now in
    let at = c.loop-entry.entry-index in
    let left = next_left all at (at + 1) c.entry-item.result c.loop-entry-test.true (omega arith) c.entry-item.is in record {
      tests = entry_tests c.args.locks.now c.loop-entry.locks c.take_entry.new.locks all (drop at all) (drop (at + 1) all) c.entry-item.result left c.loop-entry.invariant.tests c.in-Ok.ensures.0 c.in-Ok.ensures.1;
      takes = entry_taken c.args.locks.now c.loop-entry.locks c.take_entry.new.locks all (drop at all) (drop (at + 1) all) c.entry-item.result left c.loop-entry.invariant.tests c.in-Ok.ensures.1 c.loop-entry.invariant.takes;
    }
