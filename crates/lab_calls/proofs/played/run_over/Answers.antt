use Rattle.std.proofs.Common.{subst}
use Rattle.replay_runner.specs.Leaving.{UsesShelf}
use Rattle.thread_runner.specs.Running.{Leaves}
use Rattle.scenario_nodes.proofs.Returned.{all_after}
use Rattle.store_shown.specs.Before.{ReadsBefore}
use Rattle.lab_calls.proofs.Over.{broken_over, keeps_both, made_over, unread_over}
use Rattle.lab_calls.proofs.played.run_over.Goals as goal

-- the disks couldn't be read
pub returns-in-Err-clause-ends : goal.returns-in-Err-clause-ends
returns-in-Err-clause-ends g c =
    let s = c.args.scenario.now in
    let state = g.H.D.Disk.state in
    let old = c.args.shelf.now in
    let new = c.read_before.new.shelf in
    unread_over (Leaves s) state g.H.Shelf.state s old new new c.in-Err.fault (subst (ReadsBefore state s (g.H.Shelf.state old) (g.H.Shelf.state new)) c.in-Err.is c.read_before.ensures)

pub returns-in-Ok-run-clause-ends : goal.returns-in-Ok-run-clause-ends
returns-in-Ok-run-clause-ends g c =
    let s = c.args.scenario.now in
    let state = g.H.D.Disk.state in
    let seen = g.H.Shelf.state in
    let old = c.args.shelf.now in
    let mid = c.read_before.new.shelf in
    let new = c.run.new.shelf in
    made_over (Leaves s) state seen s old mid new c.in-Ok.before (subst (ReadsBefore state s (seen old) (seen mid)) c.in-Ok.is c.read_before.ensures) c.in-Ok-run.history
    (subst (UsesShelf (Leaves s) state (seen mid) (seen new) s) c.in-Ok-run.is c.run.ensures.runs)

pub returns-in-Err-run-clause-ends : goal.returns-in-Err-run-clause-ends
returns-in-Err-run-clause-ends g c =
    let s = c.args.scenario.now in
    let state = g.H.D.Disk.state in
    let seen = g.H.Shelf.state in
    let old = c.args.shelf.now in
    let mid = c.read_before.new.shelf in
    let new = c.run.new.shelf in
    broken_over (Leaves s) state seen s old mid new c.in-Ok.before (subst (ReadsBefore state s (seen old) (seen mid)) c.in-Ok.is c.read_before.ensures) c.in-Err-run.fault
    (subst (UsesShelf (Leaves s) state (seen mid) (seen new) s) c.in-Err-run.is c.run.ensures.runs)

pub returns-in-Ok-run-clause-returned : goal.returns-in-Ok-run-clause-returned
returns-in-Ok-run-clause-returned g c =
    let seen = g.H.Shelf.state in
    let r = c.read_before.ensures in
    all_after (seen c.args.shelf.now) (seen c.read_before.new.shelf) (seen c.run.new.shelf) r.keeps.tells r.returned c.run.ensures.returned

pub returns-in-Err-run-clause-returned : goal.returns-in-Err-run-clause-returned
returns-in-Err-run-clause-returned g c =
    let seen = g.H.Shelf.state in
    let r = c.read_before.ensures in
    all_after (seen c.args.shelf.now) (seen c.read_before.new.shelf) (seen c.run.new.shelf) r.keeps.tells r.returned c.run.ensures.returned

pub returns-in-Ok-run-clause-keeps : goal.returns-in-Ok-run-clause-keeps
returns-in-Ok-run-clause-keeps g c =
    let seen = g.H.Shelf.state in
    keeps_both c.args.scenario.now (seen c.args.shelf.now) (seen c.read_before.new.shelf) (seen c.run.new.shelf) c.read_before.ensures.keeps c.run.ensures.keeps

pub returns-in-Err-run-clause-keeps : goal.returns-in-Err-run-clause-keeps
returns-in-Err-run-clause-keeps g c =
    let seen = g.H.Shelf.state in
    keeps_both c.args.scenario.now (seen c.args.shelf.now) (seen c.read_before.new.shelf) (seen c.run.new.shelf) c.read_before.ensures.keeps c.run.ensures.keeps
