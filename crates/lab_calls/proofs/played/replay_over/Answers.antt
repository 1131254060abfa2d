use Rattle.std.proofs.Common.{subst}
use Rattle.replay_runner.specs.Leaving.{UsesShelf}
use Rattle.replay_runner.specs.Leaving.{Leaves}
use Rattle.scenario_nodes.proofs.Returned.{all_after}
use Rattle.store_shown.specs.Before.{ReadsBefore}
use Rattle.lab_calls.proofs.Over.{broken_over, keeps_both, made_over, unread_over}
use Rattle.lab_calls.proofs.played.replay_over.Goals as goal

-- the disks couldn't be read
pub returns-in-Err-clause-ends : goal.returns-in-Err-clause-ends
returns-in-Err-clause-ends g c =
    let s = c.args.scenario.now in
    let state = g.H.D.Disk.state in
    let old = c.args.shelf.now in
    let new = c.read_before.new.shelf in
    unread_over (Leaves s) state g.H.Shelf.state s old new new c.in-Err.fault (subst (ReadsBefore state s (g.H.Shelf.state old) (g.H.Shelf.state new)) c.in-Err.is c.read_before.ensures)

pub returns-in-Ok-replay-clause-ends : goal.returns-in-Ok-replay-clause-ends
returns-in-Ok-replay-clause-ends g c =
    let s = c.args.scenario.now in
    let state = g.H.D.Disk.state in
    let seen = g.H.Shelf.state in
    let old = c.args.shelf.now in
    let mid = c.read_before.new.shelf in
    let new = c.replay.new.shelf in
    made_over (Leaves s) state seen s old mid new c.in-Ok.before (subst (ReadsBefore state s (seen old) (seen mid)) c.in-Ok.is c.read_before.ensures) c.in-Ok-replay.history
    (subst (UsesShelf (Leaves s) state (seen mid) (seen new) s) c.in-Ok-replay.is c.replay.ensures.replays)

pub returns-in-Err-replay-clause-ends : goal.returns-in-Err-replay-clause-ends
returns-in-Err-replay-clause-ends g c =
    let s = c.args.scenario.now in
    let state = g.H.D.Disk.state in
    let seen = g.H.Shelf.state in
    let old = c.args.shelf.now in
    let mid = c.read_before.new.shelf in
    let new = c.replay.new.shelf in
    broken_over (Leaves s) state seen s old mid new c.in-Ok.before (subst (ReadsBefore state s (seen old) (seen mid)) c.in-Ok.is c.read_before.ensures) c.in-Err-replay.fault
    (subst (UsesShelf (Leaves s) state (seen mid) (seen new) s) c.in-Err-replay.is c.replay.ensures.replays)

pub returns-in-Ok-replay-clause-returned : goal.returns-in-Ok-replay-clause-returned
returns-in-Ok-replay-clause-returned g c =
    let seen = g.H.Shelf.state in
    let r = c.read_before.ensures in
    all_after (seen c.args.shelf.now) (seen c.read_before.new.shelf) (seen c.replay.new.shelf) r.keeps.tells r.returned c.replay.ensures.returned

pub returns-in-Err-replay-clause-returned : goal.returns-in-Err-replay-clause-returned
returns-in-Err-replay-clause-returned g c =
    let seen = g.H.Shelf.state in
    let r = c.read_before.ensures in
    all_after (seen c.args.shelf.now) (seen c.read_before.new.shelf) (seen c.replay.new.shelf) r.keeps.tells r.returned c.replay.ensures.returned

pub returns-in-Ok-replay-clause-keeps : goal.returns-in-Ok-replay-clause-keeps
returns-in-Ok-replay-clause-keeps g c =
    let seen = g.H.Shelf.state in
    keeps_both c.args.scenario.now (seen c.args.shelf.now) (seen c.read_before.new.shelf) (seen c.replay.new.shelf) c.read_before.ensures.keeps c.replay.ensures.keeps

pub returns-in-Err-replay-clause-keeps : goal.returns-in-Err-replay-clause-keeps
returns-in-Err-replay-clause-keeps g c =
    let seen = g.H.Shelf.state in
    keeps_both c.args.scenario.now (seen c.args.shelf.now) (seen c.read_before.new.shelf) (seen c.replay.new.shelf) c.read_before.ensures.keeps c.replay.ensures.keeps
