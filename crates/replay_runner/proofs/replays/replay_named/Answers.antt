use Rattle.std.proofs.Common.{ap, length, rules, subst}
use Rattle.replay_runner.specs.Leaving.{Leaves}
use Rattle.replay_runner.specs.OnShelves.{BeginOver, IsRoom}
use Rattle.replay_runner.proofs.Finished.{played_on, unasked, unopened}
use Rattle.replay_runner.proofs.NewNodes.{begin_over, can_begin}
use Rattle.replay_runner.proofs.replays.replay_named.Goals as goal

pub returns-in_default : goal.returns-in_default
returns-in_default g c = unasked (Leaves c.args.scenario.now) g.H.D.Disk.state c.args.scenario.now (g.H.Shelf.state c.args.shelf.now)

pub returns-in_default-room_for : goal.returns-in_default-room_for
returns-in_default-room_for g c = unasked (Leaves c.args.scenario.now) g.H.D.Disk.state c.args.scenario.now (g.H.Shelf.state c.args.shelf.now)

pub returns-in_default-new_managers : goal.returns-in_default-new_managers
returns-in_default-new_managers g c = unasked (Leaves c.args.scenario.now) g.H.D.Disk.state c.args.scenario.now (g.H.Shelf.state c.args.shelf.now)

pub open_nodes-requires-clause-can : goal.open_nodes-requires-clause-can
open_nodes-requires-clause-can g c κs within = record {
  runnable = c.requires.runnable;
  named = search rules;
}

pub play-requires-clause-begin : goal.play-requires-clause-begin
play-requires-clause-begin g c κs within =
    can_begin g.H.D.Disk.state (g.H.Shelf.state c.args.shelf.now) c.args.scenario.now c.in-Ok-open_nodes.nodes c.in-Ok-open_nodes.ensures.nodes

pub play-requires-clause-room : goal.play-requires-clause-room
play-requires-clause-room g c κs within = subst (λ n. IsRoom n c.in-Ok-room_for.room) (ap length c.as_slice-defs.ensures) c.in-Ok-room_for.ensures

pub play-requires-clause-taken : goal.play-requires-clause-taken
play-requires-clause-taken g c κs within = c.in-Ok-open_nodes.ensures.shelf.takes.both

pub returns-in-Ok-open_nodes : goal.returns-in-Ok-open_nodes
returns-in-Ok-open_nodes g c =
    let state = g.H.Shelf.state in
    let s = c.args.scenario.now in
    let disk = g.H.D.Disk.state in
    let opened = c.in-Ok-open_nodes.ensures in
    played_on (Leaves s) disk s (BeginOver disk s c.in-Ok-open_nodes.nodes) (state c.args.shelf.now) (state c.open_nodes.new.shelf) (state c.play.new.shelf) c.play.result
    (begin_over disk (state c.args.shelf.now) s c.in-Ok-open_nodes.nodes opened.nodes) opened.shelf.takes c.play.ensures

pub returns : goal.returns
returns g c =
    let state = g.H.Shelf.state in
    unopened (Leaves c.args.scenario.now) g.H.D.Disk.state c.args.scenario.now (state c.args.shelf.now) (state c.open_nodes.new.shelf) c.in-Err.fault c.in-Err.ensures
