use Rattle.std.proofs.Common.{sym, ◌∙◌, length}
use Rattle.replay_runner.proofs.Finished.{ended, finished, unfinished}
use Rattle.replay_runner.proofs.Starting.{all_fit, can_start, count_of_resources, locals_stand}
use Rattle.replay_runner.proofs.replays.play.Goals as goal

pub new-run-requires : goal.new-run-requires
new-run-requires g c = record { going = c.requires.begin.goes; early = c.requires.begin.early }

pub play_all-played-requires-clause-can : goal.play_all-played-requires-clause-can
play_all-played-requires-clause-can g c =
    let state = g.H.D.Disk.state in
    let s = c.args.scenario.now in
    let n = c.args.nodes in
    can_start s c.requires.runnable (length n.managers.items) (length n.resources.items) c.new-run.result c.new-run.ensures.goes
    c.requires.begin.managers c.requires.begin.resources c.as_slice.result.now c.as_slice.ensures

pub play_all-played-requires-clause-locals : goal.play_all-played-requires-clause-locals
play_all-played-requires-clause-locals g c =
    let state = g.H.D.Disk.state in
    let s = c.args.scenario.now in
    let n = c.args.nodes in
    locals_stand s c.requires.runnable (length n.managers.items) (length n.resources.items) c.new-run.result c.new-run.ensures.goes
    c.requires.begin.managers c.requires.begin.resources c.as_slice-locals.result.now c.as_slice-locals.ensures

pub play_all-played-requires-clause-fits : goal.play_all-played-requires-clause-fits
play_all-played-requires-clause-fits g c =
    let state = g.H.D.Disk.state in
    let s = c.args.scenario.now in
    let n = c.args.nodes in
    all_fit s c.requires.runnable (length n.managers.items) (length n.resources.items) c.new-run.result c.new-run.ensures.goes
    c.requires.begin.managers c.requires.begin.resources c.as_slice-locals.result.now c.as_slice.result.now c.as_slice-locals.ensures c.as_slice.ensures

pub close-history-requires-clause-whole : goal.close-history-requires-clause-whole
close-history-requires-clause-whole g c κs within =
    let state = g.H.D.Disk.state in
    let s = c.args.scenario.now in
    let n = c.args.nodes in
    c.play_all-played.ensures.count
    ∙ count_of_resources s c.requires.runnable (length n.managers.items) (length n.resources.items) c.new-run.result c.new-run.ensures.goes
    c.requires.begin.managers c.requires.begin.resources

pub returns-in-Err : goal.returns-in-Err
returns-in-Err g c =
    let state = g.H.D.Disk.state in
    let s = c.args.scenario.now in
    let n = c.args.nodes in
    ended state s c.play_all-played.new.self c.requires.runnable
    (c.play_all-played.ensures.count
    ∙ count_of_resources s c.requires.runnable (length n.managers.items) (length n.resources.items) c.new-run.result c.new-run.ensures.goes
    c.requires.begin.managers c.requires.begin.resources)
    n (g.H.Shelf.state c.args.shelf.now) (g.H.Shelf.state c.close-history.new.shelf) c.close-history.ensures.gives c.play_all-played.result c.in-Err.fault c.in-Err.is
    (λ held nodes named. c.play_all-played.ensures.played s held c.requires.runnable (sym c.as_slice-locals.ensures) (sym c.as_slice.ensures) (c.new-run.ensures.plays s held nodes named))
    c.play_all-played.ensures.failed

pub returns-in-Ok : goal.returns-in-Ok
returns-in-Ok g c =
    let state = g.H.D.Disk.state in
    let s = c.args.scenario.now in
    let n = c.args.nodes in
    finished state s c.play_all-played.new.self c.requires.runnable
    (c.play_all-played.ensures.count
    ∙ count_of_resources s c.requires.runnable (length n.managers.items) (length n.resources.items) c.new-run.result c.new-run.ensures.goes
    c.requires.begin.managers c.requires.begin.resources)
    n (g.H.Shelf.state c.args.shelf.now) (g.H.Shelf.state c.close-history.new.shelf) c.close-history.ensures.gives c.play_all-played.result c.in_default.field-0 c.in_default.is
    (λ held nodes named. c.play_all-played.ensures.played s held c.requires.runnable (sym c.as_slice-locals.ensures) (sym c.as_slice.ensures) (c.new-run.ensures.plays s held nodes named))
    c.in-Ok.history c.in-Ok.ensures.history

pub returns-in-Err-history : goal.returns-in-Err-history
returns-in-Err-history g c =
    let state = g.H.D.Disk.state in
    let s = c.args.scenario.now in
    let n = c.args.nodes in
    unfinished state s c.play_all-played.new.self c.requires.runnable
    (c.play_all-played.ensures.count
    ∙ count_of_resources s c.requires.runnable (length n.managers.items) (length n.resources.items) c.new-run.result c.new-run.ensures.goes
    c.requires.begin.managers c.requires.begin.resources)
    n (g.H.Shelf.state c.args.shelf.now) (g.H.Shelf.state c.close-history.new.shelf) c.close-history.ensures.gives c.play_all-played.result c.in_default.field-0 c.in_default.is
    (λ held nodes named. c.play_all-played.ensures.played s held c.requires.runnable (sym c.as_slice-locals.ensures) (sym c.as_slice.ensures) (c.new-run.ensures.plays s held nodes named))
