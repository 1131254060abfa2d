use Rattle.std.proofs.Common.{refl}
use Rattle.replay_runner.specs.Leaving.{Leaves}
use Rattle.lab_calls.specs.Kept.{EndsKept}
use Rattle.lab_calls.proofs.Answered.{played, unplayed}
use Rattle.lab_calls.proofs.tops.replay_input.Goals as goal

pub returns-in-Ok : goal.returns-in-Ok
returns-in-Ok g c =
    let had = c.args.shelf.now in
    let has = c.replay_kept.new.shelf in
    let seen = g.H.Shelf.state in
    let e = c.replay_kept.ensures in
    played (λ s. EndsKept (Leaves s) g.H.D.Disk.state seen had has s) (seen had) (seen has) _ e.returned e.tells (g.S.Source.state c.args.source.now) (g.S.Source.state c.read_scenario.new.source) c.in-Ok.scenario
    c.in-Ok.ensures c.replay_kept.result e.ends c.told.result c.told.ensures

pub returns-in-Err : goal.returns-in-Err
returns-in-Err g c =
    let shelf = c.args.shelf.now in
    let seen = g.H.Shelf.state in
    unplayed (λ s. EndsKept (Leaves s) g.H.D.Disk.state seen shelf shelf s) (seen shelf) _ refl (g.S.Source.state c.args.source.now) (g.S.Source.state c.read_scenario.new.source) c.in-Err.answer c.in-Err.ensures
