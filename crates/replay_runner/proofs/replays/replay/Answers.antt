use Rattle.replay_runner.specs.Leaving.{Leaves}
use Rattle.replay_runner.proofs.Calm.{ends_calmly, never_damaged}
use Rattle.replay_runner.proofs.replays.replay.Goals as goal

pub returns-clause-calm : goal.returns-clause-calm
returns-clause-calm g c held holds =
    let s = c.args.scenario.now in
    ends_calmly (Leaves s) g.H.D.Disk.state s (g.H.Shelf.state c.args.shelf.now) (g.H.Shelf.state c.replay_named.new.shelf) held (never_damaged s held) holds c.replay_named.result
    c.replay_named.ensures.keeps.tells c.replay_named.ensures.uses
