use Rattle.history_text.specs.History.{IsRun}
use Rattle.replay_runner.proofs.Calm.{never_damaged}
use Rattle.replay_runner.specs.Leaving.{Leaves}
use Rattle.lab_calls.specs.Streams.{devices}
use Rattle.lab_calls.proofs.Headline.{replay_reported}
use Rattle.lab_calls.proofs.PlaysTold.{plays_once}
use Rattle.lab_calls.proofs.tops.replay_once.Goals as goal

pub returns : goal.returns
returns g c =
    let state = g.H.D.Disk.state in
    plays_once Leaves never_damaged IsRun state g.H.Shelf.state (replay_reported state) c.args.shelf.now c.replay_input.new.shelf _ c.write_answer.result
    (devices (g.S.Source.state c.args.source.now) (g.K.Sink.state c.args.sink.now)) (devices (g.S.Source.state c.replay_input.new.source) (g.K.Sink.state c.write_answer.new.sink))
    c.replay_input.result c.replay_input.ensures c.write_answer.ensures
