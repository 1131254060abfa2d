use Rattle.thread_runner.proofs.Calm.{never_damaged}
use Rattle.thread_runner.specs.Running.{IsRunOf, Leaves}
use Rattle.lab_calls.specs.Streams.{devices}
use Rattle.lab_calls.proofs.Headline.{run_reported}
use Rattle.lab_calls.proofs.PlaysTold.{plays_once}
use Rattle.lab_calls.proofs.tops.run_once.Goals as goal

pub returns : goal.returns
returns g c =
    let state = g.H.D.Disk.state in
    plays_once Leaves never_damaged IsRunOf state g.H.Shelf.state (run_reported state) c.args.shelf.now c.run_input.new.shelf _ c.write_answer.result
    (devices (g.S.Source.state c.args.source.now) (g.K.Sink.state c.args.sink.now)) (devices (g.S.Source.state c.run_input.new.source) (g.K.Sink.state c.write_answer.new.sink))
    c.run_input.result c.run_input.ensures c.write_answer.ensures
