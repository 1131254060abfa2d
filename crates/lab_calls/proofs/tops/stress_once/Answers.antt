use Rattle.lab_calls.proofs.Stressed.{stressed_once}
use Rattle.lab_calls.proofs.tops.stress_once.Goals as goal

pub returns : goal.returns
returns g c =
    stressed_once g.H.D.Disk.state g.H.Shelf.state c.args.shelf.now c.stress_made.new.shelf _ c.args.number c.args.size c.write_answer.result
    (g.K.Sink.state c.args.sink.now) (g.K.Sink.state c.write_answer.new.sink) c.stress_made.result c.stress_made.ensures c.write_answer.ensures
