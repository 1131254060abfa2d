use Rattle.lab_calls.proofs.Shown.{shown_once}
use Rattle.lab_calls.proofs.tops.show_once.Goals as goal

pub returns : goal.returns
returns g c =
    shown_once g.H.D.Disk.state g.H.Shelf.state c.args.shelf.now c.answer_shown.new.shelf c.write_answer.result
    (g.K.Sink.state c.args.sink.now) (g.K.Sink.state c.write_answer.new.sink) c.answer_shown.result c.answer_shown.ensures c.write_answer.ensures
