use Rattle.lab_calls.proofs.Made.{made_once}
use Rattle.lab_calls.proofs.tops.make_once.Goals as goal

pub returns : goal.returns
returns g c =
    made_once c.args.number c.args.size c.write_answer.result (g.K.Sink.state c.args.sink.now) (g.K.Sink.state c.write_answer.new.sink)
    c.answer_made.result c.answer_made.ensures c.write_answer.ensures
