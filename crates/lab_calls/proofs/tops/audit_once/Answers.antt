use Rattle.lab_calls.specs.Streams.{devices}
use Rattle.lab_calls.proofs.Audited.{audited_once}
use Rattle.lab_calls.proofs.tops.audit_once.Goals as goal

pub returns : goal.returns
returns g c =
    audited_once c.write_answer.result (devices (g.S.Source.state c.args.source.now) (g.K.Sink.state c.args.sink.now)) (devices (g.S.Source.state c.audit_input.new.source) (g.K.Sink.state c.write_answer.new.sink))
    c.audit_input.result c.audit_input.ensures c.write_answer.ensures
