use Rattle.lab_calls.proofs.Audited.{judged_read, not_read}
use Rattle.lab_calls.proofs.tops.audit_input.Goals as goal

pub returns-in-Err : goal.returns-in-Err
returns-in-Err g c =
    not_read (g.S.Source.state c.args.source.now) (g.S.Source.state c.read_all.new.source) c.fault_status.result c.fault_status.ensures.statuses
    (λ four. c.in-Err.ensures.err (c.fault_status.ensures.failed four))

pub returns-in-Ok : goal.returns-in-Ok
returns-in-Ok g c =
    let e = c.in-Ok.ensures in
    judged_read (g.S.Source.state c.args.source.now) (g.S.Source.state c.read_all.new.source) c.in-Ok.bytes.items e.bytes e.most e.end _ c.as_slice.ensures.value c.answer_judged.result
    c.answer_judged.ensures.text c.answer_judged.ensures.memory
