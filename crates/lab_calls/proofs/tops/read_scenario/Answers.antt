use Rattle.lab_calls.proofs.Answered.{refused_read, scenario_read, unanswered}
use Rattle.lab_calls.proofs.tops.read_scenario.Goals as goal

pub returns-in-Err : goal.returns-in-Err
returns-in-Err g c =
    unanswered (g.S.Source.state c.args.source.now) (g.S.Source.state c.read_all.new.source) c.fault_status.result c.fault_status.ensures.statuses
    (λ four. c.in-Err.ensures.err (c.fault_status.ensures.failed four))

pub returns-in-Ok-read : goal.returns-in-Ok-read
returns-in-Ok-read g c =
    let e = c.in-Ok.ensures in
    scenario_read (g.S.Source.state c.args.source.now) (g.S.Source.state c.read_all.new.source) c.in-Ok.bytes.items e.bytes e.most e.end _ c.as_slice.ensures.value c.in-Ok-read.scenario
    c.in-Ok-read.ensures.ok c.in-Ok-read.ensures.runnable

pub returns : goal.returns
returns g c =
    let e = c.in-Ok.ensures in
    let r = c.refused.ensures in
    refused_read (g.S.Source.state c.args.source.now) (g.S.Source.state c.read_all.new.source) c.in-Ok.bytes.items e.bytes e.most e.end _ c.as_slice.ensures.value c.in-Err-read.error
    c.in-Err-read.ensures.err c.refused.result r.fault r.text r.status r.memory
