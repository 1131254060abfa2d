use Rattle.disk_model.specs.Trace.{Restarted, disk_of}
use Rattle.disk_model.proofs.Images.{crashed_settled, crashed_picked, crashed_leaves, crashed_kind}
use Rattle.disk_model.proofs.Moments.{trace_settled, trace_picked, trace_kind, call_leaves}
use Rattle.disk_model.proofs.traced.TracedDiskDisk.restart.Goals as goal

pub returns-clause-settled : goal.returns-clause-settled
returns-clause-settled c =
    let old = c.args.self.now in
    let noted = c.in_ok-crash.ensures.noted in
    rw noted.trace (trace_settled old (Restarted c.args.pick) (crashed_settled c.args.pick (disk_of old) noted.sound))

pub returns-clause-outcome : goal.returns-clause-outcome
returns-clause-outcome c =
    let old = c.args.self.now in
    let noted = c.in_ok-crash.ensures.noted in
    rw noted.trace (trace_picked old (Restarted c.args.pick) c.args.pick (crashed_picked c.args.pick (disk_of old) noted.sound))

pub returns-clause-images : goal.returns-clause-images
returns-clause-images c =
    let old = c.args.self.now in
    let noted = c.in_ok-crash.ensures.noted in
    rw noted.trace (call_leaves old (Restarted c.args.pick) _ (crashed_leaves c.args.pick (disk_of old) noted.sound).now)

pub returns-clause-kind : goal.returns-clause-kind
returns-clause-kind c =
    let old = c.args.self.now in
    let noted = c.in_ok-crash.ensures.noted in
    rw noted.trace (trace_kind old (Restarted c.args.pick) (crashed_kind c.args.pick (disk_of old) noted.sound))
