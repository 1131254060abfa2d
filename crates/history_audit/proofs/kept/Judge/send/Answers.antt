use Rattle.history_audit.proofs.JudgeLaws.{all_kept, sends_as, sends_not}
use Rattle.history_audit.proofs.kept.Judge.send.Goals as goal

pub returns-then-not-same : goal.returns-then-not-same
returns-then-not-same c = sends_not c.args.next.now c.args.step c.sent_by-sent.result c.sent_by-sent.ensures c.in-Ok.same c.if-not-same.true c.in-Ok.ensures

pub returns : goal.returns
returns c =
    all_kept c.args.next.now c.args.step c.sent_by-sent.result c.sent_by-sent.ensures c.args.self.now c.enter.new.self c.add.new.self
    (sends_as c.args.next.now c.args.step c.sent_by-sent.result c.sent_by-sent.ensures c.in-Ok.same c.if-not-same.false c.in-Ok.ensures) c.in_ok-add.ensures c.enter.ensures
