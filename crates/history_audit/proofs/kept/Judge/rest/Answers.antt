use Rattle.history_audit.proofs.JudgeLaws.{rests, rests_not, rests_nowhere}
use Rattle.history_audit.proofs.kept.Judge.rest.Goals as goal

pub returns-then-not-come_to_none : goal.returns-then-not-come_to_none
returns-then-not-come_to_none c = rests_nowhere c.args.self.now c.args.next.now c.come_to_none.result c.if-not-come_to_none.true c.come_to_none.ensures

pub returns-then-not-is_nothing : goal.returns-then-not-is_nothing
returns-then-not-is_nothing c =
    rests_not c.args.self.now c.args.next.now c.come_to_none.result c.is_nothing.result c.if-not-come_to_none.false c.come_to_none.ensures c.is_nothing.ensures c.if-not-is_nothing.true

pub returns : goal.returns
returns c = rests c.args.self.now c.args.next.now c.come_to_none.result c.is_nothing.result c.if-not-come_to_none.false c.come_to_none.ensures c.is_nothing.ensures c.if-not-is_nothing.false
