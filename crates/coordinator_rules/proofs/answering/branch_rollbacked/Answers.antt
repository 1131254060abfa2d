use Rattle.std.proofs.Common.{◌∙◌, sym}
use Rattle.coordinator_rules.specs.Knowledge.{knows}
use Rattle.coordinator_rules.proofs.TakesBranches.{rollback_ignored, rollback_counted}
use Rattle.coordinator_rules.proofs.answering.branch_rollbacked.Goals as goal

pub returns-then-not-may_roll_back : goal.returns-then-not-may_roll_back
returns-then-not-may_roll_back c = λ times m from.
    rollback_ignored (knows times c.args.memory.now m) c.args.now from c.args.leg c.args.status c.args.stmt (sym c.may_roll_back.ensures ∙ c.if-not-may_roll_back.true) c.rests.result c.rests.ensures

pub returns : goal.returns
returns c = λ times m from.
    rollback_counted (knows times c.args.memory.now m) c.args.now from c.args.leg c.args.status c.args.stmt c.ranges.now.fits (sym c.may_roll_back.ensures ∙ c.if-not-may_roll_back.false) c.end.result c.end.ensures
