use Rattle.std.proofs.Common.{◌∙◌, sym}
use Rattle.coordinator_rules.specs.Knowledge.{knows}
use Rattle.coordinator_rules.proofs.TakesBranches.{commit_ignored, commit_counted}
use Rattle.coordinator_rules.proofs.answering.branch_committed.Goals as goal

pub returns-then-not-may_commit : goal.returns-then-not-may_commit
returns-then-not-may_commit c = λ times m from.
    commit_ignored (knows times c.args.memory.now m) c.args.now from c.args.leg c.args.status c.args.stmt (sym c.may_commit.ensures ∙ c.if-not-may_commit.true) c.rests.result c.rests.ensures

pub returns : goal.returns
returns c = λ times m from.
    commit_counted (knows times c.args.memory.now m) c.args.now from c.args.leg c.args.status c.args.stmt c.ranges.now.fits (sym c.may_commit.ensures ∙ c.if-not-may_commit.false) c.end.result c.end.ensures
