use Rattle.std.proofs.Common.{◌∙◌, if◌then◌else◌, sym, ap}
use Rattle.seata_types.specs.declared.statuses.Decision.TheVariants as how
use Rattle.session_memory.specs.Changes.{is_begin}
use Rattle.coordinator_rules.specs.Choices.{has_passed_in}
use Rattle.coordinator_rules.specs.Knowledge.{knows}
use Rattle.coordinator_rules.proofs.Takes.{commit_tells, commit_decides_it}
use Rattle.coordinator_rules.proofs.deciding.commit.Goals as goal

pub returns-then-not-is_begin : goal.returns-then-not-is_begin
returns-then-not-is_begin c = λ times m.
    commit_tells (knows times c.args.memory.now m) c.args.now c.args.from c.args.xid c.status-status.result c.status-status.ensures
    (ap is_begin (sym c.status-status.ensures) ∙ sym c.is_begin.ensures ∙ c.if-not-is_begin.true) c.sends.result c.sends.ensures.value

pub returns : goal.returns
returns c = λ times m.
    commit_decides_it (knows times c.args.memory.now m) c.args.now c.args.from c.args.xid c.decided-status.result c.commit_or_timeout-how.result c.decided-status.ensures
    (ap is_begin (sym c.status-status.ensures) ∙ sym c.is_begin.ensures ∙ c.if-not-is_begin.false) c.ranges.now.fits
    (c.commit_or_timeout-how.ensures ∙ ap (λ b. if b then how.Timeout else how.Commit) (c.has_passed_in.ensures ∙ ap (λ o. has_passed_in o c.args.now) c.find.ensures)) c.sends-2.result c.sends-2.ensures.value
