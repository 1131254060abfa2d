use Rattle.std.proofs.Common.{◌∙◌, sym, ap}
use Rattle.session_memory.specs.Changes.{is_begin}
use Rattle.coordinator_rules.specs.Knowledge.{knows}
use Rattle.coordinator_rules.proofs.Takes.{rollback_tells, rollback_decides_it}
use Rattle.coordinator_rules.proofs.deciding.roll_back.Goals as goal

pub returns-then-not-is_begin : goal.returns-then-not-is_begin
returns-then-not-is_begin c = λ times m.
    rollback_tells (knows times c.args.memory.now m) c.args.now c.args.from c.args.xid c.status-status.result c.status-status.ensures
    (ap is_begin (sym c.status-status.ensures) ∙ sym c.is_begin.ensures ∙ c.if-not-is_begin.true) c.sends.result c.sends.ensures.value

pub returns : goal.returns
returns c = λ times m.
    rollback_decides_it (knows times c.args.memory.now m) c.args.now c.args.from c.args.xid c.decided-status.result c.decided-status.ensures
    (ap is_begin (sym c.status-status.ensures) ∙ sym c.is_begin.ensures ∙ c.if-not-is_begin.false) c.ranges.now.fits c.sends-2.result c.sends-2.ensures.value
