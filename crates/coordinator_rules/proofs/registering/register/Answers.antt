use Rattle.std.proofs.Common.{length}
use Rattle.coordinator_rules.specs.Costs.{held_rows}
use Rattle.coordinator_rules.proofs.RowSearch.{rows_cost, rows_ok}
use Rattle.coordinator_rules.proofs.registering.register.Goals as goal

pub returns-in-Some-clause-answers : goal.returns-in-Some-clause-answers
returns-in-Some-clause-answers g c = c.in-Some.ensures.answered c.args.hold.now c.args.check.now

pub returns-in-None-clause-answers : goal.returns-in-None-clause-answers
returns-in-None-clause-answers g c =
    rows_ok c.args.memory.now c.args.xid c.args.place c.args.hold.now c.args.check.now c.args.now c.ranges.now.fits c.in-None.ensures.answered c.by_rows.result c.by_rows.ensures.value c.by_rows.ensures.sent

pub returns-in-None-clause-cost : goal.returns-in-None-clause-cost
returns-in-None-clause-cost g c =
    rows_cost (length c.args.hold.now) (length c.args.check.now) (held_rows c.args.memory.now) c.args.steps.now c.before_rows.new.steps c.by_rows.new.steps c.before_rows.ensures.cost c.by_rows.ensures.cost
