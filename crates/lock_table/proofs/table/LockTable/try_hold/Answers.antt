use Rattle.std.proofs.Common.{length}
use Rattle.std.proofs.lemmas.Result.{err_from_is_err_and}
use Rattle.lock_table.specs.Locks.{locks}
use Rattle.lock_table.proofs.Answered.{refused_answers, search_cost, took_cost}
use Rattle.lock_table.proofs.Firsts.{free_first}
use Rattle.lock_table.proofs.table.LockTable.try_hold.Goals as goal

pub returns-in_err-conflict-clause-rows : goal.returns-in_err-conflict-clause-rows
returns-in_err-conflict-clause-rows g c =
    let p = err_from_is_err_and c.from_residual.result c.from_residual.ensures.1 in
    rw (p.1, p.2) (refused_answers c.args.self.now c.args.leg c.args.hold.now c.args.check.now c.in_err-conflict.field-0.0 c.in_err-conflict.ensures.found)

pub returns-in_err-conflict-clause-cost : goal.returns-in_err-conflict-clause-cost
returns-in_err-conflict-clause-cost g c = search_cost (length c.args.hold.now) (length c.args.check.now) (length (locks c.args.self.now)) c.args.steps.now c.conflict.new.steps c.conflict.ensures.cost

pub hold-requires : goal.hold-requires
hold-requires g c = free_first (locks c.args.self.now) c.args.leg.xid c.args.hold.now c.args.check.now c.in_ok-conflict.ensures.found

pub returns-in-Ok-clause-rows : goal.returns-in-Ok-clause-rows
returns-in-Ok-clause-rows g c = (c.in_ok-conflict.ensures.found, c.in-Ok.ensures.ok)

pub returns-in-Ok-clause-cost : goal.returns-in-Ok-clause-cost
returns-in-Ok-clause-cost g c =
    took_cost (length c.args.hold.now) (length c.args.check.now) (length (locks c.args.self.now)) c.args.steps.now c.conflict.new.steps c.hold.new.steps c.conflict.ensures.cost c.hold.ensures.cost

pub returns-in-Err-clause-cost : goal.returns-in-Err-clause-cost
returns-in-Err-clause-cost g c =
    took_cost (length c.args.hold.now) (length c.args.check.now) (length (locks c.args.self.now)) c.args.steps.now c.conflict.new.steps c.hold.new.steps c.conflict.ensures.cost c.hold.ensures.cost
