use Rattle.std.proofs.Common.{length}
use Rattle.lock_table.specs.Locks.{locks}
use Rattle.lock_table.proofs.Answered.{both_cost, first_finds, one_cost, then_finds}
use Rattle.lock_table.proofs.table.LockTable.conflict.Goals as goal

pub returns-in-Ok-clause-found : goal.returns-in-Ok-clause-found
returns-in-Ok-clause-found g c = then_finds (locks c.args.self.now) c.args.xid c.args.hold.now c.args.check.now c.search-in-Ok.result c.in-Ok.ensures.found c.search-in-Ok.ensures.found

pub returns-in-Ok-clause-cost : goal.returns-in-Ok-clause-cost
returns-in-Ok-clause-cost g c =
    both_cost (length c.args.hold.now) (length c.args.check.now) (length (locks c.args.self.now)) c.args.steps.now c.search.new.steps c.search-in-Ok.new.steps c.search.ensures.cost c.search-in-Ok.ensures.cost

pub returns-in-Err-clause-found : goal.returns-in-Err-clause-found
returns-in-Err-clause-found g c = first_finds (locks c.args.self.now) c.args.xid c.args.hold.now c.args.check.now c.in-Err.error c.in-Err.ensures.found

pub returns-in-Err-clause-cost : goal.returns-in-Err-clause-cost
returns-in-Err-clause-cost g c = one_cost (length c.args.hold.now) (length c.args.check.now) (length (locks c.args.self.now)) c.args.steps.now c.search.new.steps c.search.ensures.cost
