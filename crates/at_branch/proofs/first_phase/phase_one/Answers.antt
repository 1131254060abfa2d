use Rattle.std.proofs.Common.{subst}
use Rattle.local_tables.specs.Calls.{effect}
use Rattle.local_tables.specs.Rows.{Database}
use Rattle.local_txn.specs.Answers.{owner_by, Executes}
use Rattle.rule_calls.specs.Openings.{TellsCall}
use Rattle.rule_calls.proofs.OpeningLaws.{tells_call}
use Rattle.seata_types.specs.declared.statements.Work.TheVariants as work
use Rattle.at_branch.proofs.first_phase.phase_one.Goals as goal

pub returns-clause-opens : goal.returns-clause-opens
returns-clause-opens g c =
    subst (λ (db : Database). Executes c.args.txns.now (owner_by c.args.xid.0 c.args.manager c.args.call (work.At c.args.stmts.now)) (effect db c.args.stmts.now) c.execute.result c.execute.new.self)
    c.tables.ensures c.execute.ensures

pub returns-clause-rules : goal.returns-clause-rules
returns-clause-rules g c =
    subst (λ (db : Database). TellsCall c.args.txns.now c.args.manager c.args.xid.0 c.args.call (work.At c.args.stmts.now) (effect db c.args.stmts.now) c.execute.result) c.tables.ensures
    (tells_call c.args.txns.now c.execute.new.self _ c.args.manager c.args.xid.0 c.args.call (work.At c.args.stmts.now) _ c.execute.result c.execute.ensures)
