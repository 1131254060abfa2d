use Rattle.std.proofs.Common.{ap}
use Rattle.seata_types.specs.declared.statements.Work.TheVariants as work
use Rattle.local_tables.specs.Calls.{effect}
use Rattle.local_txn.specs.declared.transactions.OpenTxn.{OpenTxn}
use Rattle.local_txn.proofs.CallLaws.{executed, is_planned, not_executed, rows_free}
use Rattle.local_txn.proofs.local_txns.LocalTxns.execute.Goals as goal

pub returns-in-Err : goal.returns-in-Err
returns-in-Err c =
    not_executed c.args.self.now c.args.xid c.args.call c.args.manager (work.At c.args.stmts.now) (effect c.args.tables.now c.args.stmts.now) c.in-Err.why c.in-Err.ensures

pub open-requires-clause-ticket : goal.open-requires-clause-ticket
open-requires-clause-ticket c =
    let p = is_planned c.args.self.now c.args.xid c.args.call c.args.manager (work.At c.args.stmts.now) (effect c.args.tables.now c.args.stmts.now) c.in-Ok.txn c.in-Ok.ensures in
    ap (λ (o : OpenTxn). o.ticket) p.is

pub open-requires-clause-free : goal.open-requires-clause-free
open-requires-clause-free c =
    let p = is_planned c.args.self.now c.args.xid c.args.call c.args.manager (work.At c.args.stmts.now) (effect c.args.tables.now c.args.stmts.now) c.in-Ok.txn c.in-Ok.ensures in
    rows_free c.args.self.now c.args.xid c.args.call c.args.manager (work.At c.args.stmts.now) (effect c.args.tables.now c.args.stmts.now) c.in-Ok.txn p

pub returns-in-Ok-open : goal.returns-in-Ok-open
returns-in-Ok-open c =
    let p = is_planned c.args.self.now c.args.xid c.args.call c.args.manager (work.At c.args.stmts.now) (effect c.args.tables.now c.args.stmts.now) c.in-Ok.txn c.in-Ok.ensures in
    executed c.args.self.now c.args.xid c.args.call c.args.manager (work.At c.args.stmts.now) (effect c.args.tables.now c.args.stmts.now) c.in-Ok.txn p c.in-Ok-open.ticket c.open.new.self
    c.in-Ok-open.ensures.ticket c.in-Ok-open.ensures.ok
