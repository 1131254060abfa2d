use Rattle.local_tables.specs.Calls.{effect}
use Rattle.resource_rules.proofs.LocalAnswers.{local_opened, local_unopened}
use Rattle.resource_rules.proofs.Owners.{told_as}
use Rattle.resource_rules.proofs.locals.new_local.Goals as goal

pub returns-in-Ok : goal.returns-in-Ok
returns-in-Ok c =
    told_as c.opened.result _ _ c.opened.ensures
    (local_opened c.args.resource c.args.txns.now c.args.number c.args.stmts.now (effect c.args.tables.now c.args.stmts.now) c.in-Ok.txn c.in-Ok.ensures c.opening.result c.opening.ensures)

pub returns-in-Err : goal.returns-in-Err
returns-in-Err c =
    local_unopened c.args.resource c.args.txns.now c.args.number c.args.stmts.now (effect c.args.tables.now c.args.stmts.now) c.in-Err.why c.unopened.result c.in-Err.ensures c.unopened.ensures
