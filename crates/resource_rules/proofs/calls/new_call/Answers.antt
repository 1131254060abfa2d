use Rattle.history_rules.specs.ResourceRules.{meaning}
use Rattle.resource_rules.proofs.CallAnswers.{call_opened, call_unopened}
use Rattle.resource_rules.proofs.Owners.{told_as}
use Rattle.resource_rules.proofs.calls.new_call.Goals as goal

pub returns-in-Ok : goal.returns-in-Ok
returns-in-Ok c =
    told_as c.opened.result _ _ c.opened.ensures
    (call_opened c.args.number c.args.txns.now c.args.caller c.args.work.now (meaning c.args.tables.now c.args.work.now) c.requires.one c.in-Ok.txn c.in-Ok.ensures c.opening.result c.opening.ensures)

pub returns-in-Err : goal.returns-in-Err
returns-in-Err c =
    call_unopened c.args.number c.args.txns.now c.args.caller c.args.work.now (meaning c.args.tables.now c.args.work.now) c.in-Err.why c.unopened.result c.in-Err.ensures c.unopened.ensures
