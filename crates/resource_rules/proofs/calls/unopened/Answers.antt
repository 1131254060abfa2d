use Rattle.std.proofs.Common.{sym, subst}
use Rattle.std.specs.Prelude.{IfOk}
use Rattle.local_txn.specs.declared.transactions.ExecError.{ExecError}
use Rattle.resource_rules.specs.Calls.{Unopened}
use Rattle.resource_rules.proofs.CallAnswers.{call_busy, call_refused}
use Rattle.resource_rules.proofs.calls.unopened.Goals as goal

pub returns-in-Stmt : goal.returns-in-Stmt
returns-in-Stmt c =
    subst (λ (told : ExecError). IfOk c.refused.result (Unopened c.args.caller told)) (sym c.in-Stmt.is) (call_refused c.args.caller c.in-Stmt.index c.in-Stmt.why c.refused.result c.refused.ensures)

pub returns-in-Busy : goal.returns-in-Busy
returns-in-Busy c =
    subst (λ (told : ExecError). IfOk c.busy.result (Unopened c.args.caller told)) (sym c.in-Busy.is) (call_busy c.args.caller c.in-Busy.key c.in-Busy.by c.busy.result c.busy.ensures)
