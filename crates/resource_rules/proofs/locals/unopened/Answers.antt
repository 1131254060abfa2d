use Rattle.std.proofs.Common.{sym, subst}
use Rattle.std.specs.Prelude.{IfOk}
use Rattle.local_txn.specs.declared.transactions.ExecError.{ExecError}
use Rattle.resource_rules.specs.Locals.{Unopened}
use Rattle.resource_rules.proofs.LocalAnswers.{local_busy, local_refused}
use Rattle.resource_rules.proofs.locals.unopened.Goals as goal

pub returns-in-Stmt : goal.returns-in-Stmt
returns-in-Stmt c =
    subst (λ (told : ExecError). Unopened c.args.number told c.refused.result) (sym c.in-Stmt.is) (local_refused c.args.number c.in-Stmt.index c.in-Stmt.why c.refused.result c.refused.ensures)

pub returns-in-Busy : goal.returns-in-Busy
returns-in-Busy c =
    subst (λ (told : ExecError). IfOk c.busy.result (Unopened c.args.number told)) (sym c.in-Busy.is) (local_busy c.args.number c.in-Busy.key c.in-Busy.by c.busy.result c.busy.ensures)
