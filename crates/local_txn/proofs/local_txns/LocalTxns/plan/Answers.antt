use Rattle.std.proofs.Common.{◌≡◌, ◌≤◌, ◌∙◌, List, None, Err, length, ap, sym, subst, arith}
use Rattle.std.proofs.lemmas.Grind.{common_steps}
use Rattle.seata_types.specs.declared.limits.TheConstants.{FIELD_ITEMS}
use Rattle.seata_types.specs.declared.statements.Stmt.{Stmt}
use Rattle.seata_types.specs.declared.statements.Work.TheVariants as work
use Rattle.local_tables.specs.Calls.{effect, Means}
use Rattle.local_txn.specs.Answers.{at_opening, Plans}
use Rattle.local_txn.specs.declared.transactions.ExecError.{ExecError}
use Rattle.local_txn.specs.OpenTickets.{busy_row}
use Rattle.local_txn.proofs.CallLaws.{not_planned, told_busy, planned, none_told}
use Rattle.local_txn.proofs.local_txns.LocalTxns.plan.Goals as goal

pub effect-requires : goal.effect-requires
effect-requires c = subst (λ (l : List Stmt). length l ≤ FIELD_ITEMS) (sym (c.as_slice.ensures ∙ c.get.ensures)) c.requires.statements

pub returns-in-Err : goal.returns-in-Err
returns-in-Err c =
    subst (λ (told : ExecError). Plans c.args.self.now c.args.xid c.args.call c.args.manager (work.At c.args.stmts.now) (effect c.args.tables.now c.args.stmts.now) (Err told)) (sym c.refused.ensures)
    (not_planned c.args.self.now c.args.xid c.args.call c.args.manager (work.At c.args.stmts.now) (effect c.args.tables.now c.args.stmts.now) c.in-Err.error
    (subst (λ (l : List Stmt). Means (effect c.args.tables.now l) (Err c.in-Err.error)) (c.as_slice.ensures ∙ c.get.ensures) c.in-Err.ensures.means))

pub returns-in-Some : goal.returns-in-Some
returns-in-Some c =
    told_busy c.args.self.now c.args.xid c.args.call c.args.manager (work.At c.args.stmts.now) (effect c.args.tables.now c.args.stmts.now) c.in-Ok.effect
    (ap (effect c.args.tables.now) (sym (c.as_slice.ensures ∙ c.get.ensures)) ∙ c.in-Ok.ensures.means) c.in-Some.key.now c.in-Some.by c.busy-in-Some.result (sym c.in-Some.ensures) c.busy-in-Some.ensures

pub returns-in-Ok-at_call : goal.returns-in-Ok-at_call
returns-in-Ok-at_call c =
    let none : c.busy.result ≡ None = grind (arith, common_steps) in
    let free : busy_row c.args.self.now.opens c.in-Ok.effect ≡ None = none_told _ c.busy.result _ c.busy.ensures none in
    planned c.args.self.now c.args.xid c.args.call c.args.manager (work.At c.args.stmts.now) (effect c.args.tables.now c.args.stmts.now) c.in-Ok.effect
    (ap (effect c.args.tables.now) (sym (c.as_slice.ensures ∙ c.get.ensures)) ∙ c.in-Ok.ensures.means) c.in-Ok-at_call.txn free
    (c.in-Ok-at_call.ensures ∙ ap (λ t. at_opening t c.args.xid c.args.call c.args.manager (work.At c.args.stmts.now) c.in-Ok.effect) c.next.ensures)
