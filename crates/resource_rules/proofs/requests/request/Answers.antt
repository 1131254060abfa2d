use Rattle.std.proofs.Common.{◌∙◌, sym, ap}
use Rattle.seata_types.specs.declared.messages.Message.TheVariants as message
use Rattle.seata_types.specs.declared.statements.Work.TheVariants as work
use Rattle.resource_rules.proofs.Owners.{asks_branch, asks_rows, told_as}
use Rattle.resource_rules.proofs.requests.request.Goals as goal

pub returns-then-is_nobody : goal.returns-then-is_nobody
returns-then-is_nobody c =
    ap (message.LockQuery c.args.number c.args.txn.now.ticket) c.in_ok-check.ensures.rows
    ∙ asks_rows c.args.number c.args.txn.now (sym c.is_nobody.ensures ∙ c.if-is_nobody.true)

pub returns-in-At : goal.returns-in-At
returns-in-At c =
    told_as c.at_register.result _ _ c.at_register.ensures
    (asks_branch c.args.number c.args.txn.now (work.At c.in-At.field-0) (sym c.is_nobody.ensures ∙ c.if-is_nobody.false) c.in-At.is)

pub returns-in-Tcc : goal.returns-in-Tcc
returns-in-Tcc c =
    c.tcc_register.ensures
    ∙ asks_branch c.args.number c.args.txn.now (work.Tcc c.in-Tcc.field-0) (sym c.is_nobody.ensures ∙ c.if-is_nobody.false) c.in-Tcc.is
