use Rattle.std.proofs.Common.{refl}
use Rattle.seata_types.specs.declared.messages.Message.TheVariants as message
use Rattle.seata_types.specs.declared.statuses.BranchKind.{BranchKind}
use Rattle.resource_rules.specs.Answers.{Hears}
use Rattle.resource_rules.specs.declared.answers.Answer.{Answer}
use Rattle.resource_rules.proofs.RulingLaws.{of_like, ok_as}
use Rattle.resource_rules.proofs.ruling.roll_back.Goals as goal

pub returns-in-At : goal.returns-in-At
returns-in-At c =
    of_like (λ (k : BranchKind) (a : Answer). Hears c.args.setup.now c.args.memory.now c.args.txns.now (message.BranchRollback c.args.leg.xid c.args.leg.branch k c.args.manager c.args.call) a)
    c.args.kind _ c.at_rollback.result c.in-At.is (ok_as c.at_rollback.result (λ a all. all c.args.setup.now c.args.txns.now c.args.manager c.args.call refl) c.at_rollback.ensures)

pub returns-in-Tcc : goal.returns-in-Tcc
returns-in-Tcc c =
    of_like (λ (k : BranchKind) (a : Answer). Hears c.args.setup.now c.args.memory.now c.args.txns.now (message.BranchRollback c.args.leg.xid c.args.leg.branch k c.args.manager c.args.call) a)
    c.args.kind _ c.cancel.result c.in-Tcc.is (ok_as c.cancel.result (λ a all. all c.args.txns.now) c.cancel.ensures)
