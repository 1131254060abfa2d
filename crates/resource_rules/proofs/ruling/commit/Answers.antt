use Rattle.std.proofs.Common.{sym, subst}
use Rattle.seata_types.specs.declared.messages.Message.TheVariants as message
use Rattle.seata_types.specs.declared.statuses.BranchKind.{BranchKind}
use Rattle.local_txn.specs.Answers.{Tickets}
use Rattle.resource_rules.specs.Answers.{Hears}
use Rattle.resource_rules.specs.declared.answers.Answer.{Answer}
use Rattle.resource_rules.proofs.RulingLaws.{of_like}
use Rattle.resource_rules.proofs.ruling.commit.Goals as goal

pub returns-in-At : goal.returns-in-At
returns-in-At c = λ ts.
    subst (λ (k : BranchKind). Hears c.args.setup.now c.args.memory.now ts (message.BranchCommit c.args.leg.xid c.args.leg.branch k c.args.manager c.args.call) c.at_commit.result)
    (sym c.in-At.is) (c.at_commit.ensures c.args.setup.now ts c.args.manager c.args.call)

pub returns-in-Tcc : goal.returns-in-Tcc
returns-in-Tcc c =
    of_like (λ (k : BranchKind) (a : Answer). (ts : Tickets) → Hears c.args.setup.now c.args.memory.now ts (message.BranchCommit c.args.leg.xid c.args.leg.branch k c.args.manager c.args.call) a)
    c.args.kind _ c.confirm.result c.in-Tcc.is c.confirm.ensures
