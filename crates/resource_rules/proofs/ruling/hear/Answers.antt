use Rattle.std.proofs.Common.{subst}
use Rattle.seata_types.specs.declared.messages.Message.{Message}
use Rattle.resource_rules.specs.Answers.{Hears}
use Rattle.resource_rules.specs.Serving.{ServesMessage}
use Rattle.resource_rules.proofs.RulingLaws.{ignores, of_like, ok_as}
use Rattle.resource_rules.proofs.ruling.hear.Goals as goal

pub call-requires-clause-counted : goal.call-requires-clause-counted
call-requires-clause-counted c = (subst (λ (m : Message). ServesMessage m) c.in-Call.is c.requires.served).0

pub call-requires-clause-statements : goal.call-requires-clause-statements
call-requires-clause-statements c = (subst (λ (m : Message). ServesMessage m) c.in-Call.is c.requires.served).1

pub returns-in-Call : goal.returns-in-Call
returns-in-Call c =
    of_like (Hears c.args.setup.now c.args.memory.now c.args.txns.now) c.args.message.now _ c.call.result c.in-Call.is (ok_as c.call.result (λ a all. all _) c.call.ensures)

pub returns-in-RegisterAnswer : goal.returns-in-RegisterAnswer
returns-in-RegisterAnswer c =
    of_like (Hears c.args.setup.now c.args.memory.now c.args.txns.now) c.args.message.now _ c.registered.result c.in-RegisterAnswer.is (ok_as c.registered.result (λ a all. all _) c.registered.ensures)

pub returns-in-LockAnswer : goal.returns-in-LockAnswer
returns-in-LockAnswer c =
    of_like (Hears c.args.setup.now c.args.memory.now c.args.txns.now) c.args.message.now _ c.lock_answered.result c.in-LockAnswer.is
    (ok_as c.lock_answered.result (λ a all. all c.args.setup.now) c.lock_answered.ensures)

pub returns-in-BranchCommit : goal.returns-in-BranchCommit
returns-in-BranchCommit c =
    of_like (Hears c.args.setup.now c.args.memory.now c.args.txns.now) c.args.message.now _ c.commit.result c.in-BranchCommit.is
    (ok_as c.commit.result (λ a all. all c.args.txns.now) c.commit.ensures)

pub returns-in-BranchRollback : goal.returns-in-BranchRollback
returns-in-BranchRollback c = of_like (Hears c.args.setup.now c.args.memory.now c.args.txns.now) c.args.message.now _ c.roll_back.result c.in-BranchRollback.is c.roll_back.ensures

pub returns-in_default : goal.returns-in_default
returns-in_default c =
    ignores c.args.setup.now c.args.memory.now c.args.txns.now c.args.message.now c.in_default.not-Call c.in_default.not-RegisterAnswer c.in_default.not-LockAnswer c.in_default.not-BranchCommit
    c.in_default.not-BranchRollback _ c.ignored.ensures
