use Rattle.seata_types.specs.declared.messages.Input.TheVariants as input
use Rattle.coordinator_rules.specs.Answers.{Answers}
use Rattle.coordinator_rules.specs.Knowledge.{knows}
use Rattle.coordinator_rules.proofs.RulingLaws.{of_like, others_ignored, query_heard, registers_heard}
use Rattle.coordinator_rules.proofs.ruling.hear.Goals as goal

pub returns-in-Begin-clause-answers : goal.returns-in-Begin-clause-answers
returns-in-Begin-clause-answers g c = λ times m.
    of_like (λ i. Answers (knows times c.args.memory.now m) (input.Message c.args.from i) c.args.now c.begin.result) c.args.message.now _ c.in-Begin.is (c.begin.ensures times m c.args.from)

pub returns-in-GlobalCommit-clause-answers : goal.returns-in-GlobalCommit-clause-answers
returns-in-GlobalCommit-clause-answers g c = λ times m.
    of_like (λ i. Answers (knows times c.args.memory.now m) (input.Message c.args.from i) c.args.now c.commit.result) c.args.message.now _ c.in-GlobalCommit.is (c.commit.ensures times m)

pub returns-in-GlobalRollback-clause-answers : goal.returns-in-GlobalRollback-clause-answers
returns-in-GlobalRollback-clause-answers g c = λ times m.
    of_like (λ i. Answers (knows times c.args.memory.now m) (input.Message c.args.from i) c.args.now c.roll_back.result) c.args.message.now _ c.in-GlobalRollback.is (c.roll_back.ensures times m)

pub returns-in-GlobalStatus-clause-answers : goal.returns-in-GlobalStatus-clause-answers
returns-in-GlobalStatus-clause-answers g c = λ times m.
    of_like (λ i. Answers (knows times c.args.memory.now m) (input.Message c.args.from i) c.args.now c.tell.result) c.args.message.now _ c.in-GlobalStatus.is (c.tell.ensures times m)

pub returns-in-BranchCommitted-clause-answers : goal.returns-in-BranchCommitted-clause-answers
returns-in-BranchCommitted-clause-answers g c = λ times m.
    of_like (λ i. Answers (knows times c.args.memory.now m) (input.Message c.args.from i) c.args.now c.branch_committed.result) c.args.message.now _ c.in-BranchCommitted.is (c.branch_committed.ensures times m c.args.from)

pub returns-in-BranchRollbacked-clause-answers : goal.returns-in-BranchRollbacked-clause-answers
returns-in-BranchRollbacked-clause-answers g c = λ times m.
    of_like (λ i. Answers (knows times c.args.memory.now m) (input.Message c.args.from i) c.args.now c.branch_rollbacked.result) c.args.message.now _ c.in-BranchRollbacked.is (c.branch_rollbacked.ensures times m c.args.from)

pub returns-in_default-clause-answers : goal.returns-in_default-clause-answers
returns-in_default-clause-answers g c = λ times m.
    others_ignored (knows times c.args.memory.now m) c.args.now c.args.from c.args.message.now c.in_default.not-Begin c.in_default.not-GlobalCommit c.in_default.not-GlobalRollback c.in_default.not-GlobalStatus
    c.in_default.not-Register c.in_default.not-LockQuery c.in_default.not-BranchCommitted c.in_default.not-BranchRollbacked c.rests.result c.rests.ensures

pub returns-in-Register-clause-answers : goal.returns-in-Register-clause-answers
returns-in-Register-clause-answers g c =
    registers_heard c.args.memory.now c.args.from c.args.message.now c.args.now c.in-Register.xid
    (record { resource = c.in-Register.resource; call = c.in-Register.call; ticket = c.in-Register.ticket; kind = c.in-Register.kind })
    c.in-Register.hold c.in-Register.check c.as_slice-rows.result.now c.as_slice.result.now c.in-Register.is c.as_slice-rows.ensures c.as_slice.ensures c.register.result c.register.ensures.answers

pub returns-in-LockQuery-clause-answers : goal.returns-in-LockQuery-clause-answers
returns-in-LockQuery-clause-answers g c =
    query_heard c.args.memory.now c.args.from c.args.message.now c.args.now c.in-LockQuery.resource c.in-LockQuery.ticket c.in-LockQuery.check c.as_slice-rows-in-LockQuery.result.now c.in-LockQuery.is c.as_slice-rows-in-LockQuery.ensures
    c.query.result c.query.ensures
