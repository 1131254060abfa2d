use Rattle.std.proofs.Common.{refl, subst, arith}
use Rattle.seata_types.specs.declared.acts.Act.TheVariants as act
use Rattle.session_log.specs.declared.sessions.Snapshot.{Snapshot}
use Rattle.std.specs.Prelude.{None}
use Rattle.session_store.specs.Keeping.{managers_of, resources_of}
use Rattle.coordinator_rules.specs.Costs.{AnswersCost}
use Rattle.coordinator_core.specs.Answers.{IsWithin}
use Rattle.coordinator_core.proofs.Made.{input_costs, is_made, sent_always}
use Rattle.coordinator_core.proofs.Taken.{none_taken, taken_answers}
use Rattle.coordinator_core.proofs.Turning.{input_ruled}
use Rattle.coordinator_core.proofs.table.Table.by_rules.Goals as goal

pub take-requires-clause-asked : goal.take-requires-clause-asked
take-requires-clause-asked g c =
    let is = input_ruled c.args.self.now c.args.input.now c.memory-memory.result.now c.args.now c.in-Ok.answer c.memory-memory.ensures c.in-Ok.ensures.answers in
    is_made c.args.self.now c.args.now c.args.input.now c.requires.served c.in-Ok.answer.step.act c.in-Ok.answer.asked is.ruled.recorded

pub returns-in-Ok-clause-answers : goal.returns-in-Ok-clause-answers
returns-in-Ok-clause-answers g c =
    let is = input_ruled c.args.self.now c.args.input.now c.memory-memory.result.now c.args.now c.in-Ok.answer c.memory-memory.ensures c.in-Ok.ensures.answers in
    taken_answers g.D.Disk.state (IsWithin c.args.self.now) c.args.self.now c.take.new.self c.args.input.now c.args.now c.in-Ok.answer is.ruled
    (sent_always c.args.input.now c.in-Ok.answer.step c.requires.message is.sent (managers_of c.args.self.now.sessions) (resources_of c.args.self.now.sessions)) c.take.result c.take.ensures.taken

pub returns-in-Ok-clause-cost : goal.returns-in-Ok-clause-cost
returns-in-Ok-clause-cost g c =
    let is = input_ruled c.args.self.now c.args.input.now c.memory-memory.result.now c.args.now c.in-Ok.answer c.memory-memory.ensures c.in-Ok.ensures.answers in
    input_costs c.args.self.now c.args.input.now c.args.now c.in-Ok.answer.step.act c.in-Ok.answer.asked c.args.steps.now c.answer.new.steps c.take.new.steps is.ruled.recorded
    (subst (λ (s : Snapshot). AnswersCost c.args.input.now s c.args.steps.now c.answer.new.steps) c.memory-memory.ensures c.answer.ensures.cost) c.take.ensures.cost

pub returns-in-Err-clause-answers : goal.returns-in-Err-clause-answers
returns-in-Err-clause-answers g c = none_taken g.D.Disk.state (IsWithin c.args.self.now) c.args.self.now c.args.input.now c.args.now

pub returns-in-Err-clause-cost : goal.returns-in-Err-clause-cost
returns-in-Err-clause-cost g c =
    input_costs c.args.self.now c.args.input.now c.args.now act.Ignored None c.args.steps.now c.answer.new.steps c.answer.new.steps refl
    (subst (λ (s : Snapshot). AnswersCost c.args.input.now s c.args.steps.now c.answer.new.steps) c.memory-memory.ensures c.answer.ensures.cost) (λ d small. omega arith)
