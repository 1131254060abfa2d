use Rattle.coordinator_rules.specs.Answers.{Answers}
use Rattle.coordinator_rules.specs.Knowledge.{knows, waits}
use Rattle.coordinator_rules.proofs.RulingLaws.{of_like, of_heard, ok_as}
use Rattle.coordinator_rules.proofs.ruling.answer.Goals as goal

pub returns-in-Turn-clause-answers : goal.returns-in-Turn-clause-answers
returns-in-Turn-clause-answers g c = λ retry.
    of_like (λ i. Answers (knows (waits retry c.args.forget) c.args.memory.now c.args.moments.now) i c.args.now c.turn.result) c.args.given.now _ c.in-Turn.is (c.turn.ensures retry)

pub returns-in-Message-clause-answers : goal.returns-in-Message-clause-answers
returns-in-Message-clause-answers g c =
    ok_as c.hear.result (λ a all retry. of_heard (λ i. Answers (knows (waits retry c.args.forget) c.args.memory.now c.args.moments.now) i c.args.now a) c.args.given.now _ _ _ c.in-Message.is c.get.ensures
    (all (waits retry c.args.forget) c.args.moments.now)) c.hear.ensures.answers
