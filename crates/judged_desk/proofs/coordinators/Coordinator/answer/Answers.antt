use Rattle.judged_desk.proofs.Asked.{asked_comes}
use Rattle.judged_desk.proofs.coordinators.Coordinator.answer.Goals as goal

pub stand-requires-clause-comes : goal.stand-requires-clause-comes
stand-requires-clause-comes c =
    asked_comes c.args.self.now.memory c.args.given.now c.args.now c.in_ok-answer.answer.step.act c.in_ok-answer.answer.asked (c.in_ok-answer.ensures c.args.self.now.retry).ruled.recorded
