use Rattle.retry_turns.proofs.QueueLaws.{is_least}
use Rattle.retry_turns.proofs.queue.first.Goals as goal

pub returns-in-Some-clause-least : goal.returns-in-Some-clause-least
returns-in-Some-clause-least c = λ order. is_least c.in-Some.field-0.now _ (c.in-Some.ensures.greatest order)
