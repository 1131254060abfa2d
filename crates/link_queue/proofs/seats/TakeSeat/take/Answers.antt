use Rattle.std.proofs.Common.{ap}
use Rattle.link_queue.proofs.Keeping.{pop_keeps}
use Rattle.link_queue.proofs.seats.TakeSeat.take.Goals as goal

pub pop_as-requires-clause-rule : goal.pop_as-requires-clause-rule
pop_as-requires-clause-rule g c = (pop_keeps _ _ (ap (λ v. v.takes) c.self.invariant.takes), λ items ends rule here. tt)
