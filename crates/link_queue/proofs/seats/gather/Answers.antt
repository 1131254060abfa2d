use Rattle.std.proofs.Common.{ap}
use Rattle.link_queue.proofs.Keeping.{learns_all, merge_keeps}
use Rattle.link_queue.proofs.seats.gather.Goals as goal

pub absorb-requires-clause-rule : goal.absorb-requires-clause-rule
absorb-requires-clause-rule c =
    merge_keeps _ _ _ _ (ap (λ v. v.pushes) c.sender.invariant.pushes) (ap (λ v. v.takes) c.taker.invariant.takes)

pub learn_as-requires-clause-rule : goal.learn_as-requires-clause-rule
learn_as-requires-clause-rule c =
    learns_all _ _ (ap (λ v. v.pushes) c.absorb.ensures.rule) (ap (λ v. v.takes) c.absorb.ensures.rule)
