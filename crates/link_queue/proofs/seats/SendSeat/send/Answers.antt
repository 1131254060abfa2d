use Rattle.std.proofs.Common.{ap}
use Rattle.link_queue.proofs.Keeping.{learns_back, push_keeps}
use Rattle.link_queue.proofs.seats.SendSeat.send.Goals as goal

pub push_as-requires-clause-rule : goal.push_as-requires-clause-rule
push_as-requires-clause-rule g c =
    let may = ap (λ v. v.pushes) c.self.invariant.pushes in (push_keeps _ _ _ _ may, learns_back _ _ may)
