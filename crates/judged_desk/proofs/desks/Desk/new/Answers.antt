use Rattle.std.proofs.Common.{false}
use Rattle.judged_desk.proofs.First.{first_stands}
use Rattle.judged_desk.proofs.desks.Desk.new.Goals as goal

pub returns : goal.returns
returns c = record {
  device = c.new.ensures false;
  stands = first_stands c.args.retry c.args.forget c.new-memory.result c.new-moments.result c.new-memory.ensures (λ i. record { turns = c.new-moments.ensures.turns i; rests = c.new-moments.ensures.rests i });
}
