use Rattle.std.proofs.Common.{sym, true≢false}
use Rattle.node_seat.proofs.seats.Seat.enter.Goals as goal

pub invariant_of-self : goal.invariant_of-self
invariant_of-self g c past starts = record { runs = λ runs. absurd (true≢false (sym runs)); keeps = λ runs. absurd (true≢false (sym runs)) }
